use Rattle.std.specs.Prelude.{◌≡◌, ℕ, ◌+◌, ◌<◌, ◌≤◌, ◌∷◌, [], List, length, Option, Some, None, Result, Ok, Err, Bool, true, false}
use Rattle.smack_base.specs.declared.rule_op.RuleOp.{RuleOp}
use Rattle.smack_base.specs.declared.ids.LabelId.{LabelId}
use Rattle.smack_base.specs.declared.ids.Pid.{Pid}
use Rattle.smack_base.specs.declared.modes.Modes.{Modes}
use Rattle.smack_base.specs.declared.cap.Cap.TheVariants as Cap
use Rattle.rules_spec.specs.declared.Batch.{Batch}
use Rattle.rules_spec.specs.Rulings.{ruling}
use Rattle.rules_spec.specs.Cases.{verdict_of_cases}
use Rattle.rules_spec.specs.Creds.{is_effective}
use Rattle.file_spec.specs.declared.Refusal.{Refusal}
use Rattle.file_spec.specs.declared.Refusal.TheVariants as Refusal
use Rattle.file_spec.specs.declared.Compiled.{Compiled}
use Rattle.file_spec.specs.declared.Compiled.TheVariants as Compiled
use Rattle.file_spec.specs.Files.{compiled}
use Rattle.world_spec.specs.declared.Call.{Call}
use Rattle.world_spec.specs.declared.Call.TheVariants as Call
use Rattle.world_spec.specs.declared.tasks.TaskCall.TheVariants as TaskCall
use Rattle.world_spec.specs.declared.Entry.{Entry}
use Rattle.world_spec.specs.declared.Reply.TheVariants as Reply
use Rattle.rule_word.specs.Layout.{IsPackable}
use Rattle.live_table.specs.Lists.{Has}
use Rattle.live_table.specs.Batches.{rows_of}
use Rattle.live_table.specs.Core.{row_count}
use Rattle.smack_world.specs.Stepping.{most_entries}
use Rattle.world_spec.specs.Replies.{child_of}
use Rattle.smack_kernel.specs.Histories.{world_means, AreOneHistory}
use Rattle.smack_kernel.specs.Growth.{Publishes, batch_of}
use Rattle.smack_kernel.specs.Tasks.{TaskValue, Does, Stays, Answers, Calls, Starts, most_calls}
use Rattle.smack_kernel.specs.declared.kernel.Asked.{Asked}
use Rattle.smack_kernel.specs.declared.kernel.Asked.TheVariants as Asked
use Rattle.smack_kernel.specs.declared.kernel.Called.{Called}
use Rattle.smack_kernel.specs.declared.kernel.Called.TheVariants as Called
use Rattle.smack_kernel.specs.declared.kernel.Written.{Written}
use Rattle.smack_kernel.specs.declared.kernel.Written.TheVariants as Written

-- the task has made as many calls as it may, and nothing changes
abbrev pub IsSeqFull : TaskValue → TaskValue → Type 0
IsSeqFull v w = (v.made ≡ most_calls) × (w ≡ v)

-- a question is answered by the ordered cases, in the version that the task has then seen whole
abbrev pub IsAsked : TaskValue → TaskValue → LabelId → LabelId → Modes → Asked → Type 0
IsAsked v w s o m (Asked.Verdict version verdict) =
    (v.made < most_calls) × Answers v w version × (verdict ≡ verdict_of_cases (ruling w.journal) s o m)
IsAsked v w s o m Asked.SeqFull = IsSeqFull v w

-- whether the call is a fork
abbrev pub is_fork_call : Call → Bool
is_fork_call (Call.Task (TaskCall.Fork pid)) = true
is_fork_call (Call.Task TaskCall.Exit) = false
is_fork_call (Call.Task (TaskCall.Relabel l)) = false
is_fork_call (Call.Task (TaskCall.DropCap cap)) = false
is_fork_call (Call.Task (TaskCall.SelfRules rules)) = false
is_fork_call (Call.Task (TaskCall.Relabels labels)) = false
is_fork_call (Call.Task (TaskCall.Kill pid sig)) = false
is_fork_call (Call.Task TaskCall.Take) = false
is_fork_call (Call.Task (TaskCall.TraceRead pid)) = false
is_fork_call (Call.Task (TaskCall.TraceAttach pid)) = false
is_fork_call (Call.Tree call) = false

-- the history has as many entries as it may, and the task makes none
abbrev pub IsTrailFull : TaskValue → TaskValue → Type 0
IsTrailFull v w = (v.made < most_calls) × Stays v w × (length w.history ≡ most_entries)

-- an object call is made; where the history or the count of calls is full it comes back
abbrev pub IsCalled : TaskValue → TaskValue → Call → Called → Type 0
IsCalled v w call (Called.Entry r) = (v.made < most_calls) × Calls v w call r
IsCalled v w call (Called.TrailFull back) = IsTrailFull v w × (back ≡ call)
IsCalled v w call (Called.SeqFull back) = IsSeqFull v w × (back ≡ call)

-- a fork is made: the child is there exactly where the reply is its number
abbrev pub IsForked : TaskValue → TaskValue → Pid → Called → Option TaskValue → Type 0
IsForked v w pid (Called.Entry r) None =
    (v.made < most_calls) × Calls v w (Call.Task (TaskCall.Fork pid)) r × (child_of r.reply ≡ None)
IsForked v w pid (Called.Entry r) (Some c) =
    (v.made < most_calls) × Calls v w (Call.Task (TaskCall.Fork pid)) r × (r.reply ≡ Reply.Child c.number) × Starts w c c.number
IsForked v w pid (Called.TrailFull back) None = IsTrailFull v w × (back ≡ Call.Task (TaskCall.Fork pid))
IsForked v w pid (Called.TrailFull back) (Some c) = ⊥
IsForked v w pid (Called.SeqFull back) None = IsSeqFull v w × (back ≡ Call.Task (TaskCall.Fork pid))
IsForked v w pid (Called.SeqFull back) (Some c) = ⊥

-- a batch of a text is published: it ends the seen journal, and the index stands for it
pub record Wrote (v w : TaskValue) (ops : List RuleOp) (version : ℕ) : Type 0 where
  pub does : Does v w (batch_of v.number (v.made + 1) ops ∷ []) []
  pub made : w.made ≡ v.made + 1
  pub creds : w.creds ≡ v.creds
  pub now : version ≡ w.version
  pub whole : w.version ≡ length w.journal
  pub publishes : Publishes v.number v.ended v.journal w.journal v.history w.history (v.made + 1) ops v.creds

-- writes that a batch can hold
abbrev pub ArePackedOps : List RuleOp → Type 0
ArePackedOps ops = (length ops < 65536) × ((op : RuleOp) → Has op ops → IsPackable op)

-- what came of the writes of a good text
abbrev pub IsOpsWritten : TaskValue → TaskValue → List RuleOp → Written → Type 0
IsOpsWritten v w ops (Written.Batch version) = Wrote v w ops version
IsOpsWritten v w ops (Written.Refused version Refusal.NotPrivileged) =
    Answers v w version × (is_effective v.creds Cap.MacAdmin (ruling w.journal) ≡ false)
IsOpsWritten v w ops (Written.Refused version (Refusal.JournalFull rows)) =
    Answers v w version × (is_effective v.creds Cap.MacAdmin (ruling w.journal) ≡ true)
    × (rows ≡ rows_of w.journal) × (row_count < rows + length ops + 1)
IsOpsWritten v w ops (Written.Refused version fault) = ⊥
IsOpsWritten v w ops (Written.Entry r) = ⊥
IsOpsWritten v w ops Written.TrailFull = ⊥
IsOpsWritten v w ops Written.SeqFull = ⊥

-- what came of a good text that is an object call
abbrev pub IsOwnWritten : TaskValue → TaskValue → Call → Written → Type 0
IsOwnWritten v w call (Written.Batch version) = ⊥
IsOwnWritten v w call (Written.Entry r) = (v.made < most_calls) × Calls v w call r
IsOwnWritten v w call (Written.Refused version fault) = ⊥
IsOwnWritten v w call Written.TrailFull = IsTrailFull v w
IsOwnWritten v w call Written.SeqFull = IsSeqFull v w

-- a text is refused: the call is counted, and nothing else changes
abbrev pub IsTextRefused : TaskValue → TaskValue → ℕ → Type 0
IsTextRefused v w version = (w ≡ record v { made = v.made + 1 }) × (version ≡ v.version)

-- A text that does not become rules is refused for it. One that does is refused where CAP_MAC_ADMIN is not effective in
-- the version that is seen with the pen, and else where the journal has no room.
abbrev pub IsWriteRefused : List (List ℕ) → TaskValue → TaskValue → List ℕ → List ℕ → ℕ → Refusal → Type 0
IsWriteRefused labels v w file text version Refusal.NotPrivileged =
    (ops : List RuleOp) × (compiled labels file text ≡ Ok (Compiled.Rules ops)) × Answers v w version
    × (is_effective v.creds Cap.MacAdmin (ruling w.journal) ≡ false)
IsWriteRefused labels v w file text version (Refusal.JournalFull rows) =
    (ops : List RuleOp) × (compiled labels file text ≡ Ok (Compiled.Rules ops)) × Answers v w version
    × (is_effective v.creds Cap.MacAdmin (ruling w.journal) ≡ true) × (rows ≡ rows_of w.journal)
    × (row_count < rows + length ops + 1)
IsWriteRefused labels v w file text version fault = (compiled labels file text ≡ Err fault) × IsTextRefused v w version

-- the call that a text becomes which is written to a file of the writing task's own rules
abbrev pub written_call : Result Compiled Refusal → Option Call
written_call (Ok (Compiled.Rules ops)) = None
written_call (Ok (Compiled.SelfRules rules)) = Some (Call.Task (TaskCall.SelfRules rules))
written_call (Ok (Compiled.Relabels labels)) = Some (Call.Task (TaskCall.Relabels labels))
written_call (Err fault) = None

-- A text is written: to a file of rules or settings it becomes a batch, and to one of the task's own rules it becomes an
-- object call.
abbrev pub IsWritten : List (List ℕ) → TaskValue → TaskValue → List ℕ → List ℕ → Written → Type 0
IsWritten labels v w file text (Written.Batch version) =
    (v.made < most_calls) × ((ops : List RuleOp) × (compiled labels file text ≡ Ok (Compiled.Rules ops)) × Wrote v w ops version)
IsWritten labels v w file text (Written.Entry r) =
    (v.made < most_calls) × ((call : Call) × (written_call (compiled labels file text) ≡ Some call) × Calls v w call r)
IsWritten labels v w file text (Written.Refused version fault) =
    (v.made < most_calls) × IsWriteRefused labels v w file text version fault
IsWritten labels v w file text Written.TrailFull =
    IsTrailFull v w × ((call : Call) × (written_call (compiled labels file text) ≡ Some call))
IsWritten labels v w file text Written.SeqFull = IsSeqFull v w

-- A batch is published with the pen, and refused with it where privilege or room is lacking. Else the pen is not taken.
abbrev pub TakesPen : TaskValue → TaskValue → Written → Type 0
TakesPen v w (Written.Batch version) = w.pens ≡ v.pens + 1
TakesPen v w (Written.Refused version Refusal.NotPrivileged) = w.pens ≡ v.pens + 1
TakesPen v w (Written.Refused version (Refusal.JournalFull rows)) = w.pens ≡ v.pens + 1
TakesPen v w (Written.Refused version fault) = w.pens ≡ v.pens
TakesPen v w (Written.Entry r) = w.pens ≡ v.pens
TakesPen v w Written.TrailFull = w.pens ≡ v.pens
TakesPen v w Written.SeqFull = w.pens ≡ v.pens

-- a mark is counted, and answers the version of the index
abbrev pub IsMarked : TaskValue → TaskValue → ℕ → Type 0
IsMarked v w version = (v.made < most_calls) × (w ≡ record v { made = v.made + 1 }) × (version ≡ v.version)

-- a whole task may close the kernel: its numbers are 0 and each task that an entry of theirs makes
pub record IsWholeTask (v : TaskValue) : Type 0 where
  pub first : Has 0 (v.number ∷ v.ended)
  pub closed : (e : Entry) → Has e v.history → Has e.task (v.number ∷ v.ended) → (k : ℕ)
      → world_means.child e ≡ Some k → Has k (v.number ∷ v.ended)

-- what a closed kernel hands out: its labels, and the journal and history that were made, which are one history
pub record ClosedValue : Type 0 where
  pub labels : List (List ℕ)
  pub journal : List Batch
  pub history : List Entry

-- The closed journal and history are those that the task has seen, and they are one history. Each batch is of one of the
-- task's numbers.
pub record Closes (labels : List (List ℕ)) (v : TaskValue) (c : ClosedValue) : Type 0 where
  pub labels_are : c.labels ≡ labels
  pub journal : c.journal ≡ v.journal
  pub history : c.history ≡ v.history
  pub one : AreOneHistory c.journal c.history
  pub tasks : (b : Batch) → Has b v.journal → Has b.task (v.number ∷ v.ended)
