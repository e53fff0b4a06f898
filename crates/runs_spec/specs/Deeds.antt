use Rattle.std.specs.Prelude.{◌≡◌, ℕ, ◌+◌, ◌<◌, ◌≤◌, List, [], ◌∷◌, length, take, Bool, true, false, None}
use Rattle.std.specs.List.{AllByRecursion}
use Rattle.smack_base.specs.declared.cap.Cap.TheVariants as Cap
use Rattle.rules_spec.specs.declared.Batch.{Batch}
use Rattle.rules_spec.specs.Cases.{verdict_of_cases}
use Rattle.rules_spec.specs.Creds.{Creds, is_effective}
use Rattle.file_spec.specs.declared.Refusal.{Refusal}
use Rattle.file_spec.specs.declared.Refusal.TheVariants as Refusal
use Rattle.world_spec.specs.declared.Entry.{Entry}
use Rattle.world_spec.specs.Worlds.{creds_of}
use Rattle.world_spec.specs.Replays.{replay_of, version_of}
use Rattle.script_spec.specs.Lines.{ScriptLine}
use Rattle.record_spec.specs.declared.AskedLine.{AskedLine}
use Rattle.record_spec.specs.declared.AskedWhat.{AskedWhat}
use Rattle.record_spec.specs.declared.AskedWhat.TheVariants as AskedWhat
use Rattle.live_table.specs.Batches.{batches_by}
use Rattle.legal_spec.specs.Calls.{Stands}
use Rattle.legal_spec.specs.Legal.{rows_taken}
use Rattle.legal_spec.specs.Lines.{IsBatchOfLine, IsCallOfLine, IsAskedOfLine}
use Rattle.smack_kernel.specs.Answers.{is_fork_call}
use Rattle.world_spec.specs.Replies.{child_of}
use Rattle.smack_kernel.specs.Histories.{world_means}
use Rattle.live_table.specs.Machines.{entries_by}
use Rattle.runs_spec.specs.Scripts.{Scripted}

-- the entries of one task, in order
abbrev pub entries_of : ℕ → List Entry → List Entry
entries_of = entries_by world_means

-- One call of a task: an entry and how many stand before it; a batch, how many stand before it, and the length of the
-- history that the task had then seen; or an asked, refused or waited line and that length.
pub data Deed : Type 0 where
  entered : Entry → ℕ → Deed
  batched : ℕ → Batch → ℕ → Deed
  answered : AskedLine → ℕ → Deed

abbrev pub asked_in : Deed → List AskedLine
asked_in (entered e n) = []
asked_in (batched n b m) = []
asked_in (answered l m) = l ∷ []

abbrev pub entries_in : List Deed → List Entry
entries_in [] = []
entries_in (entered e n ∷ ds) = e ∷ entries_in ds
entries_in (batched n b m ∷ ds) = entries_in ds
entries_in (answered l m ∷ ds) = entries_in ds

abbrev pub batches_in : List Deed → List Batch
batches_in [] = []
batches_in (entered e n ∷ ds) = batches_in ds
batches_in (batched n b m ∷ ds) = b ∷ batches_in ds
batches_in (answered l m ∷ ds) = batches_in ds

-- the credentials of a task after the first entries of a history
abbrev pub creds_after : List Batch → List Entry → ℕ → ℕ → Creds
creds_after j h k m = creds_of (replay_of j (take m h)) k

-- the history has so many entries, these are within the journal, and they have the task
pub record SeesTask (j : List Batch) (h : List Entry) (k m : ℕ) : Type 0 where
  pub long : m ≤ length h
  pub versions : AllByRecursion (λ e. e.version ≤ length j) (take m h)
  pub there : k < length (replay_of j (take m h)).tasks

-- Why a text was refused is so. Want of privilege: CAP_MAC_ADMIN is not effective in the version for the credentials
-- that the task had. Want of room: these are the rows of the version.
abbrev pub IsTrueRefusal : List Batch → List Entry → ℕ → ℕ → ℕ → Refusal → Type 0
IsTrueRefusal j h k m v Refusal.NoSuchFile = Unit {0}
IsTrueRefusal j h k m v Refusal.TooLong = Unit {0}
IsTrueRefusal j h k m v (Refusal.BadLine bad) = Unit {0}
IsTrueRefusal j h k m v (Refusal.UnknownLabel line) = Unit {0}
IsTrueRefusal j h k m v Refusal.NotPrivileged =
    SeesTask j h k m × (is_effective (creds_after j h k m) Cap.MacAdmin (version_of j v) ≡ false)
IsTrueRefusal j h k m v (Refusal.JournalFull rows) = rows ≡ rows_taken (take v j)

-- what an asked line answered is so in its version
abbrev pub IsTrueAnswer : List Batch → List Entry → ℕ → ℕ → ℕ → AskedWhat → Type 0
IsTrueAnswer j h k m v (AskedWhat.Ask verdict) = verdict ≡ verdict_of_cases (version_of j v) verdict.subject verdict.object verdict.modes
IsTrueAnswer j h k m v (AskedWhat.Refused file fault) = IsTrueRefusal j h k m v fault
IsTrueAnswer j h k m v (AskedWhat.Wait pid) = Unit {0}

-- Where a call of task k stands, and that it is lawful there: the task of a batch had CAP_MAC_ADMIN effective in the
-- version before it, for the credentials that it then had.
abbrev pub IsAt : List Batch → List Entry → ℕ → Deed → Type 0
IsAt j h k (entered e n) = Stands h n e
IsAt j h k (batched n b m) =
    Stands j n b × SeesTask j h k m × (is_effective (creds_after j h k m) Cap.MacAdmin (version_of j n) ≡ true)
IsAt j h k (answered l m) = (l.version ≤ length j) × IsTrueAnswer j h k m l.version l.what

abbrev pub AllAt : List Batch → List Entry → ℕ → List Deed → Type 0
AllAt j h k [] = Unit {0}
AllAt j h k (d ∷ ds) = IsAt j h k d × AllAt j h k ds

-- all calls of a task in a journal and a history are these
pub record Made (j : List Batch) (h : List Entry) (k : ℕ) (ds : List Deed) : Type 0 where
  pub batches : batches_by k j ≡ batches_in ds
  pub entries : entries_of k h ≡ entries_in ds
  pub at : AllAt j h k ds

-- call q of task k is that of a line
abbrev pub FitsLine : Scripted → ℕ → ℕ → Deed → ScriptLine → Type 0
FitsLine s k q (entered e n) l = (e.task ≡ k) × (e.seq ≡ q) × IsCallOfLine s.labels s.names l e.call
FitsLine s k q (batched n b m) l = (b.task ≡ k) × (b.seq ≡ q) × IsBatchOfLine s.labels l b.ops
FitsLine s k q (answered a m) l = (a.task ≡ k) × (a.seq ≡ q) × IsAskedOfLine s.labels s.names l a.what

-- the calls from q on are those of the first of these lines, in order, each once, and the others are left
abbrev pub FitsTo : Scripted → ℕ → ℕ → List Deed → List ScriptLine → List ScriptLine → Type 0
FitsTo s k q [] ls rest = ls ≡ rest
FitsTo s k q (d ∷ ds) [] rest = ⊥
FitsTo s k q (d ∷ ds) (l ∷ ls) rest = FitsLine s k q d l × FitsTo s k (q + 1) ds ls rest

abbrev pub IsNoWait : AskedWhat → Type 0
IsNoWait (AskedWhat.Ask verdict) = Unit {0}
IsNoWait (AskedWhat.Refused file fault) = Unit {0}
IsNoWait (AskedWhat.Wait pid) = ⊥

-- a call that makes no task and waits for none; where nothing stopped, it is no fork
abbrev pub IsTaskless : Bool → Deed → Type 0
IsTaskless full (entered e n) = (child_of e.reply ≡ None) × (full ≡ true → is_fork_call e.call ≡ false)
IsTaskless full (batched n b m) = Unit {0}
IsTaskless full (answered l m) = IsNoWait l.what

-- the version that a call needs, and that which it reaches
abbrev pub by_version : ℕ → Deed → ℕ → Type 0
by_version a (entered e n) b = (a ≤ e.version) × (e.version ≤ b)
by_version a (batched n x m) b = (a ≤ n) × (n + 1 ≤ b)
by_version a (answered l m) b = (a ≤ l.version) × (l.version ≤ b)

abbrev pub IsSeen : AskedWhat → ℕ → ℕ → ℕ → Type 0
IsSeen (AskedWhat.Ask verdict) a m b = Unit {0}
IsSeen (AskedWhat.Refused file fault) a m b = (a ≤ m) × (m ≤ b)
IsSeen (AskedWhat.Wait pid) a m b = Unit {0}

-- the place in the history that a call needs, and that which it reaches
abbrev pub by_place : ℕ → Deed → ℕ → Type 0
by_place a (entered e n) b = (a ≤ n) × (n + 1 ≤ b)
by_place a (batched n x m) b = (a ≤ m) × (m ≤ b)
by_place a (answered l m) b = (a ≤ b) × IsSeen l.what a m b
