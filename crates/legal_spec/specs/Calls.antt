use Rattle.std.specs.Prelude.{◌≡◌, ◌<◌, ◌⊎◌, ℕ, ◌+◌, ◌==◌, List, Some, count_by}
use Rattle.std.specs.List.{slice_get}
use Rattle.smack_base.specs.declared.ids.Pid.{Pid}
use Rattle.rules_spec.specs.declared.Batch.{Batch}
use Rattle.world_spec.specs.declared.tasks.TaskCall.TheVariants as TaskCall
use Rattle.world_spec.specs.declared.Call.TheVariants as Call
use Rattle.world_spec.specs.declared.Reply.TheVariants as Reply
use Rattle.world_spec.specs.declared.Entry.{Entry}
use Rattle.record_spec.specs.declared.AskedLine.{AskedLine}
use Rattle.record_spec.specs.declared.RunRecord.{RunRecord}

-- x stands in the list at this place, counted from 0
abbrev pub Stands : {X : Type 0} → List X → ℕ → X → Type 0
Stands xs i x = slice_get xs i ≡ Some x

-- the entry is the fork of a pid, and its reply names the number of the task that it made
abbrev pub IsForkOf : Entry → ℕ → Pid → Type 0
IsForkOf e number pid = (e.call ≡ Call.Task (TaskCall.Fork pid)) × (e.reply ≡ Reply.Child number)

-- The number of the task with a pid: that of the first task, which has pid 0, is 0; that of another is named by the
-- reply to the fork of its pid.
abbrev pub IsNumberOf : List Entry → ℕ → Pid → Type 0
IsNumberOf history number pid =
    ((number ≡ 0) × (pid.0 ≡ 0)) ⊎ ((i : ℕ) × (e : Entry) × Stands history i e × IsForkOf e number pid)

-- a number that a task has
abbrev pub IsTask : List Entry → ℕ → Type 0
IsTask history number = (pid : Pid) × IsNumberOf history number pid

-- One call of a record: the number of its task, its own number among the calls of the task, the version that it needs,
-- and the version that it reaches. An object call, and an asked, refused or waited line, needs and reaches the version
-- printed beside it. The batch that makes version i + 1 needs version i and reaches version i + 1.
pub data IsCall (r : RunRecord) : ℕ → ℕ → ℕ → ℕ → Type 0 where
  batch : (i : ℕ) (b : Batch) → Stands r.journal i b → IsCall r b.task b.seq i (i + 1)
  entry : (i : ℕ) (e : Entry) → Stands r.history i e → IsCall r e.task e.seq e.version e.version
  asked : (i : ℕ) (a : AskedLine) → Stands r.asked i a → IsCall r a.task a.seq a.version a.version

-- the order of asked, refused and waited lines: by the number of the task, and then by that of the call
abbrev pub IsBefore : AskedLine → AskedLine → Type 0
IsBefore a b = (a.task < b.task) ⊎ ((a.task ≡ b.task) × (a.seq < b.seq))

-- how many calls a task has
abbrev pub call_count : RunRecord → ℕ → ℕ
call_count r task =
    count_by (λ b. b.task == task) r.journal + count_by (λ e. e.task == task) r.history
    + count_by (λ a. a.task == task) r.asked

-- a task descends from itself, and a child from all that its parent descends from
pub data Descends (history : List Entry) (ancestor : ℕ) : ℕ → Type 0 where
  itself : Descends history ancestor ancestor
  child : (i : ℕ) (e : Entry) (number : ℕ) (pid : Pid) → Descends history ancestor e.task → Stands history i e
      → IsForkOf e number pid → Descends history ancestor number
