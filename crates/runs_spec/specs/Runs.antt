use Rattle.std.specs.Prelude.{◌≡◌, ℕ, ◌+◌, ◌≤◌, List, [], ◌∷◌, ◌++◌, length, Bool, true, false, not, Option, Some, None}
use Rattle.rules_spec.specs.declared.Batch.{Batch}
use Rattle.world_spec.specs.declared.Call.TheVariants as Call
use Rattle.world_spec.specs.declared.tasks.TaskCall.TheVariants as TaskCall
use Rattle.world_spec.specs.declared.Reply.TheVariants as Reply
use Rattle.world_spec.specs.declared.Entry.{Entry}
use Rattle.script_spec.specs.Lines.{ScriptLine}
use Rattle.record_spec.specs.declared.AskedLine.{AskedLine}
use Rattle.record_spec.specs.declared.AskedWhat.TheVariants as AskedWhat
use Rattle.live_table.specs.Lists.{Begins, Has}
use Rattle.live_table.specs.Batches.{batches_by, rows_of}
use Rattle.smack_kernel.specs.Tasks.{TaskValue, LoadsOnce}
use Rattle.runs_spec.specs.Scripts.{Scripted, lines_by}
use Rattle.runs_spec.specs.Deeds.{entries_of, Deed, entered, answered, asked_in, entries_in, batches_in, AllAt, Made, FitsTo, IsTaskless, by_version, by_place}

-- What a task did from some point on, with what its children did beside it. forks: the entry and its place, the pid and
-- the number of the child, what the task itself did until it waited for the child or ended, what the child did, the line
-- that waited for it, if one did, and what the task did then.
pub data TaskRun : Type 0 where
  ends : TaskRun
  does : Deed → TaskRun → TaskRun
  forks : Entry → ℕ → ℕ → ℕ → TaskRun → TaskRun → Option AskedLine → TaskRun → TaskRun

abbrev pub waited : Option AskedLine → List AskedLine
waited None = []
waited (Some l) = l ∷ []

abbrev pub wait_deeds : Option AskedLine → List Deed
wait_deeds None = []
wait_deeds (Some l) = answered l 0 ∷ []

-- the calls of the task itself, in order
abbrev pub own : TaskRun → List Deed
own ends = []
own (does d r) = d ∷ own r
own (forks e n pid k mine theirs wait after) = entered e n ∷ (own mine ++ (wait_deeds wait ++ own after))

-- the numbers of its children and of theirs
abbrev pub numbers : TaskRun → List ℕ
numbers ends = []
numbers (does d r) = numbers r
numbers (forks e n pid k mine theirs wait after) = numbers mine ++ ((k ∷ numbers theirs) ++ numbers after)

-- the asked, refused and waited lines of all of them
abbrev pub asked_of : TaskRun → List AskedLine
asked_of ends = []
asked_of (does d r) = asked_in d ++ asked_of r
asked_of (forks e n pid k mine theirs wait after) = (asked_of mine ++ asked_of theirs) ++ (waited wait ++ asked_of after)

-- each child's calls in a journal and a history are those of its own run
abbrev pub AllMade : List Batch → List Entry → TaskRun → Type 0
AllMade j h ends = Unit {0}
AllMade j h (does d r) = AllMade j h r
AllMade j h (forks e n pid k mine theirs wait after) =
    Made j h k (own theirs) × AllMade j h mine × AllMade j h theirs × AllMade j h after

abbrev pub Awaits : (ℕ → Deed → ℕ → Type 0) → ℕ → Option AskedLine → ℕ → Type 0
Awaits step m None m' = m ≤ m'
Awaits step m (Some l) m' = step m (answered l 0) m'

-- A clock that each call moves goes from a to z over a run. What is run side by side has both ends in common.
abbrev pub Over : (ℕ → Deed → ℕ → Type 0) → ℕ → TaskRun → ℕ → Type 0
Over step a ends z = a ≤ z
Over step a (does d r) z = (b : ℕ) × step a d b × Over step b r z
Over step a (forks e n pid k mine theirs wait after) z =
    (b : ℕ) × step a (entered e n) b × (m : ℕ) × Over step b mine m × Over step b theirs m × (m' : ℕ)
    × Awaits step m wait m' × Over step m' after z

abbrev pub IsWaitOf : ℕ → Option AskedLine → Type 0
IsWaitOf pid None = Unit {0}
IsWaitOf pid (Some l) = l.what ≡ AskedWhat.Wait (record { 0 = pid })

-- a child's calls are those of the lines of its script task, of all of them where nothing stopped
pub record IsChild (full : Bool) (s : Scripted) (pid k : ℕ) (ds : List Deed) : Type 0 where
  pub rest : List ScriptLine
  pub fits : FitsTo s k 1 ds (lines_by pid s.lines) rest
  pub all : full ≡ true → rest ≡ []

-- each fork entry made its child, the wait is for it, and the child's calls are those of its lines; no other call makes
-- or awaits a task
abbrev pub Kids : Bool → Scripted → TaskRun → Type 0
Kids full s ends = Unit {0}
Kids full s (does d r) = IsTaskless full d × Kids full s r
Kids full s (forks e n pid k mine theirs wait after) =
    (e.call ≡ Call.Task (TaskCall.Fork (record { 0 = pid }))) × (e.reply ≡ Reply.Child k) × IsWaitOf pid wait × IsChild full s pid k (own theirs)
    × Kids full s mine × Kids full s theirs × Kids full s after

abbrev pub Distinct : List ℕ → Type 0
Distinct [] = Unit {0}
Distinct (x ∷ xs) = (Has x xs → ⊥) × Distinct xs

-- What so many tasks loaded that were adopted between v and w: each at most the rows of the journal.
pub record OthersLoad (v w : TaskValue) (count : ℕ) : Type 0 where
  pub more : List ℕ
  pub is : w.ended_loads ≡ v.ended_loads ++ more
  pub each : length more ≡ count
  pub few : (n : ℕ) → Has n more → n ≤ rows_of w.journal

-- A task went from v to w over the first of these lines, and the others are left; `full` where each child went over all
-- its lines, and memory was found. The run has all calls that the task and its descendants made between the two. Where it
-- was full neither the task, over all its calls, nor any of its descendants loaded a row twice: it loaded at most those that
-- its rules gained, and they at most those of the journal.
pub record WentOver (full : Bool) (s : Scripted) (ls rest : List ScriptLine) (v w : TaskValue) : Type 0 where
  pub run : TaskRun
  pub table : w.table ≡ v.table
  pub number : w.number ≡ v.number
  pub made : w.made ≡ v.made + length (own run)
  pub fits : FitsTo s v.number (v.made + 1) (own run) ls rest
  pub kids : Kids full s run
  pub ended : w.ended ≡ v.ended ++ numbers run
  pub apart : (k : ℕ) → Has k (v.number ∷ v.ended) → Has k (numbers run) → ⊥
  pub distinct : Distinct (numbers run)
  pub journal : Begins w.journal v.journal
  pub history : Begins w.history v.history
  pub own_batches : batches_by v.number w.journal ≡ batches_by v.number v.journal ++ batches_in (own run)
  pub own_entries : entries_of v.number w.history ≡ entries_of v.number v.history ++ entries_in (own run)
  pub at : AllAt w.journal w.history v.number (own run)
  pub batches : (k : ℕ) → Has k v.ended → batches_by k w.journal ≡ batches_by k v.journal
  pub entries : (k : ℕ) → Has k v.ended → entries_of k w.history ≡ entries_of k v.history
  pub others : AllMade w.journal w.history run
  pub fresh : Over by_version v.version run w.version
  pub placed : Over by_place (length v.history) run (length w.history)
  pub within : w.version ≤ length w.journal
  pub loads : full ≡ true → LoadsOnce v w
  pub others_load : full ≡ true → OthersLoad v w (length (numbers run))

-- A worker went over these lines up to the rest or, where it stopped, less far. Where it did not stop, the asked lines
-- of the run came behind those that it had.
pub record Ran (stop : Bool) (s : Scripted) (ls rest : List ScriptLine) (v w : TaskValue) (before after : List AskedLine) : Type 0 where
  pub left : List ScriptLine
  pub went : WentOver (not stop) s ls left v w
  pub on : stop ≡ false → left ≡ rest
  pub asked : stop ≡ false → after ≡ before ++ asked_of went.run
