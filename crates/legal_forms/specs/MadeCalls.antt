use Rattle.std.specs.Prelude.{ℕ, ◌+◌, Bool, ◌==◌, if◌then◌else◌, List, [], ◌∷◌, ◌++◌, Option, Some, None, max, map, flat_map, fold, count_by}
use Rattle.std.specs.List.{list_any}
use Rattle.smack_base.specs.declared.ids.Pid.{Pid}
use Rattle.rules_spec.specs.declared.Batch.{Batch}
use Rattle.world_spec.specs.declared.Entry.{Entry}
use Rattle.record_spec.specs.declared.AskedLine.{AskedLine}
use Rattle.record_spec.specs.declared.NumberedTask.{NumberedTask}
use Rattle.record_spec.specs.declared.RunRecord.{RunRecord}
use Rattle.record_spec.specs.Tasks.{numbered_child}
use Rattle.replay_spec.specs.Laws.{is_call}

-- one call of a record, as `IsCall` has it
pub record MadeCall : Type 0 where
  pub task : ℕ
  pub seq : ℕ
  pub needs : ℕ
  pub reaches : ℕ

-- batches, from this place on
abbrev pub batch_calls : ℕ → List Batch → List MadeCall
batch_calls i [] = []
batch_calls i (b ∷ bs) = record { task = b.task; seq = b.seq; needs = i; reaches = i + 1 } ∷ batch_calls (i + 1) bs

abbrev pub entry_call : Entry → MadeCall
entry_call e = record { task = e.task; seq = e.seq; needs = e.version; reaches = e.version }

abbrev pub asked_call : AskedLine → MadeCall
asked_call a = record { task = a.task; seq = a.seq; needs = a.version; reaches = a.version }

-- the calls of a record
abbrev pub made_calls : RunRecord → List MadeCall
made_calls r = batch_calls 0 r.journal ++ (map entry_call r.history ++ map asked_call r.asked)

-- how many calls a task has
abbrev pub count_of : List MadeCall → ℕ → ℕ
count_of calls task = count_by (λ c. c.task == task) calls

-- the first call of a task with this number
abbrev pub call_at : List MadeCall → ℕ → ℕ → Option MadeCall
call_at [] task seq = None
call_at (c ∷ cs) task seq = if is_call task seq c.task c.seq then Some c else call_at cs task seq

-- the greatest value of the elements with a key; 0 where there is none
abbrev pub greatest_of : {X : Type 0} → (X → ℕ) → (X → ℕ) → List X → ℕ → ℕ
greatest_of key value [] k = 0
greatest_of key value (x ∷ xs) k = if key x == k then max (value x) (greatest_of key value xs k) else greatest_of key value xs k

-- the greatest version that the calls of a task reached
abbrev pub greatest_reached : List MadeCall → ℕ → ℕ
greatest_reached = greatest_of (λ c. c.task) (λ c. c.reaches)

-- one fork that made a task: the call, and the task by its number and its pid
pub record MadeFork : Type 0 where
  pub parent : ℕ
  pub seq : ℕ
  pub version : ℕ
  pub number : ℕ
  pub pid : Pid

abbrev pub fork_by : Entry → Option NumberedTask → List MadeFork
fork_by e None = []
fork_by e (Some t) = record { parent = e.task; seq = e.seq; version = e.version; number = t.number; pid = t.pid } ∷ []

-- the forks of a history, in order
abbrev pub forks_of : List Entry → List MadeFork
forks_of history = flat_map (λ e. fork_by e (numbered_child e)) history

abbrev pub has_task : List ℕ → ℕ → Bool
has_task numbers task = list_any (λ n. n == task) numbers

-- the numbers of the tasks: the first, and those that the forks made
abbrev pub task_numbers : List Entry → List ℕ
task_numbers history = 0 ∷ map (λ f. f.number) (forks_of history)

-- the greatest version of the forks that made a task; 0 for the first task
abbrev pub version_told : List MadeFork → ℕ → ℕ
version_told = greatest_of (λ f. f.number) (λ f. f.version)

-- a child of a task among these joins them
abbrev pub with_descendant : List ℕ → MadeFork → List ℕ
with_descendant numbers f = if has_task numbers f.parent then f.number ∷ numbers else numbers

-- who descends from a task: one pass over the forks
abbrev pub descendants : List MadeFork → ℕ → List ℕ
descendants forks ancestor = fold with_descendant (ancestor ∷ []) forks
