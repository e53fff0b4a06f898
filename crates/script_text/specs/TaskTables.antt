use Rattle.std.specs.Prelude.{◌≡◌, ◌≤◌, ◌<◌, ◌+◌, ℕ, Bool, true, false, ◌&&◌, ◌||◌, ◌==◌, if◌then◌else◌, List, [], ◌∷◌, ◌++◌, length, map, reverse, slice_index_or, slice_set, codes}
use Rattle.text_spec.specs.Names.{place_of}
use Rattle.script_spec.specs.Tasks.{Tasks, TaskChange, Forks, Exits, Awaits, Keeps, forked_name, is_exit, is_fork, is_wait_for}
use Rattle.script_spec.specs.Grammar.{most_script_tasks}
use Rattle.rule_text.specs.declared.part.Part.{Part}
use Rattle.script_text.specs.declared.tasks.TaskTable.{TaskTable}
use Rattle.script_text.specs.declared.tasks.Change.{Change}

-- the flag or the count of a task; false or 0 where there is no such task
abbrev pub flag_in : List Bool → ℕ → Bool
flag_in flags task = slice_index_or flags task false

abbrev pub count_in : List ℕ → ℕ → ℕ
count_in counts task = slice_index_or counts task 0

abbrev pub part_names : List Part → List (List ℕ)
part_names names = map (λ p. p.bytes.now) names

-- what a table says of tasks
abbrev pub tasks_seen : TaskTable → Tasks
tasks_seen t = record {
  names = part_names t.names.items;
  parents = reverse t.parents.items;
  exited = flag_in t.exited.items;
  awaited = flag_in t.awaited.items;
  calls = count_in t.calls.items;
}

abbrev pub change_seen : Change → TaskChange
change_seen (Change.Fork name) = Forks name.bytes.now
change_seen Change.Exit = Exits
change_seen (Change.Wait name) = Awaits name.bytes.now
change_seen Change.Nothing = Keeps

-- what is said of tasks behind one more call of a task
abbrev pub table_after : Tasks → ℕ → TaskChange → Tasks
table_after tasks task change = record {
  names = tasks.names ++ forked_name change;
  parents = if is_fork change then task ∷ tasks.parents else tasks.parents;
  exited = λ t. tasks.exited t || (is_exit change && (task == t));
  awaited = λ t. tasks.awaited t || is_wait_for tasks.names t change;
  calls = λ t. tasks.calls t + (if task == t then 1 else 0);
}

-- a task that is waited for is there
abbrev pub IsWaitThere : Tasks → TaskChange → Type 0
IsWaitThere tasks (Forks name) = Unit {0}
IsWaitThere tasks Exits = Unit {0}
IsWaitThere tasks (Awaits name) = place_of tasks.names name < length tasks.names
IsWaitThere tasks Keeps = Unit {0}

-- a table has at most 64 tasks, and its lists are as long as its tasks are many
pub record IsTable (t : TaskTable) : Type 0 where
  pub few : length t.names.items ≤ most_script_tasks
  pub parents : length t.parents.items + 1 ≡ length t.names.items
  pub exited : length t.exited.items ≡ length t.names.items
  pub awaited : length t.awaited.items ≡ length t.names.items
  pub calls : length t.calls.items ≡ length t.names.items

-- the first task alone
pub record IsFirst (t : TaskTable) : Type 0 where
  pub names : part_names t.names.items ≡ codes "init" ∷ []
  pub parents : t.parents.items ≡ []
  pub exited : t.exited.items ≡ false ∷ []
  pub awaited : t.awaited.items ≡ false ∷ []
  pub calls : t.calls.items ≡ 0 ∷ []

-- one more task
pub record IsTaskForked (parent : ℕ) (name : List ℕ) (old new : TaskTable) : Type 0 where
  pub names : part_names new.names.items ≡ part_names old.names.items ++ name ∷ []
  pub parents : new.parents.items ≡ old.parents.items ++ parent ∷ []
  pub exited : new.exited.items ≡ old.exited.items ++ false ∷ []
  pub awaited : new.awaited.items ≡ old.awaited.items ++ false ∷ []
  pub calls : new.calls.items ≡ old.calls.items ++ 0 ∷ []

-- a task has exited
pub record IsFlagged (task : ℕ) (old new : TaskTable) : Type 0 where
  pub names : new.names.items ≡ old.names.items
  pub parents : new.parents.items ≡ old.parents.items
  pub exited : new.exited.items ≡ slice_set old.exited.items task true
  pub awaited : new.awaited.items ≡ old.awaited.items
  pub calls : new.calls.items ≡ old.calls.items

-- a task was waited for
pub record IsTaskAwaited (task : ℕ) (old new : TaskTable) : Type 0 where
  pub names : new.names.items ≡ old.names.items
  pub parents : new.parents.items ≡ old.parents.items
  pub exited : new.exited.items ≡ old.exited.items
  pub awaited : new.awaited.items ≡ slice_set old.awaited.items task true
  pub calls : new.calls.items ≡ old.calls.items

-- a task has one more call
pub record IsCounted (task : ℕ) (old new : TaskTable) : Type 0 where
  pub names : new.names.items ≡ old.names.items
  pub parents : new.parents.items ≡ old.parents.items
  pub exited : new.exited.items ≡ old.exited.items
  pub awaited : new.awaited.items ≡ old.awaited.items
  pub calls : new.calls.items ≡ slice_set old.calls.items task (count_in old.calls.items task + 1)

-- a table behind one more call of a task
pub record IsTasksAfter (task : ℕ) (change : TaskChange) (old new : TaskTable) : Type 0 where
  pub says : tasks_seen new ≡ table_after (tasks_seen old) task change
  pub table : IsTable new
