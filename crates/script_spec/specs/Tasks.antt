use Rattle.std.specs.Prelude.{ℕ, Bool, true, false, ◌&&◌, not, ◌==◌, if◌then◌else◌, List, [], ◌∷◌, Option, Some, None, length, map, reverse, codes}
use Rattle.std.specs.List.{flat_map, list_any, filter, count_by}
use Rattle.text_spec.specs.Names.{place_of, has_name}
use Rattle.verb_spec.specs.declared.Verb.{Verb}
use Rattle.verb_spec.specs.declared.Verb.TheVariants as Verb
use Rattle.script_spec.specs.Lines.{ScriptLine, verb_in, word_in}

-- what a line does to the tasks of a script: it forks a task of this name, it is the exit of its own task, it waits for
-- the task of this name, or it leaves them as they are
pub data TaskChange : Type 0 where
  Forks : List ℕ → TaskChange
  Exits : TaskChange
  Awaits : List ℕ → TaskChange
  Keeps : TaskChange

abbrev pub change_by : Option Verb → ScriptLine → TaskChange
change_by (Some Verb.Wait) l = Awaits (word_in 1 l)
change_by (Some Verb.Fork) l = Forks (word_in 1 l)
change_by (Some Verb.Exit) l = Exits
change_by verb l = Keeps

abbrev pub change_of : ScriptLine → TaskChange
change_of l = change_by (verb_in l) l

abbrev pub forked_name : TaskChange → List (List ℕ)
forked_name (Forks name) = name ∷ []
forked_name change = []

-- the names of tasks by pid: that of the first task, and those that these lines fork, in their order
abbrev pub task_names : List ScriptLine → List (List ℕ)
task_names lines = codes "init" ∷ flat_map (λ l. forked_name (change_of l)) lines

-- how many of these calls are those of a task
abbrev pub calls_by : List ScriptLine → ℕ → ℕ
calls_by above task = count_by (λ l. l.task == task) above

abbrev pub is_exit : TaskChange → Bool
is_exit Exits = true
is_exit change = false

-- one of these calls is the exit of a task
abbrev pub has_exit : List ScriptLine → ℕ → Bool
has_exit above task = list_any (λ l. is_exit (change_of l) && (l.task == task)) above

abbrev pub is_wait_for : List (List ℕ) → ℕ → TaskChange → Bool
is_wait_for names task (Awaits name) = place_of names name == task
is_wait_for names task change = false

-- one of these calls waits for a task
abbrev pub has_wait : List ScriptLine → ℕ → Bool
has_wait above task = list_any (λ l. is_wait_for (task_names above) task (change_of l)) above

abbrev pub is_fork : TaskChange → Bool
is_fork (Forks name) = true
is_fork change = false

-- the tasks that made the tasks .., 3, 2, 1, that of the youngest first
abbrev pub parents_in : List ScriptLine → List ℕ
parents_in above = reverse (map (λ l. l.task) (filter (λ l. is_fork (change_of l)) above))

-- what some calls say of tasks: their names by pid, the parents of the youngest one and of all older ones, which of them
-- have exited and which were waited for, and how many calls each has
pub record Tasks : Type 0 where
  pub names : List (List ℕ)
  pub parents : List ℕ
  pub exited : ℕ → Bool
  pub awaited : ℕ → Bool
  pub calls : ℕ → ℕ

abbrev pub tasks_of : List ScriptLine → Tasks
tasks_of above = record {
  names = task_names above;
  parents = parents_in above;
  exited = has_exit above;
  awaited = has_wait above;
  calls = calls_by above;
}

-- a task of this name is there: it is the first one, or one of the calls forks it
abbrev pub is_there : Tasks → List ℕ → Bool
is_there tasks name = has_name tasks.names name

-- the pid of a name; the number of tasks where none has it
abbrev pub pid_of : Tasks → List ℕ → ℕ
pid_of tasks name = place_of tasks.names name

-- A task and those that it descends from, itself first, by the parents of the youngest task and of all older ones. The
-- pid of a task is the number of the tasks up to it, the first task not counted.
abbrev pub lineage : List ℕ → ℕ → List ℕ
lineage [] task = task ∷ []
lineage (parent ∷ older) task =
    if task == length (parent ∷ older) then task ∷ lineage older parent else lineage older task

-- the youngest child of a task that was not waited for, by the parents of the youngest task and of all older ones
abbrev pub latest_child : (ℕ → Bool) → List ℕ → ℕ → Option ℕ
latest_child awaited [] task = None
latest_child awaited (parent ∷ older) task =
    if (parent == task) && not (awaited (length (parent ∷ older))) then Some (length (parent ∷ older))
    else latest_child awaited older task

-- a task or one that it descends from was waited for
abbrev pub is_gone : Tasks → ℕ → Bool
is_gone tasks task = list_any tasks.awaited (lineage tasks.parents task)

-- a task is live here: it is there, it has not exited, and neither it nor one that it descends from was waited for
abbrev pub is_live_name : Tasks → List ℕ → Bool
is_live_name tasks name =
    is_there tasks name && not (tasks.exited (pid_of tasks name)) && not (is_gone tasks (pid_of tasks name))

abbrev pub is_pid : Option ℕ → ℕ → Bool
is_pid None pid = false
is_pid (Some task) pid = task == pid

-- a name is that of the latest child of a task that was not waited for
abbrev pub is_latest_child : Tasks → ℕ → List ℕ → Bool
is_latest_child tasks task name = is_pid (latest_child tasks.awaited tasks.parents task) (pid_of tasks name)
