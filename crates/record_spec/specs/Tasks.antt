use Rattle.std.specs.Prelude.{ℕ, ◌==◌, if◌then◌else◌, List, [], ◌∷◌, Option, Some, None, fold, nat_lt}
use Rattle.std.specs.List.{list_any, insert, position_or_len}
use Rattle.smack_base.specs.declared.ids.Pid.{Pid}
use Rattle.world_spec.specs.declared.tasks.TaskCall.TheVariants as TaskCall
use Rattle.world_spec.specs.declared.Call.{Call}
use Rattle.world_spec.specs.declared.Call.TheVariants as Call
use Rattle.world_spec.specs.declared.Entry.{Entry}
use Rattle.world_spec.specs.Replies.{child_of}
use Rattle.record_spec.specs.declared.NumberedTask.{NumberedTask}

-- the pid that a call forks
abbrev pub forked : Call → Option Pid
forked (Call.Task (TaskCall.Fork pid)) = Some pid
forked call = None

abbrev pub child_by : Option Pid → Option ℕ → Option NumberedTask
child_by None k = None
child_by (Some pid) None = None
child_by (Some pid) (Some k) = Some (record { number = k; pid = pid })

-- the task that an entry made, where it made one
abbrev pub numbered_child : Entry → Option NumberedTask
numbered_child e = child_by (forked e.call) (child_of e.reply)

-- tasks by rising number; of two with one number the first stays
abbrev pub with_task : List NumberedTask → NumberedTask → List NumberedTask
with_task tasks t =
    if list_any (λ u. u.number == t.number) tasks then tasks
    else insert tasks (position_or_len (λ u. nat_lt t.number u.number) tasks) t

abbrev pub with_made_task : List NumberedTask → Option NumberedTask → List NumberedTask
with_made_task tasks None = tasks
with_made_task tasks (Some t) = with_task tasks t

abbrev pub first_task : NumberedTask
first_task = record { number = 0; pid = record { 0 = 0 } }

-- the tasks of a run by rising number: the first, and those that its entries made
abbrev pub run_tasks : List Entry → List NumberedTask
run_tasks history = fold (λ tasks e. with_made_task tasks (numbered_child e)) (first_task ∷ []) history
