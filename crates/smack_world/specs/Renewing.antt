use Rattle.std.specs.Prelude.{Bool, true, false}
use Rattle.world_spec.specs.declared.Call.{Call}
use Rattle.world_spec.specs.declared.Call.TheVariants as Call
use Rattle.world_spec.specs.declared.tasks.TaskCall.{TaskCall}
use Rattle.world_spec.specs.declared.tasks.TaskCall.TheVariants as TaskCall

-- whether a call on tasks may leave its caller with other credentials
abbrev pub task_renews : TaskCall → Bool
task_renews (TaskCall.Relabel l) = true
task_renews (TaskCall.DropCap cap) = true
task_renews (TaskCall.SelfRules rules) = true
task_renews (TaskCall.Relabels labels) = true
task_renews call = false

-- whether a call may leave its caller with other credentials
abbrev pub renews : Call → Bool
renews (Call.Task call) = task_renews call
renews (Call.Tree call) = false
