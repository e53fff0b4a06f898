use Rattle.std.specs.Prelude.{◌≡◌, ◌≤◌, true, false, List, length}
use Rattle.smack_base.specs.declared.ids.Pid.{Pid}
use Rattle.task_table.specs.declared.fault.TaskFault.{TaskFault}
use Rattle.task_table.specs.declared.fault.TaskFault.TheVariants as TaskFault
use Rattle.world_spec.specs.Worlds.{TaskRow, was_made, most_tasks}

-- why no task with this pid comes to stand: the pid is taken, or else the tasks are full; or want of memory
abbrev pub IsForkFault : List TaskRow → Pid → TaskFault → Type 0
IsForkFault tasks pid TaskFault.Exists = was_made tasks pid ≡ true
IsForkFault tasks pid (TaskFault.TasksFull limit) = (limit ≡ most_tasks) × (was_made tasks pid ≡ false) × (most_tasks ≤ length tasks)
IsForkFault tasks pid TaskFault.Memory = Unit {0}
