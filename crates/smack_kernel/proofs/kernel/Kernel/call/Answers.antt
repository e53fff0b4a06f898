use Rattle.smack_kernel.proofs.Tasks.{loads_none}
use Rattle.smack_kernel.proofs.kernel.Kernel.call.Goals as goal

pub returns-then-task-ge-MOST_CALLS-clause-loads : goal.returns-then-task-ge-MOST_CALLS-clause-loads
returns-then-task-ge-MOST_CALLS-clause-loads g c = rw (← c.task.view_is) (loads_none c.task.invariant.0 c.task.inside.seat.view.loads)
