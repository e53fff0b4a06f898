use Rattle.std.proofs.Common.{arith}
use Rattle.smack_kernel.proofs.Tasks.{first_is_task}
use Rattle.smack_kernel.proofs.kernel.Kernel.boot.Goals as goal

pub invariant_of-task : goal.invariant_of-task
invariant_of-task c = (first_is_task _ c.in_ok-table.ensures c.in_ok-index.ensures.rules c.in_ok-index.ensures.rows c.first.ensures, omega arith)
