use Rattle.std.proofs.Common.{arith}
use Rattle.asked_lines.proofs.Order.{are_empty, no_lines}
use Rattle.asked_lines.proofs.by_task.AskedByTask.new.Goals as goal

-- src/by_task.rt:32:5
pub invariant_of-result : goal.invariant_of-result
invariant_of-result c = (omega (arith, c.loop.invariant.0, c.loop.auto.counter-end, c.loop-test.false), are_empty c.loop.lists.items 0 c.loop.invariant.1)

-- src/by_task.rt:32:5
pub returns : goal.returns
returns c = no_lines c.loop.lists.items c.loop.invariant.1
