use Rattle.std.proofs.Common.{arith}
use Rattle.asked_lines.proofs.Order.{lines_after, lists_after, count_after}
use Rattle.asked_lines.proofs.by_task.AskedByTask.put.Goals as goal

-- src/by_task.rt:45:5
pub invariant_of-self : goal.invariant_of-self
invariant_of-self c =
    let lists = c.self.inside.lists.items in (
      count_after lists c.args.line.task c.push.new.self 65 c.self.invariant.0,
      lists_after c.push.result lists c.args.line c.index_mut.result.now c.push.new.self c.self.invariant.1 (omega (arith, c.self.invariant.0, c.requires)) c.index_mut.ensures.value c.push.ensures.ok c.push.ensures.err,
    )

-- src/by_task.rt:45:5
pub returns-clause-ok : goal.returns-clause-ok
returns-clause-ok c =
    rw (← c.self.view_is)
    (lines_after c.push.result c.self.inside.lists.items c.args.line c.index_mut.result.now c.push.new.self c.self.invariant.1 (omega (arith, c.self.invariant.0, c.requires)) c.index_mut.ensures.value c.push.ensures.ok)
