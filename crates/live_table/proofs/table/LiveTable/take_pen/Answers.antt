use Rattle.std.proofs.Common.{◌∙◌, refl, arith}
use Rattle.live_table.proofs.AfterSteps.{sees_self, sees_then, sees_then_pen}
use Rattle.live_table.proofs.table.LiveTable.take_pen.Goals as goal

pub loop-init : goal.loop-init
loop-init g c = (refl, refl, sees_self _, refl, omega arith)

pub loop-preserved : goal.loop-preserved
loop-preserved g c =
    let v = c.loop.invariant in
    let e = c.if-try_pen.ensures in
    let more = e.counted.1 in
    let before = v.4 in
    (e.same.0 ∙ v.0, e.same.1 ∙ v.1, sees_then _ _ _ v.2 e.none.0, e.counted.0 ∙ v.3, omega arith)

pub returns-then-try_pen-clause-seen : goal.returns-then-try_pen-clause-seen
returns-then-try_pen-clause-seen g c = (
  sees_then_pen _ _ _ c.loop.invariant.2 c.if-try_pen.ensures.pen,
  c.rows_seen.ensures.rows,
)

pub returns-then-try_pen-clause-counted : goal.returns-then-try_pen-clause-counted
returns-then-try_pen-clause-counted g c =
    let more = c.if-try_pen.ensures.counted.1 in
    let before = c.loop.invariant.4 in
    (c.if-try_pen.ensures.counted.0 ∙ c.loop.invariant.3, omega arith)
