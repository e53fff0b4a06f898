use Rattle.std.proofs.Common.{arith}
use Rattle.script_acts.proofs.LinePlaces.{wait_at, none_of_own, none_of_other}
use Rattle.script_acts.proofs.places.wait_between.Goals.{else-line-pid-via-then-line-pid+else-awaits, else-line-pid-via-else-line-pid}
use Rattle.script_acts.proofs.places.wait_between.Goals as goal

pub returns-then-awaits-clause-line : goal.returns-then-awaits-clause-line
returns-then-awaits-clause-line c = λ _. wait_at c.args.pid c.loop-at.at c.args.to c.args.lines.now _ c.loop-at-test.true c.requires.place.1
    c.args.names.now c.args.child c.if-line-pid.true c.if-awaits.ensures.is

pub loop-at-preserved : goal.loop-at-preserved
loop-at-preserved c =
    let i = c.loop-at.invariant in
    let low = c.loop-at-test.true in
    let high = c.requires.place.1 in (
      omega (arith, i.0),
      elim c.else-line-pid.branch [
        | else-line-pid-via-then-line-pid+else-awaits w ↦
            none_of_own c.args.names.now c.args.child c.args.pid c.args.from c.loop-at.at c.args.lines.now _ i.0 (omega (arith, low, high)) i.1
            w.if-line-pid.true w.if-awaits.ensures.is_not
        | else-line-pid-via-else-line-pid w ↦
            none_of_other c.args.names.now c.args.child c.args.pid c.args.from c.loop-at.at c.args.lines.now _ i.0 (omega (arith, low, high)) i.1
            w.if-line-pid.false
      ],
    )
