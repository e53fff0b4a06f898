use Rattle.std.proofs.Common.{refl, ◌∙◌}
use Rattle.script_acts.proofs.LinePlaces.{line_at, stands_at, skip_line}
use Rattle.script_acts.proofs.places.line_between.Goals as goal

pub returns-then-line-pid-clause-line : goal.returns-then-line-pid-clause-line
returns-then-line-pid-clause-line c = c.loop-at.invariant
    ∙ line_at c.args.pid c.loop-at.at c.args.to c.args.lines.now _ c.loop-at-test.true c.requires.1 c.if-line-pid.true

pub returns-then-line-pid-clause-at : goal.returns-then-line-pid-clause-at
returns-then-line-pid-clause-at c =
    (c.loop-at.at, stands_at c.args.pid c.loop-at.at c.args.to c.args.lines.now _ c.loop-at-test.true c.requires.1, refl)

pub loop-at-preserved : goal.loop-at-preserved
loop-at-preserved c = c.loop-at.invariant
    ∙ skip_line c.args.pid c.loop-at.at c.args.to c.args.lines.now _ c.loop-at-test.true c.requires.1 c.if-line-pid.false
