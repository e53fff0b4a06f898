use Rattle.run_report.proofs.Wrote.{wrote_more, wrote_stops}
use Rattle.run_report.proofs.Rests.{turns_rest}
use Rattle.run_report.proofs.record.put_items.Goals as goal

pub returns-in_err-put_lines : goal.returns-in_err-put_lines
returns-in_err-put_lines g c =
    wrote_stops _ _ _ _ _ _ _ _ _ c.from_residual.ensures.1 c.loop-i.invariant
    (turns_rest c.args.by.now.labels.now c.args.by.now.names.now (g.T.Printed.lines_of c.args.modes.now) c.args.items.now c.loop-i.i c.index-items-i.result c.loop-i-test.true c.index-items-i.is)
    (rw (c.lines.ensures, c.in-Ok.ensures) at c.in_err-put_lines.ensures)

pub loop-i-preserved : goal.loop-i-preserved
loop-i-preserved g c =
    wrote_more _ _ _ _ _ _ _ c.loop-i.invariant
    (turns_rest c.args.by.now.labels.now c.args.by.now.names.now (g.T.Printed.lines_of c.args.modes.now) c.args.items.now c.loop-i.i c.index-items-i.result c.loop-i-test.true c.index-items-i.is)
    (rw (c.lines.ensures, c.in-Ok.ensures) at c.in_ok-put_lines.ensures)
