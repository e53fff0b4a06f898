use Rattle.run_report.proofs.Wrote.{wrote_more, wrote_stops}
use Rattle.run_report.proofs.Rests.{lines_rest}
use Rattle.run_report.proofs.record.put_lines.Goals as goal

pub returns-in_err-put_line : goal.returns-in_err-put_line
returns-in_err-put_line g c =
    wrote_stops _ _ _ _ _ _ _ _ _ c.from_residual.ensures.1 c.loop-line.invariant
    (lines_rest c.args.lines.now c.loop-line.line-index c.line-item.result c.loop-line-test.true c.line-item.is)
    (rw c.items.ensures at c.in_err-put_line.ensures)

pub loop-line-preserved : goal.loop-line-preserved
loop-line-preserved g c =
    wrote_more _ _ _ _ _ _ _ c.loop-line.invariant
    (lines_rest c.args.lines.now c.loop-line.line-index c.line-item.result c.loop-line-test.true c.line-item.is)
    (rw c.items.ensures at c.in_ok-put_line.ensures)
