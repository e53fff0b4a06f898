use Rattle.std.proofs.Common.{◌+◌, drop}
use Rattle.outside.specs.Seen.{seen}
use Rattle.record_spec.specs.Show.{joined, lines_in_turn}
use Rattle.run_report.specs.Spelling.{lines_spelled_by}
use Rattle.run_report.proofs.Wrote.{Wrote}
use Rattle.run_report.proofs.record.put_items.Given as goal

abbrev pub invariant-loop-i : goal.invariant-loop-i
invariant-loop-i g l =
    Wrote (seen g.K.Sink.taken g.K.Sink.faults l.fn.sink) (seen g.K.Sink.taken g.K.Sink.faults l.sink)
    (joined (lines_spelled_by l.by (lines_in_turn (g.T.Printed.lines_of l.modes) 1 l.items)))
    (joined (lines_spelled_by l.by (lines_in_turn (g.T.Printed.lines_of l.modes) (l.i + 1) (drop l.i l.items))))
