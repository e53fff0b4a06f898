use Rattle.std.proofs.Common.{drop}
use Rattle.outside.specs.Seen.{seen}
use Rattle.record_spec.specs.Show.{joined}
use Rattle.run_report.proofs.Wrote.{Wrote}
use Rattle.run_report.proofs.record.put_lines.Given as goal

abbrev pub invariant-loop-line : goal.invariant-loop-line
invariant-loop-line g l =
    Wrote (seen g.K.Sink.taken g.K.Sink.faults l.fn.sink) (seen g.K.Sink.taken g.K.Sink.faults l.sink) (joined l.lines) (joined (drop l.line-index l.lines))
