use Rattle.std.proofs.Common.{◌≡◌, ◌++◌, take}
use Rattle.std.specs.Prelude.{map}
use Rattle.record_spec.specs.Show.{op_line}
use Rattle.run_report.specs.Spelling.{lines_spelled_by}
use Rattle.run_report.proofs.lines.op_lines.Given as goal

abbrev pub invariant-loop-op : goal.invariant-loop-op
invariant-loop-op l = l.page ≡ l.fn.page ++ lines_spelled_by l.by (map op_line (take l.op-index l.ops))
