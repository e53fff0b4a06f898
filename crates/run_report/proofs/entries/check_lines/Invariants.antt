use Rattle.std.proofs.Common.{◌≡◌, ◌++◌, take}
use Rattle.std.specs.Prelude.{map}
use Rattle.record_spec.specs.Entries.{check_line}
use Rattle.run_report.specs.Spelling.{lines_spelled_by}
use Rattle.run_report.proofs.entries.check_lines.Given as goal

abbrev pub invariant-loop-v : goal.invariant-loop-v
invariant-loop-v l = l.page ≡ l.fn.page ++ lines_spelled_by l.by (map check_line (take l.v-index l.checks))
