use Rattle.std.proofs.Common.{◌≡◌, ◌++◌, take}
use Rattle.std.specs.Prelude.{map}
use Rattle.record_spec.specs.Show.{task_line}
use Rattle.run_report.specs.Spelling.{lines_spelled_by}
use Rattle.run_report.proofs.lines.task_lines.Given as goal

abbrev pub invariant-loop-task : goal.invariant-loop-task
invariant-loop-task l = l.page ≡ l.fn.page ++ lines_spelled_by l.by (map task_line (take l.task-index l.tasks))
