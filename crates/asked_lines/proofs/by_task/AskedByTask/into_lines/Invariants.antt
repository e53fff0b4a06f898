use Rattle.std.proofs.Common.{◌≡◌, ◌++◌}
use Rattle.asked_lines.specs.ByTask.{all_lines}
use Rattle.asked_lines.proofs.by_task.AskedByTask.into_lines.Given as goal

abbrev pub invariant-loop-list : goal.invariant-loop-list
invariant-loop-list l = l.lines ++ all_lines l.list-iterator.rest.items ≡ all_lines l.initial.list-iterator.rest.items
