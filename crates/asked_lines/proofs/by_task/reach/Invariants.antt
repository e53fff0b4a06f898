use Rattle.std.proofs.Common.{◌≡◌, ◌≤◌, ◌+◌, ◌-◌, length}
use Rattle.asked_lines.specs.ByTask.{all_lines, AreByTask}
use Rattle.asked_lines.proofs.by_task.reach.Given as goal

abbrev pub invariant-loop-lists : goal.invariant-loop-lists
invariant-loop-lists l = record {
  are : AreByTask 0 l.lists.items;
  same : all_lines l.lists.items ≡ all_lines l.initial.lists.items;
  longer : length l.initial.lists.items ≤ length l.lists.items;
}

abbrev pub decreases-loop-lists : goal.decreases-loop-lists
decreases-loop-lists l = (l.fn.task + 1) - length l.lists.items
