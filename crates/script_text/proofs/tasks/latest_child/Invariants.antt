use Rattle.std.proofs.Common.{◌≤◌, length}
use Rattle.std.specs.Prelude.{reverse}
use Rattle.script_spec.specs.Tasks.{latest_child}
use Rattle.script_text.specs.TaskTables.{flag_in}
use Rattle.script_text.proofs.TaskLists.{Latest}
use Rattle.script_text.proofs.tasks.latest_child.Given as goal

abbrev pub invariant-loop-older : goal.invariant-loop-older
invariant-loop-older l = record {
  latest : Latest (flag_in l.flags) l.parents l.older l.task (latest_child (flag_in l.flags) (reverse l.parents) l.task);
  within : l.older ≤ length l.parents;
}

abbrev pub decreases-loop-older : goal.decreases-loop-older
decreases-loop-older l = l.older
