use Rattle.std.proofs.Common.{◌≤◌, length}
use Rattle.std.specs.Prelude.{reverse}
use Rattle.std.specs.List.{list_any}
use Rattle.script_spec.specs.Tasks.{lineage}
use Rattle.script_text.specs.TaskTables.{flag_in}
use Rattle.script_text.proofs.TaskLists.{Flags}
use Rattle.script_text.proofs.tasks.is_gone.Given as goal

abbrev pub invariant-loop-older : goal.invariant-loop-older
invariant-loop-older l = record {
  flags : Flags (flag_in l.flags) l.parents l.older l.task (list_any (flag_in l.flags) (lineage (reverse l.parents) l.fn.task));
  within : l.older ≤ length l.parents;
}

abbrev pub decreases-loop-older : goal.decreases-loop-older
decreases-loop-older l = l.older
