use Rattle.std.proofs.Common.{◌≡◌, ◌+◌, length}
use Rattle.std.specs.Prelude.{map}
use Rattle.smack_base.specs.Paths.{name_fault, first_path_fault}
use Rattle.smack_base.specs.PathNames.{path_names}
use Rattle.smack_base.proofs.path.fault_of_names.Given as goal

abbrev pub invariant-loop-at : goal.invariant-loop-at
invariant-loop-at l = record {
  faults : first_path_fault (map name_fault l.left) ≡ first_path_fault (map name_fault (path_names l.bytes));
  count : l.count + length l.left ≡ length (path_names l.bytes);
}

abbrev pub decreases-loop-at : goal.decreases-loop-at
decreases-loop-at l = length l.left
