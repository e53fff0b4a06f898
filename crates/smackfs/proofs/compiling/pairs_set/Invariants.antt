use Rattle.std.proofs.Common.{◌≡◌, take}
use Rattle.std.specs.List.{flat_map}
use Rattle.file_spec.specs.Files.{pair_set}
use Rattle.smackfs.proofs.compiling.pairs_set.Given as goal

abbrev pub invariant-loop-op : goal.invariant-loop-op
invariant-loop-op l = l.pairs ≡ flat_map pair_set (take l.op-index l.ops)
