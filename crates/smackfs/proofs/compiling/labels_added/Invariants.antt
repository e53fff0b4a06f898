use Rattle.std.proofs.Common.{◌≡◌, take}
use Rattle.std.specs.List.{flat_map}
use Rattle.file_spec.specs.Files.{label_added}
use Rattle.smackfs.proofs.compiling.labels_added.Given as goal

abbrev pub invariant-loop-op : goal.invariant-loop-op
invariant-loop-op l = l.labels ≡ flat_map label_added (take l.op-index l.ops)
