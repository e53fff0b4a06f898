use Rattle.std.proofs.Common.{◌≡◌, take}
use Rattle.world_spec.specs.Worlds.{file_names, in_byte_order}
use Rattle.tree_calls.specs.Shown.{lists_of}
use Rattle.tree_calls.proofs.names.in_order.Given as goal

abbrev pub invariant-loop-file : goal.invariant-loop-file
invariant-loop-file l = lists_of l.names.keys ≡ in_byte_order (file_names (take l.file-index l.files))
