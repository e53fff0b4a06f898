use Rattle.std.proofs.Common.{◌≡◌, take}
use Rattle.tree_calls.specs.Shown.{lists_of}
use Rattle.tree_calls.proofs.names.all_names.Given as goal

abbrev pub invariant-loop-name : goal.invariant-loop-name
invariant-loop-name l = l.list ≡ lists_of (take l.name-index l.names)
