use Rattle.std.proofs.Common.{◌≡◌, ◌<◌, drop, length}
use Rattle.world_spec.specs.Walks.{node_of}
use Rattle.path_walk.proofs.places.place.Given as goal

abbrev pub invariant-loop-name : goal.invariant-loop-name
invariant-loop-name l = (node_of l.tree l.at (drop l.name-index l.names) ≡ node_of l.tree 0 l.names) × (l.at < length l.tree)
