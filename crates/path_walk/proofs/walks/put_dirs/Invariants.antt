use Rattle.std.proofs.Common.{◌≡◌, ◌++◌, drop}
use Rattle.world_spec.specs.Walks.{walk_on, node_of}
use Rattle.path_walk.proofs.walks.put_dirs.Given as goal

abbrev pub invariant-loop-name : goal.invariant-loop-name
invariant-loop-name l =
    (l.parts.items ++ walk_on l.who l.tree l.dir (drop l.name-index l.names) ≡ l.fn.parts.items ++ walk_on l.who l.tree 0 l.names)
    × (node_of l.tree l.dir (drop l.name-index l.names) ≡ node_of l.tree 0 l.names)
