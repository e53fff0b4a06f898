use Rattle.std.proofs.Common.{◌≡◌, ◌++◌}
use Rattle.tree_spec.specs.Listed.{listed_from}
use Rattle.name_map.specs.Names.{names_in}
use Rattle.name_map.proofs.Listings.{left}
use Rattle.name_map.proofs.map.NameMap.listed.Given as goal

abbrev pub invariant-loop-name : goal.invariant-loop-name
invariant-loop-name l = l.list ++ left (λ k. k.items) l.wanted l.ahead l.name-iterator ≡ listed_from l.fn.at (names_in l.self)
