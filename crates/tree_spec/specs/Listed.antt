use Rattle.std.specs.Prelude.{ℕ, List, [], ◌∷◌, Option, Some, None, fold, take, drop, if◌then◌else◌}
use Rattle.std.specs.List.{flat_map}
use Rattle.std.specs.Cmp.Lexicographic.{slice_cmp}
use Rattle.std.specs.Ordering.{nat_cmp}
use Rattle.std.specs.BTreeSet.{insert_key}
use Rattle.tree_spec.specs.declared.nodes.NodeRow.{NodeRow}
use Rattle.tree_spec.specs.Trees.{Nodes, is_below}

-- names in byte order: each at its place among those that came before it
abbrev pub in_byte_order : List (List ℕ) → List (List ℕ)
in_byte_order names = fold (insert_key (slice_cmp nat_cmp)) [] names

abbrev pub name_below : ℕ → Option NodeRow → List (List ℕ)
name_below d None = []
name_below d (Some r) = if is_below d r.parent then r.name ∷ [] else []

-- the names in a directory, in byte order
abbrev pub children : Nodes → ℕ → List (List ℕ)
children nodes d = in_byte_order (flat_map (name_below d) nodes)

-- the most names of one listing
abbrev pub most_names : ℕ
most_names = 16

-- the names of one listing: those from a place on, counted from 0
abbrev pub listed_from : ℕ → List (List ℕ) → List (List ℕ)
listed_from at names = take most_names (drop at names)
