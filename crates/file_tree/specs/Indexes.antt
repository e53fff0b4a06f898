use Rattle.std.specs.Prelude.{◌≡◌, ◌<◌, ◌^◌, ℕ, Bool, true, ◌&&◌, ◌==◌, List, [], Option, Some, length, slice_index_or}
use Rattle.std.specs.Str.{bytes_eq}
use Rattle.name_map.specs.Names.{number_of}
use Rattle.tree_spec.specs.Trees.{Nodes, node_at, stands_as, live_nodes}

-- for each node the names in it, each with the number of its node
abbrev pub Below : Type 0
Below = List (List (List ℕ × ℕ))

-- the names in a node
abbrev pub names_at : Below → ℕ → List (List ℕ × ℕ)
names_at below d = slice_index_or below d []

-- the number that stands for a name in a node
abbrev pub found : Below → ℕ → List ℕ → Option ℕ
found below d name = number_of (names_at below d) name

-- whether two places are one
abbrev pub is_place : ℕ → List ℕ → ℕ → List ℕ → Bool
is_place d name e q = (d == e) && bytes_eq name q

-- a name in a directory has a number exactly where the node of that number stands there
pub record IsIndexed (nodes : Nodes) (below : Below) : Type 0 where
  pub long : length below ≡ length nodes
  pub stands : (d : ℕ) (name : List ℕ) (n : ℕ) → found below d name ≡ Some n → stands_as d name (node_at nodes n) ≡ true
  pub finds : (d : ℕ) (name : List ℕ) (n : ℕ) → stands_as d name (node_at nodes n) ≡ true → found below d name ≡ Some n

-- the nodes, of which the root is one, with the index of their names and the count of those that are not gone; there are
-- no more of them than numbers
pub record IsTree (nodes : Nodes) (below : Below) (live : ℕ) : Type 0 where
  pub indexed : IsIndexed nodes below
  pub counted : live ≡ live_nodes nodes
  pub rooted : 0 < length nodes
  pub few : length nodes < 2 ^ 32
