use Rattle.std.specs.Prelude.{ℕ, Bool, List, Option, map}
use Rattle.std.specs.List.{list_any}
use Rattle.std.specs.Str.{bytes_eq}
use Rattle.std.specs.Map.{lookup, keys_of}
use Rattle.std.specs.Ordering.{is_eq, nat_cmp}
use Rattle.std.specs.Cmp.Lexicographic.{slice_cmp}
use Rattle.std.specs.List.Sorted.{IsStrictlySortedBy}

-- names with their numbers, from keys that hold the bytes of names
abbrev pub numbered : {K : Type 0} → (K → List ℕ) → List (K × ℕ) → List (List ℕ × ℕ)
numbered bytes entries = map (λ e. (bytes e.0, e.1)) entries

-- the number of a name, where it has one
abbrev pub number_of : List (List ℕ × ℕ) → List ℕ → Option ℕ
number_of entries name = lookup (λ k. bytes_eq name k) entries

-- the names
abbrev pub names_in : List (List ℕ × ℕ) → List (List ℕ)
names_in entries = keys_of entries

-- each name comes before the next in byte order, and none stands twice
abbrev pub Rises : List (List ℕ) → Type 0
Rises names = IsStrictlySortedBy (slice_cmp nat_cmp) names

-- whether a name is among some names
abbrev pub has_name : List ℕ → List (List ℕ) → Bool
has_name name names = list_any (λ k. is_eq (slice_cmp nat_cmp name k)) names
