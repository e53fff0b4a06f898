use Rattle.std.specs.Prelude.{◌≡◌, ◌<◌, ℕ, Bool, true, if◌then◌else◌, List, [], ◌∷◌, ◌++◌, Option, Some, None, length, take, fold, codes, slice_index_or, nat_lt}
use Rattle.std.specs.List.{position_or_len, AllByRecursion}
use Rattle.std.specs.Str.{bytes_eq}
use Rattle.smack_base.specs.Labels.{is_label}
use Rattle.smack_base.specs.declared.ids.LabelId.{LabelId}

-- the place of a name in a table, or the table's length
abbrev pub place_of : List (List ℕ) → List ℕ → ℕ
place_of table name = position_or_len (λ t. bytes_eq t name) table

abbrev pub has_name : List (List ℕ) → List ℕ → Bool
has_name table name = nat_lt (place_of table name) (length table)

-- the table with this name, once
abbrev pub with_name : List (List ℕ) → List ℕ → List (List ℕ)
with_name table name = if has_name table name then table else table ++ name ∷ []

-- the table with these names in order, each once
abbrev pub with_names : List (List ℕ) → List (List ℕ) → List (List ℕ)
with_names table names = fold with_name table names

-- the labels that every table begins with: _ ^ * ? @
abbrev pub predefined : List (List ℕ)
predefined = codes "_" ∷ codes "^" ∷ codes "*" ∷ codes "?" ∷ codes "@" ∷ []

-- A table of labels: each of its texts is a label, none stands twice (the place of a label is its id), and it begins
-- with the predefined ones.
pub record IsLabelTable (labels : List (List ℕ)) : Type 0 where
  pub are : AllByRecursion (λ label. is_label label ≡ true) labels
  pub once : (id : ℕ) → id < length labels → place_of labels (slice_index_or labels id []) ≡ id
  pub begins : take 5 labels ≡ predefined

-- the id of a label, where the table has it
abbrev pub id_of : List (List ℕ) → List ℕ → Option LabelId
id_of table name = if has_name table name then Some (record { 0 = place_of table name }) else None
