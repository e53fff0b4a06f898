use Rattle.std.specs.Prelude.{ℕ, Bool, true, false, not, List, [], ◌∷◌, ◌++◌, Option, Some, is_none, is_some, length, nat_le, take, drop}
use Rattle.smack_base.specs.declared.ids.LabelId.{LabelId}
use Rattle.rules_spec.specs.Rulings.{Ruling}
use Rattle.rules_spec.specs.AskedModes.{read, execute, read_write}
use Rattle.rules_spec.specs.Creds.{Creds}
use Rattle.world_spec.specs.declared.Why.{Why}
use Rattle.world_spec.specs.declared.Why.TheVariants as Why
use Rattle.world_spec.specs.declared.Part.{Part}
use Rattle.world_spec.specs.declared.Part.TheVariants as Part
use Rattle.world_spec.specs.declared.trees.TreeCall.{TreeCall}
use Rattle.world_spec.specs.declared.trees.TreeCall.TheVariants as TreeCall
use Rattle.world_spec.specs.Worlds.{World, creds_of, label_of, node_count, most_nodes, with_file, without_file, file_names, in_byte_order}
use Rattle.world_spec.specs.declared.FileRow.{FileRow}
use Rattle.world_spec.specs.declared.Answer.{Answer}
use Rattle.world_spec.specs.declared.Answer.TheVariants as Answer
use Rattle.world_spec.specs.Questions.{asks_for, if_found}
pub use Rattle.tree_spec.specs.Listed.{most_names}

abbrev pub is_root : List (List ℕ) → Bool
is_root [] = true
is_root (n ∷ ns) = false

-- The walk to the directory that has the last name of a path: execute on the root; any name before the last is that of
-- a file or of nothing.
abbrev pub walk_to_last : World → ℕ → Creds → List (List ℕ) → List Part
walk_to_last w task c [] = []
walk_to_last w task c (n ∷ []) = asks_for task c execute w.root ∷ []
walk_to_last w task c (n ∷ m ∷ ns) =
    asks_for task c execute w.root ∷ Part.Refuses (is_none (label_of w.files n)) Why.NoSuchName ∷ Part.Refuses true Why.NotDirectory ∷ []

abbrev pub first_name : List (List ℕ) → List ℕ
first_name [] = []
first_name (n ∷ ns) = n

-- the label of the node that the first name of a path leads to, where there is one
abbrev pub label_at : World → List (List ℕ) → Option LabelId
label_at w [] = Some w.root
label_at w (n ∷ ns) = label_of w.files n

-- what a call on the tree is refused for and what it asks
abbrev pub tree_asks : World → Ruling → ℕ → Creds → TreeCall → List Part
tree_asks w version task c (TreeCall.Create path) =
    Part.Refuses (is_root path) Why.IsRoot ∷ walk_to_last w task c path
    ++ asks_for task c read_write w.root ∷ Part.Refuses (is_some (label_of w.files (first_name path))) Why.Exists
    ∷ Part.Refuses (nat_le most_nodes (node_count w)) (Why.TreeFull most_nodes) ∷ []
tree_asks w version task c (TreeCall.Unlink path) =
    Part.Refuses (is_root path) Why.IsRoot ∷ walk_to_last w task c path
    ++ if_found (label_at w path) Why.NoSuchName (λ l. asks_for task c read_write w.root ∷ asks_for task c read_write l ∷ [])
tree_asks w version task c (TreeCall.ListDir path at) =
    walk_to_last w task c path
    ++ if_found (label_at w path) Why.NoSuchName (λ l. asks_for task c read l ∷ Part.Refuses (not (is_root path)) Why.NotDirectory ∷ [])

-- what a call on the tree leaves: the files, and an answer
pub record TreeLeft : Type 0 where
  pub files : List FileRow
  pub answer : Answer

-- a new file has its creator's label
abbrev pub tree_left : World → Ruling → ℕ → TreeCall → TreeLeft
tree_left w version task (TreeCall.Create path) =
    record { files = with_file w.files (record { name = first_name path; label = (creds_of w task).label }); answer = Answer.Ok }
tree_left w version task (TreeCall.Unlink path) = record { files = without_file w.files (first_name path); answer = Answer.Ok }
tree_left w version task (TreeCall.ListDir path at) = record {
  files = w.files;
  answer = Answer.Names (length w.files) (take most_names (drop at (in_byte_order (file_names w.files))));
}
