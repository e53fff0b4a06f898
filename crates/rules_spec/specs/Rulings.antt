use Rattle.std.specs.Prelude.{ℕ, Bool, List, [], ◌∷◌, Option, length, true, false}
use Rattle.std.specs.List.{list_any}
use Rattle.smack_base.specs.declared.modes.Modes.{Modes}
use Rattle.smack_base.specs.declared.ids.LabelId.{LabelId}
use Rattle.rules_spec.specs.declared.Batch.{Batch}
use Rattle.rules_spec.specs.Versions.{same_label, rights, only, ambient, ptrace, logging}

-- all that a version says: its number, the rights of each pair, whether the onlycap list is empty and which labels
-- it has, and the other settings
pub record Ruling : Type 0 where
  pub number : ℕ
  pub rights : LabelId → LabelId → Option Modes
  pub only_empty : Bool
  pub only_holds : LabelId → Bool
  pub ambient : LabelId
  pub ptrace : ℕ
  pub logging : ℕ

abbrev pub is_empty : List LabelId → Bool
is_empty [] = true
is_empty (l ∷ ls) = false

abbrev pub has_label : List LabelId → LabelId → Bool
has_label list l = list_any (λ x. same_label x l) list

-- what a version says
abbrev pub ruling : List Batch → Ruling
ruling version = record {
  number = length version;
  rights = rights version;
  only_empty = is_empty (only version);
  only_holds = has_label (only version);
  ambient = ambient version;
  ptrace = ptrace version;
  logging = logging version;
}
