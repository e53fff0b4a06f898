use Rattle.std.specs.Prelude.{◌≡◌, ℕ, Bool, ◌&&◌, ◌==◌, List, Option, length}
use Rattle.std.specs.List.{list_any}
use Rattle.std.specs.Map.{lookup}
use Rattle.smack_base.specs.declared.modes.Modes.{Modes}
use Rattle.smack_base.specs.declared.ids.LabelId.{LabelId}
use Rattle.rules_spec.specs.declared.Batch.{Batch}
use Rattle.rules_spec.specs.Rulings.{Ruling, ruling}

-- a rule in the index: the subject's number and the object's, and the modes
abbrev pub Entry : Type 0
Entry = (ℕ × ℕ) × Modes

-- what an index holds: rules, the onlycap list as numbers of labels, the other settings, how many batches it took
pub record IndexValue : Type 0 where
  pub entries : List Entry
  pub only : List ℕ
  pub ambient : LabelId
  pub ptrace : ℕ
  pub logging : ℕ
  pub version : ℕ

-- whether a key is that of subject s and object o
abbrev pub is_key : LabelId → LabelId → ℕ × ℕ → Bool
is_key s o k = (s.0 == k.0) && (o.0 == k.1)

-- the modes of the pair's rule, if there is one
abbrev pub look : List Entry → LabelId → LabelId → Option Modes
look entries s o = lookup (is_key s o) entries

-- whether a label stands in a list of numbers
abbrev pub has_number : List ℕ → LabelId → Bool
has_number list l = list_any (λ n. l.0 == n) list

-- what an index answers
abbrev pub ruling_of : IndexValue → Ruling
ruling_of v = record {
  number = v.version;
  rights = look v.entries;
  only_empty = length v.only == 0;
  only_holds = has_number v.only;
  ambient = v.ambient;
  ptrace = v.ptrace;
  logging = v.logging;
}

-- the index answers all as this version does
pub record StandsFor (index : IndexValue) (version : List Batch) : Type 0 where
  pub says : ruling_of index ≡ ruling version
