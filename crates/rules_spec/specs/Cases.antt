use Rattle.std.specs.Prelude.{ℕ, Bool, true, false, ◌&&◌, if◌then◌else◌, List, [], ◌∷◌, Option, Some, None}
use Rattle.smack_base.specs.declared.modes.Modes.{Modes}
use Rattle.smack_base.specs.declared.ids.LabelId.{LabelId}
use Rattle.smack_base.specs.Modes.{holds, read_execute}
use Rattle.rules_spec.specs.declared.Verdict.{Verdict}
use Rattle.rules_spec.specs.Versions.{floor, hat, star, same_label}
use Rattle.rules_spec.specs.Rulings.{Ruling}

-- each mode that is asked for is read or execute
abbrev pub only_reads : Modes → Bool
only_reads m = holds read_execute m

-- there is a rule, and it has every mode that is asked for
abbrev pub ruled : Option Modes → Modes → Bool
ruled None m = false
ruled (Some r) m = holds r m

-- a case of the guide: whether it applies to a question, its answer, and its number
pub record OrderedCase : Type 0 where
  pub applies : Bool
  pub allowed : Bool
  pub number : ℕ

abbrev pub denied_by : ℕ → Bool → OrderedCase
denied_by n applies = record { applies = applies; allowed = false; number = n }

abbrev pub allowed_by : ℕ → Bool → OrderedCase
allowed_by n applies = record { applies = applies; allowed = true; number = n }

-- The ordered cases for subject s, object o and modes m, where the pair has these rights (Smack guide, "Access
-- Rules").
abbrev pub ordered_cases : Option Modes → LabelId → LabelId → Modes → List OrderedCase
ordered_cases rule s o m =
    denied_by 1 (same_label s star)
    ∷ allowed_by 2 (same_label s hat && only_reads m)
    ∷ allowed_by 3 (same_label o floor && only_reads m)
    ∷ allowed_by 4 (same_label o star)
    ∷ allowed_by 5 (same_label s o)
    ∷ allowed_by 6 (ruled rule m)
    ∷ []

-- the first case that applies; where none does, case 7 denies
abbrev pub first_that_applies : List OrderedCase → OrderedCase
first_that_applies [] = denied_by 7 true
first_that_applies (c ∷ cs) = if c.applies then c else first_that_applies cs

abbrev pub verdict_by : OrderedCase → LabelId → LabelId → Modes → Verdict
verdict_by c s o m = record { allowed = c.allowed; case = c.number; over = 0; subject = s; object = o; modes = m }

-- the verdict of the ordered cases, where the pair has these rights
abbrev pub verdict_of_rights : Option Modes → LabelId → LabelId → Modes → Verdict
verdict_of_rights rule s o m = verdict_by (first_that_applies (ordered_cases rule s o m)) s o m

-- the verdict of the ordered cases in a version
abbrev pub verdict_of_cases : Ruling → LabelId → LabelId → Modes → Verdict
verdict_of_cases version s o m = verdict_of_rights (version.rights s o) s o m
