use Rattle.std.specs.Prelude.{◌==◌, ℕ, Bool, true, false, ◌&&◌, not, if◌then◌else◌, List, [], ◌∷◌, Option, Some, None}
use Rattle.std.specs.List.{list_any}
use Rattle.smack_base.specs.declared.modes.Modes.{Modes}
use Rattle.smack_base.specs.declared.ids.LabelId.{LabelId}
use Rattle.smack_base.specs.declared.cap.Cap.TheVariants as Cap
use Rattle.smack_base.specs.Modes.{holds}
use Rattle.rules_spec.specs.declared.Verdict.{Verdict}
use Rattle.rules_spec.specs.Versions.{same_label}
use Rattle.rules_spec.specs.Rulings.{Ruling}
use Rattle.rules_spec.specs.AskedModes.{read_write}
use Rattle.rules_spec.specs.Creds.{Creds, self_rule, is_effective}
use Rattle.rules_spec.specs.Cases.{verdict_of_cases}

-- a self rule that lacks a mode that is asked for; where none stands there is no restriction
abbrev pub restricts : Option Modes → Modes → Bool
restricts None m = false
restricts (Some r) m = not (holds r m)

-- case 8: a self rule of the task restricts what the ordered cases allow
abbrev pub restricted : Option Modes → Verdict → Verdict
restricted rule v = if v.allowed && restricts rule v.modes then record v { allowed = false; case = 8 } else v

-- case 9: privilege over a denying case
abbrev pub overridden : Bool → Verdict → Verdict
overridden privileged v = if privileged && not v.allowed then record v { allowed = true; case = 9; over = v.case } else v

-- the cases that allow over a denying case, which the verdict then tells
abbrev pub cases_over : List ℕ
cases_over = 9 ∷ []

abbrev pub goes_over : ℕ → Bool
goes_over case = list_any (λ over. case == over) cases_over

-- the full verdict of a task's question: the ordered cases, then its self rules, then its privilege
abbrev pub full_verdict : Creds → Ruling → LabelId → LabelId → Modes → Verdict
full_verdict c version s o m =
    overridden (is_effective c Cap.MacOverride version) (restricted (self_rule c.self_rules s o) (verdict_of_cases version s o m))

-- case 10: a task attaches to a task with its own label alone
abbrev pub same_label_verdict : LabelId → LabelId → Verdict
same_label_verdict s o = record { allowed = same_label s o; case = 10; over = 0; subject = s; object = o; modes = read_write }

-- Attaching by ptrace to a task with label o (Smack guide, `ptrace` in its list of smackfs files). Policy 0 asks for
-- read and write; the others want one label, and policy 1 yields to CAP_SYS_PTRACE.
abbrev pub attach_verdict : Creds → Ruling → LabelId → Verdict
attach_verdict c version o =
    if version.ptrace == 0 then full_verdict c version c.label o read_write
    else overridden (version.ptrace == 1 && is_effective c Cap.SysPtrace version) (same_label_verdict c.label o)
