use Rattle.std.specs.Prelude.{◌≡◌, ℕ, Bool, true, false, List, [], ◌∷◌, map, codes}
use Rattle.smack_base.specs.Modes.{no_modes}
use Rattle.smack_base.specs.declared.cap.Cap.TheVariants as Cap
use Rattle.smack_base.specs.declared.ids.LabelId.{LabelId}
use Rattle.smack_base.specs.declared.modes.Modes.{Modes}
use Rattle.smack_base.specs.declared.rule_op.Pair.{Pair}
use Rattle.smack_base.specs.declared.rule_op.RuleOp.{RuleOp}
use Rattle.smack_base.specs.declared.rule_op.RuleOp.TheVariants as RuleOp
use Rattle.rules_spec.specs.declared.Verdict.{Verdict}
use Rattle.rules_spec.specs.Versions.{floor, hat, star}
use Rattle.rules_spec.specs.Rulings.{Ruling, ruling}
use Rattle.rules_spec.specs.Cases.{verdict_of_cases}
use Rattle.rules_spec.specs.Creds.{Creds, creds_first, with_label, without_cap, with_self_rules, is_effective}
use Rattle.rules_spec.specs.Verdicts.{full_verdict, attach_verdict}
use Rattle.row_laws.specs.Versions.{label_id, a, b, c, m, version}

-- a question, and what it is answered by: yes or no, the case, and the case that it goes over
pub record Asked : Type 0 where
  pub s : LabelId
  pub o : LabelId
  pub m : Modes
  pub allowed : Bool
  pub case : ℕ
  pub over : ℕ

abbrev pub allow : LabelId → LabelId → List ℕ → ℕ → Asked
allow s o letters case = record { s = s; o = o; m = m letters; allowed = true; case = case; over = 0 }

abbrev pub deny : LabelId → LabelId → List ℕ → ℕ → Asked
deny s o letters case = record { s = s; o = o; m = m letters; allowed = false; case = case; over = 0 }

-- privilege goes over a denying case
abbrev pub over : LabelId → LabelId → List ℕ → ℕ → Asked
over s o letters case = record { s = s; o = o; m = m letters; allowed = true; case = 9; over = case }

abbrev pub verdict : Asked → Verdict
verdict q = record { allowed = q.allowed; case = q.case; over = q.over; subject = q.s; object = q.o; modes = q.m }

-- each question is answered as its row says
abbrev pub AreAnsweredSo : (Asked → Verdict) → List Asked → Type 0
AreAnsweredSo answer rows = map answer rows ≡ map verdict rows

-- `A B rw`, `A C -`, `B _ w`, and then more writes
abbrev pub rules_and : List RuleOp → Ruling
rules_and more = ruling (version ((RuleOp.Set a b (m (codes "rw")) ∷ RuleOp.Set a c no_modes ∷ RuleOp.Set b floor (m (codes "w")) ∷ more) ∷ []))

abbrev pub rules : Ruling
rules = rules_and []

abbrev pub huh : LabelId
huh = label_id 3

abbrev pub web : LabelId
web = label_id 4

abbrev pub case_rows : List Asked
case_rows =
    deny star star (codes "r") 1
    ∷ deny star floor (codes "r") 1
    ∷ allow hat b (codes "rx") 2
    ∷ deny hat b (codes "rw") 7
    ∷ allow hat floor (codes "r") 2
    ∷ allow a floor (codes "x") 3
    ∷ deny a floor (codes "w") 7
    ∷ allow b floor (codes "w") 6
    ∷ allow a star (codes "rwxatb") 4
    ∷ deny huh web (codes "r") 7
    ∷ allow c c (codes "rwxat") 5
    ∷ allow a b (codes "r") 6
    ∷ deny a b (codes "rwx") 7
    ∷ deny b a (codes "r") 7
    ∷ allow a c (codes "-") 6
    ∷ deny a c (codes "r") 7
    ∷ deny b a (codes "-") 7
    ∷ []

-- the first task with the label A, with its self rule `A B r`, and without CAP_MAC_OVERRIDE
abbrev pub task : Creds
task = with_label creds_first a

abbrev pub self_pair : LabelId → LabelId → List ℕ → Pair
self_pair s o letters = record { s = s; o = o; m = m letters }

abbrev pub with_rule : Creds → Creds
with_rule creds = record creds { self_rules = self_pair a b (codes "r") ∷ [] }

abbrev pub verdict_asked : Creds → Asked → Verdict
verdict_asked creds q = full_verdict creds rules q.s q.o q.m

-- the first task, and what it can use where the onlycap list has the label A; then with this label; then without
-- CAP_MAC_ADMIN
abbrev pub effective_with : Creds → List Bool
effective_with creds = map (λ cap. is_effective creds cap (rules_and (RuleOp.OnlyAdd a ∷ []))) (Cap.MacAdmin ∷ Cap.MacOverride ∷ Cap.SysPtrace ∷ [])

-- attaching under this policy to a task with the label B, and to one with the label A
abbrev pub attaches : ℕ → List Verdict
attaches policy = map (λ o. attach_verdict task (rules_and (RuleOp.Ptrace policy ∷ [])) o) (b ∷ a ∷ [])

abbrev pub attached : LabelId → Bool → ℕ → ℕ → Verdict
attached o allowed case over = record { allowed = allowed; case = case; over = over; subject = a; object = o; modes = m (codes "rw") }

pub record WorkedDecisions : Type 0 where
  pub by_cases : AreAnsweredSo (λ q. verdict_of_cases rules q.s q.o q.m) case_rows
  pub by_task : AreAnsweredSo (verdict_asked task) (allow a b (codes "w") 6 ∷ over a c (codes "w") 7 ∷ [])
  pub by_self_rules : AreAnsweredSo (verdict_asked (with_rule task)) (over a b (codes "w") 8 ∷ [])
  pub without_privilege : AreAnsweredSo (verdict_asked (with_rule (without_cap task Cap.MacOverride))) (deny a b (codes "w") 8 ∷ allow a b (codes "r") 6 ∷ deny a c (codes "w") 7 ∷ [])
  pub capabilities : map effective_with (creds_first ∷ task ∷ without_cap task Cap.MacAdmin ∷ []) ≡ (false ∷ false ∷ true ∷ []) ∷ (true ∷ true ∷ true ∷ []) ∷ (false ∷ true ∷ true ∷ []) ∷ []
  pub attaching : map attaches (0 ∷ 1 ∷ 2 ∷ []) ≡ (attached b true 6 0 ∷ attached a true 5 0 ∷ []) ∷ (attached b true 9 10 ∷ attached a true 10 0 ∷ []) ∷ (attached b false 10 0 ∷ attached a true 10 0 ∷ []) ∷ []
  pub self_rules : with_self_rules [] (self_pair c b (codes "r") ∷ self_pair b c (codes "r") ∷ self_pair c b (codes "w") ∷ []) ≡ self_pair c b (codes "w") ∷ self_pair b c (codes "r") ∷ []
