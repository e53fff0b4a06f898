use Rattle.std.proofs.Common.{◌≡◌, ◌≤◌, ℕ, Bool, true, false, not, ◌&&◌, ◌==◌, if◌then◌else◌, List, [], ◌∷◌, refl, sym, arith, Option}
use Rattle.std.specs.List.{AllByRecursion}
use Rattle.std.proofs.lemmas.Bool.{ne_eqb, and_right}
use Rattle.smack_base.specs.declared.modes.Modes.{Modes}
use Rattle.smack_base.specs.declared.ids.LabelId.{LabelId}
use Rattle.smack_base.specs.declared.cap.Cap.TheVariants as Cap
use Rattle.rules_spec.specs.declared.Verdict.{Verdict}
use Rattle.rules_spec.specs.Rulings.{Ruling}
use Rattle.rules_spec.specs.AskedModes.{read_write}
use Rattle.rules_spec.specs.Creds.{Creds, self_rule, is_effective}
use Rattle.rules_spec.specs.Cases.{OrderedCase, ordered_cases, first_that_applies, verdict_of_cases}
use Rattle.rules_spec.specs.Verdicts.{restricts, restricted, goes_over, overridden, full_verdict, same_label_verdict, attach_verdict}
use Rattle.replay_spec.specs.Plain.{HasId, IsPlainVerdict, IsPlainAnswer}

-- the number of an ordered case, from 1 to 7
abbrev IsNumbered : OrderedCase → Type 0
IsNumbered c = (1 ≤ c.number) × (c.number ≤ 7)

-- the first of some cases that applies has such a number, and 7 is one
first_numbered : (cases : List OrderedCase) → AllByRecursion IsNumbered cases → IsNumbered (first_that_applies cases)
first_numbered [] all = (omega arith, omega arith)
first_numbered (c ∷ cs) all = by c.applies (first_numbered cs all.1)
  where
    by : (b : Bool) → IsNumbered (first_that_applies cs) → IsNumbered (if b then c else first_that_applies cs)
    by true rest = all.0
    by false rest = rest

case_numbered : (rule : Option Modes) (s o : LabelId) (m : Modes) → IsNumbered (first_that_applies (ordered_cases rule s o m))
case_numbered rule s o m =
    first_numbered
    (ordered_cases rule s o m)
    ((omega arith, omega arith), ((omega arith, omega arith), ((omega arith, omega arith), ((omega arith, omega arith), ((omega arith, omega arith), ((omega arith, omega arith), tt))))))

-- a verdict without privilege: its labels are known, its case is one from 1 to 10 that goes over none, and it went over
-- none
pub record IsUnprivileged (table : List (List ℕ)) (v : Verdict) : Type 0 where
  pub subject : HasId table v.subject
  pub object : HasId table v.object
  pub first : 1 ≤ v.case
  pub last : v.case ≤ 10
  pub other : goes_over v.case ≡ false
  pub over : v.over ≡ 0

-- the ordered cases go over none
ordered_over : (number : ℕ) → number ≤ 7 → goes_over number ≡ false
ordered_over number few = rw (ne_eqb number 9 (λ e. omega (arith, few, e))) refl

-- what went over no case is allowed by none that does
unprivileged_over : (over case : ℕ) (allowed : Bool) → over ≡ 0 → goes_over case ≡ false → not (over == 0) ≡ (allowed && goes_over case)
unprivileged_over over case allowed none other = rw none (sym (and_right allowed (goes_over case) other))

unprivileged_is_plain : (table : List (List ℕ)) (v : Verdict) → IsUnprivileged table v → IsPlainVerdict table v
unprivileged_is_plain table v is = record {
  subject = is.subject;
  object = is.object;
  case = omega (arith, is.last);
  over = unprivileged_over v.over v.case v.allowed is.over is.other;
}

-- a verdict of the ordered cases alone is one without privilege
pub cases_unprivileged : (table : List (List ℕ)) (version : Ruling) (s o : LabelId) (m : Modes) → HasId table s → HasId table o
    → IsUnprivileged table (verdict_of_cases version s o m)
cases_unprivileged table version s o m subject object =
    let number = case_numbered (version.rights s o) s o m in
    record {
      subject = subject;
      object = object;
      first = number.0;
      last = omega (arith, number.1);
      other = ordered_over _ number.1;
      over = refl;
    }

-- the ordered cases answer a question on known labels plainly
pub answer_is_plain : (table : List (List ℕ)) (version : Ruling) (s o : LabelId) (m : Modes) → HasId table s → HasId table o
    → IsPlainAnswer table (verdict_of_cases version s o m)
answer_is_plain table version s o m subject object =
    let number = case_numbered (version.rights s o) s o m in
    record {
      verdict = unprivileged_is_plain table _ (cases_unprivileged table version s o m subject object);
      first = number.0;
      last = number.1;
    }

-- a verdict without privilege still is one where a self rule denies it, by case 8
restricted_unprivileged : (table : List (List ℕ)) (rule : Option Modes) (v : Verdict) → IsUnprivileged table v
    → IsUnprivileged table (restricted rule v)
restricted_unprivileged table rule v is = by (v.allowed && restricts rule v.modes)
  where
    by : (b : Bool) → IsUnprivileged table (if b then record v { allowed = false; case = 8 } else v)
    by true = record { subject = is.subject; object = is.object; first = omega arith; last = omega arith; other = refl; over = is.over }
    by false = is

-- so the verdict on good labels is one without privilege, before privilege is looked at
pub question_unprivileged : (table : List (List ℕ)) (c : Creds) (version : Ruling) (s o : LabelId) (m : Modes) → HasId table s → HasId table o
    → IsUnprivileged table (restricted (self_rule c.self_rules s o) (verdict_of_cases version s o m))
question_unprivileged table c version s o m subject object =
    restricted_unprivileged
    table
    (self_rule c.self_rules s o)
    (verdict_of_cases version s o m)
    (cases_unprivileged table version s o m subject object)

-- privilege goes over the case that denied
overridden_is_plain : (table : List (List ℕ)) (privileged : Bool) (v : Verdict) → IsUnprivileged table v → IsPlainVerdict table (overridden privileged v)
overridden_is_plain table privileged v is = by (privileged && not v.allowed)
  where
    some_case : not (v.case == 0) ≡ true
    some_case = rw (ne_eqb v.case 0 (λ e. omega (arith, is.first))) refl

    by : (b : Bool) → IsPlainVerdict table (if b then record v { allowed = true; case = 9; over = v.case } else v)
    by true = record { subject = is.subject; object = is.object; case = omega arith; over = some_case }
    by false = unprivileged_is_plain table v is

-- the full verdict on known labels is plain
pub verdict_is_plain : (table : List (List ℕ)) (c : Creds) (version : Ruling) (s o : LabelId) (m : Modes) → HasId table s → HasId table o
    → IsPlainVerdict table (full_verdict c version s o m)
verdict_is_plain table c version s o m subject object =
    overridden_is_plain
    table
    (is_effective c Cap.MacOverride version)
    (restricted (self_rule c.self_rules s o) (verdict_of_cases version s o m))
    (question_unprivileged table c version s o m subject object)

-- attaching to a task with a known label: by the full verdict, or by the labels alone
pub attach_is_plain : (table : List (List ℕ)) (c : Creds) (version : Ruling) (o : LabelId) → HasId table c.label → HasId table o
    → IsPlainVerdict table (attach_verdict c version o)
attach_is_plain table c version o subject object = by (version.ptrace == 0)
  where
    alone : IsUnprivileged table (same_label_verdict c.label o)
    alone = record {
      subject = subject;
      object = object;
      first = omega arith;
      last = omega arith;
      other = refl;
      over = refl;
    }

    by : (asks : Bool)
        → IsPlainVerdict table (if asks then full_verdict c version c.label o read_write
        else overridden (version.ptrace == 1 && is_effective c Cap.SysPtrace version) (same_label_verdict c.label o))
    by true = verdict_is_plain table c version c.label o read_write subject object
    by false = overridden_is_plain table (version.ptrace == 1 && is_effective c Cap.SysPtrace version) (same_label_verdict c.label o) alone
