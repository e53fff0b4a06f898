use Rattle.std.proofs.Common.{◌≡◌, ℕ, Option, Some, None, Result, Ok, Err, [], ◌∷◌, refl, ap, ◌∙◌, sym}
use Rattle.text_spec.specs.declared.BadLine.{BadLine}
use Rattle.text_spec.specs.declared.LineFault.{LineFault}
use Rattle.text_spec.specs.Texts.{Placed}
use Rattle.text_spec.specs.RuleTexts.{RuleWords, first_fault, unless_fault, subject_fault, object_fault, allow_fault, deny_fault, long_line, change_line}
use Rattle.rule_text.specs.RuleAnswers.{denying}

-- a line of changes: the fields that it shares with the long form, and then its own
abbrev pub then_deny : Placed → Result RuleWords BadLine → Result RuleWords BadLine
then_deny d (Err b) = Err b
then_deny d (Ok r) = denying d r

-- the first fault of one
first_of_one : (f : Option LineFault) → first_fault (f ∷ []) ≡ f
first_of_one None = refl
first_of_one (Some f) = refl

-- the fault of the last field counts where the others have none
deny_last : (fs fo fa : Option LineFault) (line : ℕ) (s o a d : Placed)
    → then_deny d (unless_fault line (first_fault (fs ∷ fo ∷ fa ∷ [])) (record { line = line; subject = s; object = o; allow = a; deny = None }))
    ≡ unless_fault line (first_fault (fs ∷ fo ∷ fa ∷ deny_fault d ∷ [])) (record { line = line; subject = s; object = o; allow = a; deny = Some d })
deny_last (Some f) fo fa line s o a d = refl
deny_last None (Some f) fa line s o a d = refl
deny_last None None (Some f) line s o a d = refl
deny_last None None None line s o a d =
    ap (λ f. unless_fault line f (record { line = line; subject = s; object = o; allow = a; deny = Some d })) (sym (first_of_one (deny_fault d)))

-- a line of changes from what its first three fields are as a long line
pub change_from_long : (line : ℕ) (s o a d : Placed) (r : Result RuleWords BadLine) → r ≡ long_line line (s ∷ o ∷ a ∷ [])
    → then_deny d r ≡ change_line line (s ∷ o ∷ a ∷ d ∷ [])
change_from_long line s o a d r is = ap (then_deny d) is ∙ deny_last (subject_fault s) (object_fault o) (allow_fault a) line s o a d
