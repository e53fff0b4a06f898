use Rattle.std.proofs.Common.{◌≡◌, ◌++◌, ◌∙◌, ℕ, List, Some, refl, ap, codes}
use Rattle.std.proofs.lemmas.Bool.{and_parts}
use Rattle.std.proofs.lemmas.Option.{option_and_then_some}
use Rattle.log_spec.specs.Audits.{Audited, IsAudited, audit_text}
use Rattle.log_spec.proofs.PrintedBytes.{label_bytes, letter_bytes, numeral_bytes}
use Rattle.audit_line.specs.Values.{rest_behind, values_at, line_keys, values_of_line}
use Rattle.audit_line.specs.Parts.{texts_of}
use Rattle.audit_line.proofs.Fronts.{behind_is}
use Rattle.audit_line.proofs.Told.{AreValues, read_tells, told_again}
use Rattle.audit_line.proofs.PrintedBytes.{of_action}

are_values : (a : Audited) → IsAudited a → AreValues line_keys (texts_of a)
are_values a is = (
  of_action a.action,
  refl,
  (
    (and_parts _ _ is.verb).1,
    refl,
    (
      label_bytes a.subject is.subject,
      refl,
      (
        label_bytes a.object is.object,
        refl,
        (letter_bytes a.modes, refl, (numeral_bytes a.case, refl, tt)),
      ),
    ),
  ),
)

-- the values of the line of a check are read again
pub line_again : (a : Audited) → IsAudited a → values_of_line (audit_text a) ≡ Some (texts_of a)
line_again a is = told_again line_keys (texts_of a) (are_values a is)

-- where the values of a line are those of a check, the line is that of the check
pub line_tells : (line : List ℕ) (a : Audited) → values_of_line line ≡ Some (texts_of a) → line ≡ audit_text a
line_tells line a read =
    option_and_then_some (values_at line_keys) (rest_behind (codes "a") line) (texts_of a) read
    (λ text behind_it next. behind_is (codes "a") line text behind_it ∙ ap (λ t. codes "a" ++ t) (read_tells line_keys (texts_of a) text next))
