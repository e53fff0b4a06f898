use Rattle.std.proofs.Common.{◌∙◌, sym, ap, Some}
use Rattle.std.proofs.lemmas.Option.{IfSome_then, same_Some, none-some}
use Rattle.std.specs.Option.{option_map}
use Rattle.audit_line.specs.Values.{seen_values, values_of_line}
use Rattle.audit_line.specs.Parts.{parts_seen, texts_of}
use Rattle.audit_line.proofs.Lines.{line_again, line_tells}
use Rattle.audit_line.proofs.parts.read_line.Goals as goal

pub returns-in-Some-clause-is : goal.returns-in-Some-clause-is
returns-in-Some-clause-is c =
    IfSome_then c.read_parts.result c.read_parts.ensures.is
    (λ p is. (
      is.0,
      line_tells c.args.line.now (parts_seen p)
          (sym c.read_values.ensures ∙ ap (option_map seen_values) c.in-Some.is ∙ ap Some is.1),
    ))

pub returns-in-Some-clause-all : goal.returns-in-Some-clause-all
returns-in-Some-clause-all c =
    λ a is line_is.
    c.read_parts.ensures.all a is
    (same_Some (seen_values c.in-Some.values) (texts_of a)
    (sym (ap (option_map seen_values) c.in-Some.is) ∙ c.read_values.ensures ∙ ap values_of_line line_is ∙ line_again a is))

pub returns-in-None-clause-all : goal.returns-in-None-clause-all
returns-in-None-clause-all c =
    λ a is line_is.
    absurd (none-some (texts_of a)
    (sym (ap (option_map seen_values) c.in-None.is) ∙ c.read_values.ensures ∙ ap values_of_line line_is ∙ line_again a is))
