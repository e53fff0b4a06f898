use Rattle.std.proofs.Common.{ap, ◌∙◌}
use Rattle.rules_spec.specs.Rulings.{Ruling}
use Rattle.rules_spec.specs.Cases.{verdict_of_cases}
use Rattle.smack_decide.proofs.ordered_cases.cases.Goals as goal

pub returns-clause-stands : goal.returns-clause-stands
returns-clause-stands c = λ version stands.
    c.first_case-allowed.ensures ∙ ap (λ (r : Ruling). verdict_of_cases r c.args.s c.args.o c.args.m) stands.says
