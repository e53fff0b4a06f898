use Rattle.std.proofs.Common.{ap, ◌∙◌}
use Rattle.rules_spec.specs.Rulings.{Ruling}
use Rattle.rules_spec.specs.Creds.{is_effective}
use Rattle.smack_decide.proofs.privilege.effective.Goals as goal

pub returns-clause-stands : goal.returns-clause-stands
returns-clause-stands c = λ version stands.
    c.is_effective_now.ensures ∙ ap (λ (r : Ruling). is_effective c.args.cred.now c.args.cap r) stands.says
