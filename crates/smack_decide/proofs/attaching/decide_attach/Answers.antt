use Rattle.std.proofs.Common.{ap, ◌∙◌}
use Rattle.rules_spec.specs.Rulings.{Ruling}
use Rattle.rules_spec.specs.Verdicts.{attach_verdict}
use Rattle.smack_decide.proofs.attaching.decide_attach.Goals as goal

pub returns-clause-stands : goal.returns-clause-stands
returns-clause-stands c = λ version stands.
    c.attach_verdict_now.ensures ∙ ap (λ (r : Ruling). attach_verdict c.args.cred.now r c.args.target) stands.says
