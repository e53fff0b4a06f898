use Rattle.std.proofs.Common.{ap, ◌∙◌}
use Rattle.rules_spec.specs.Rulings.{Ruling}
use Rattle.rule_fold.proofs.rule_index.RuleIndex.rights.Goals as goal

pub returns-clause-exact : goal.returns-clause-exact
returns-clause-exact c = rw (← c.self.view_is) (c.copied.ensures ∙ c.get.ensures.value)

pub returns-clause-stands : goal.returns-clause-stands
returns-clause-stands c = λ version stands. returns-clause-exact c ∙ ap (λ (r : Ruling). r.rights c.args.s c.args.o) stands.says
