use Rattle.std.proofs.Common.{rules, ap, ◌∙◌}
use Rattle.rule_fold.specs.Absorbing.{after_batch}
use Rattle.rule_fold.proofs.Versions.{after_batch_is}
use Rattle.rule_fold.proofs.rule_index.RuleIndex.absorb.Goals as goal

pub returns-clause-exact : goal.returns-clause-exact
returns-clause-exact c = search rules

pub returns-clause-next : goal.returns-clause-next
returns-clause-next c = λ version stands. record {
  says = returns-clause-exact c ∙ ap (λ r. after_batch r c.args.batch.now) stands.says ∙ after_batch_is version c.args.batch.now;
}
