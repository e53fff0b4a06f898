use Rattle.rule_fold.proofs.policy.set_rule.Goals as goal

pub returns-clause-after : goal.returns-clause-after
returns-clause-after c = λ a b. let put = rw c.unwrap.ensures at c.insert.ensures.updates in put.0 (a.0, b.0)
