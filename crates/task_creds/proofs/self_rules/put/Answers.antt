use Rattle.std.proofs.Common.{◌∙◌}
use Rattle.task_creds.proofs.SelfRules.{replaced, added}
use Rattle.task_creds.proofs.self_rules.put.Goals as goal

pub returns-in-Some : goal.returns-in-Some
returns-in-Some c = replaced c.args.rule c.args.rules.now.items c.in-Some.at (rw c.as_slice.ensures.value at c.in-Some.ensures.place)

pub returns-in_ok-push-in-None : goal.returns-in_ok-push-in-None
returns-in_ok-push-in-None c =
    c.in_ok-push-in-None.ensures.items ∙ added c.args.rule c.args.rules.now.items (rw c.as_slice.ensures.value at c.in-None.ensures.place)
