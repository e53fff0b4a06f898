use Rattle.task_creds.proofs.SelfRules.{rule_at, no_rule}
use Rattle.task_creds.proofs.self_rules.modes_of.Goals as goal

pub returns-in-Some : goal.returns-in-Some
returns-in-Some c = rule_at c.args.s c.args.o c.args.rules.now c.in-Some.at _ c.in-Some.ensures.place

pub returns-in-None : goal.returns-in-None
returns-in-None c = no_rule c.args.s c.args.o c.args.rules.now c.in-None.ensures.place
