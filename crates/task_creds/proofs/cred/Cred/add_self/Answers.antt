use Rattle.task_creds.proofs.RulesApart.{apart_with_more}
use Rattle.task_creds.proofs.cred.Cred.add_self.Goals as goal

pub invariant_of-self : goal.invariant_of-self
invariant_of-self c =
    (c.in-Ok.ensures.room, rw c.in-Ok.ensures.rules (apart_with_more c.items.result.now c.self.inside.self_rules.items c.self.invariant.1), c.self.invariant.2)
