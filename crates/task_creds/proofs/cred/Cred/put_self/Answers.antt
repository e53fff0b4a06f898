use Rattle.task_creds.proofs.RulesApart.{apart_with_more}
use Rattle.task_creds.proofs.cred.Cred.put_self.Goals as goal

pub invariant_of-self : goal.invariant_of-self
invariant_of-self c =
    let joined = c.in_ok-self-inside.ensures in
    (joined.room, rw joined.rules (apart_with_more c.items.result.now c.self.inside.self_rules.items c.self.invariant.1), c.self.invariant.2)
