use Rattle.std.proofs.Common.{arith}
use Rattle.task_creds.proofs.RulesApart.{apart_none}
use Rattle.task_creds.proofs.cred.Cred.first.Goals as goal

pub invariant_of-result : goal.invariant_of-result
invariant_of-result c = rw (c.new.ensures.items, c.new-2.ensures.items) (omega arith, apart_none, omega arith)
