use Rattle.smack_kernel.proofs.Indexes.{stands_low, stands_grown}
use Rattle.smack_kernel.proofs.publishing.judge.Goals as goal

pub absorb-requires-clause-counted : goal.absorb-requires-clause-counted
absorb-requires-clause-counted c = stands_low c.read_up.ensures.stands

pub returns-clause-stands : goal.returns-clause-stands
returns-clause-stands c =
    (stands_grown c.args.batch.now c.read_up.ensures.stands c.in_ok-read_up.ensures.whole c.in_ok-absorb.ensures.rules c.in_ok-absorb.ensures.rows).stands
