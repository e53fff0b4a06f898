use Rattle.std.proofs.Common.{refl}
use Rattle.world_spec.specs.Steps.{verdict_of}
use Rattle.world_laws.specs.WorkedCalls.{WorkedCalls}

pub worked : WorkedCalls
unfolding verdict_of
worked = record { signals = refl; traces = refl; one_relabel = refl; self_rules = refl; files = refl; listings = refl; many_tasks = refl }
