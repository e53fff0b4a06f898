use Rattle.world_laws.proofs.Standing.{step_stands}
use Rattle.world_laws.proofs.step_stands.Goals as goal

pub returns : goal.returns
returns c = step_stands
