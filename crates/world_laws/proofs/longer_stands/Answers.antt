use Rattle.world_laws.proofs.Standing.{longer_stands}
use Rattle.world_laws.proofs.longer_stands.Goals as goal

pub returns : goal.returns
returns c = longer_stands
