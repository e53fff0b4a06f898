use Rattle.run_laws.proofs.WorkedLoads.{loads}
use Rattle.run_laws.proofs.worked_loads.Goals as goal

pub returns : goal.returns
returns c = loads
