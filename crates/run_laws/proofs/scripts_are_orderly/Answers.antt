use Rattle.run_laws.proofs.Orders.{scripts_are_orderly}
use Rattle.run_laws.proofs.scripts_are_orderly.Goals as goal

pub returns : goal.returns
returns c = scripts_are_orderly
