use Rattle.run_laws.proofs.Plain.{runs_are_plain}
use Rattle.run_laws.proofs.runs_are_plain.Goals as goal

pub returns : goal.returns
returns c = runs_are_plain
