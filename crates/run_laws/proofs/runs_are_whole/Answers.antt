use Rattle.run_laws.proofs.Whole.{runs_are_whole}
use Rattle.run_laws.proofs.runs_are_whole.Goals as goal

pub returns : goal.returns
returns c = runs_are_whole
