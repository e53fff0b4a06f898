use Rattle.run_laws.proofs.Legal.{runs_are_legal}
use Rattle.run_laws.proofs.runs_are_legal.Goals as goal

pub returns : goal.returns
returns c = runs_are_legal
