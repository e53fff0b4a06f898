use Rattle.run_laws.proofs.LegalFor.{runs_are_legal_for_scripts}
use Rattle.run_laws.proofs.runs_are_legal_for_scripts.Goals as goal

pub returns : goal.returns
returns c = runs_are_legal_for_scripts
