use Rattle.replay_laws.proofs.Rows.{worked_scripts}
use Rattle.replay_laws.proofs.worked_scripts.Goals as goal

pub returns : goal.returns
returns c = worked_scripts
