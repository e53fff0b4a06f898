use Rattle.script_laws.proofs.Worked.{good_scripts}
use Rattle.script_laws.proofs.read_scripts.Goals as goal

pub returns : goal.returns
returns c = good_scripts
