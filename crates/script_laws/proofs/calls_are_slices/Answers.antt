use Rattle.script_laws.proofs.Slices.{calls_are_slices}
use Rattle.script_laws.proofs.calls_are_slices.Goals as goal

pub returns : goal.returns
returns c = calls_are_slices
