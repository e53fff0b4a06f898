use Rattle.smack_program.proofs.FaultsTold.{tells}
use Rattle.smack_program.proofs.running.end.Goals as goal

pub returns : goal.returns
returns g c = record {
  told = c.tell.ensures.ok;
  cut = c.tell.ensures.err;
  fault = tells c.tell.result _ _ c.tell.ensures.later c.tell.ensures.failed c.tell.ensures.told;
  memory = c.tell.ensures.memory;
  code = c.code.ensures;
}
