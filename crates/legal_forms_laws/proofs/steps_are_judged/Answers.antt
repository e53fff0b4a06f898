use Rattle.legal_forms_laws.proofs.Steps.{steps_are_judged}
use Rattle.legal_forms_laws.proofs.steps_are_judged.Goals as goal

pub returns : goal.returns
returns c = steps_are_judged
