use Rattle.legal_forms_laws.proofs.Lines.{batches_are_decided}
use Rattle.legal_forms_laws.proofs.batches_are_decided.Goals as goal

pub returns : goal.returns
returns c = batches_are_decided
