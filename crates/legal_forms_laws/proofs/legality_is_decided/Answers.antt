use Rattle.legal_forms_laws.proofs.Whole.{legality_is_decided}
use Rattle.legal_forms_laws.proofs.legality_is_decided.Goals as goal

pub returns : goal.returns
returns c = legality_is_decided
