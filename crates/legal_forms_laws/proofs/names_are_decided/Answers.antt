use Rattle.legal_forms_laws.proofs.Names.{names_are_decided}
use Rattle.legal_forms_laws.proofs.names_are_decided.Goals as goal

pub returns : goal.returns
returns c = names_are_decided
