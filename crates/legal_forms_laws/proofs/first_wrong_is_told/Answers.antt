use Rattle.legal_forms_laws.proofs.Entries.{first_wrong_is_told}
use Rattle.legal_forms_laws.proofs.first_wrong_is_told.Goals as goal

pub returns : goal.returns
returns c = first_wrong_is_told
