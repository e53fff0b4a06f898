use Rattle.legal_forms_laws.proofs.Entries.{entries_are_decided}
use Rattle.legal_forms_laws.proofs.entries_are_decided.Goals as goal

pub returns : goal.returns
returns c = entries_are_decided
