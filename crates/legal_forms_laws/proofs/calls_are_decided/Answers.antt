use Rattle.legal_forms_laws.proofs.Calls.{calls_are_decided}
use Rattle.legal_forms_laws.proofs.calls_are_decided.Goals as goal

pub returns : goal.returns
returns c = calls_are_decided
