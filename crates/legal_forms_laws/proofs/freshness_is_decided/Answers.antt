use Rattle.legal_forms_laws.proofs.Fresh.{freshness_is_decided}
use Rattle.legal_forms_laws.proofs.freshness_is_decided.Goals as goal

pub returns : goal.returns
returns c = freshness_is_decided
