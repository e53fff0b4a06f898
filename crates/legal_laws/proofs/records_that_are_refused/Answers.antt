use Rattle.legal_laws.proofs.RefusedRecords.{refused}
use Rattle.legal_laws.proofs.records_that_are_refused.Goals as goal

pub returns : goal.returns
returns c = refused
