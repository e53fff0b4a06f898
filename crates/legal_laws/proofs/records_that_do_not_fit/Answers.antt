use Rattle.legal_laws.proofs.UnfitRecords.{unfit}
use Rattle.legal_laws.proofs.records_that_do_not_fit.Goals as goal

pub returns : goal.returns
returns c = unfit
