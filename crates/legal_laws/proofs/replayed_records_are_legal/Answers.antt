use Rattle.legal_laws.proofs.Fitting.{replayed_is_legal}
use Rattle.legal_laws.proofs.replayed_records_are_legal.Goals as goal

pub returns : goal.returns
returns c = replayed_is_legal
