use Rattle.legal_forms_laws.proofs.Lines.{lines_are_decided}
use Rattle.legal_forms_laws.proofs.lines_are_decided.Goals as goal

pub returns : goal.returns
returns c = lines_are_decided
