use Rattle.legal_laws.proofs.Interleaved.{other_order}
use Rattle.legal_laws.proofs.another_order_is_legal.Goals as goal

pub returns : goal.returns
returns c = other_order
