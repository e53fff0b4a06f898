use Rattle.outside.proofs.Taking.{takes_more}
use Rattle.outside.proofs.reading.read_all.Goals as goal

-- what came before, and the piece that there was no memory for
pub returns-then-is_err-clause-front : goal.returns-then-is_err-clause-front
returns-then-is_err-clause-front g c = (_, takes_more _ _ _ _ _ c.loop-n.invariant.took c.in-Ok.ensures.bytes)
