use Rattle.outside.proofs.Taking.{takes_from}
use Rattle.outside.proofs.calm.CalmSourceSource.read.Goals as goal

pub returns-clause-bytes : goal.returns-clause-bytes
returns-clause-bytes c =
    rw (← c.self.view_is) (takes_from c.self.inside.bytes.items _ c.self.inside.at c.copy_front-n.result
    (rw c.as_slice.ensures.value at c.copy_front-n.ensures.copied))
