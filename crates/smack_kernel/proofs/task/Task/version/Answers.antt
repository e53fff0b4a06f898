use Rattle.std.proofs.Common.{◌≡◌, arith}
use Rattle.smack_kernel.proofs.Indexes.{stands_within}
use Rattle.smack_kernel.proofs.task.Task.version.Goals as goal

pub returns-clause-within : goal.returns-clause-within
returns-clause-within c =
    let is : c.version.result ≡ c.self.inside.basis.index.rules.version = c.version.ensures.exact in
    let within = stands_within c.self.invariant.0.stands in
    rw (← c.self.view_is) (omega arith)
