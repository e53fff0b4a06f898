use Rattle.smack_kernel.proofs.Indexes.{stands_longer}
use Rattle.smack_kernel.proofs.Tasks.{newer, hears_task, adopts_does}
use Rattle.smack_kernel.proofs.kernel.Kernel.adopt.Goals as goal

pub invariant_of-task : goal.invariant_of-task
invariant_of-task c =
    let t = c.task.invariant.0 in
    let d = c.child.invariant.0 in
    let heard = c.adopt.ensures.heard in
    let n = newer c.adopt.new.seat.view.journal c.task.inside.basis.index c.child.inside.basis.index c.keep_newer.new.self
    c.keep_newer.ensures (stands_longer heard.journal t.stands) (stands_longer heard.told_journal d.stands) in (
      hears_task c.child.inside.seat.view t c.adopt.ensures.same heard d.seen n.stands,
      c.task.invariant.1,
    )

pub returns-clause-adopts : goal.returns-clause-adopts
returns-clause-adopts c =
    let t = c.task.invariant.0 in
    let d = c.child.invariant.0 in
    let heard = c.adopt.ensures.heard in
    let n = newer c.adopt.new.seat.view.journal c.task.inside.basis.index c.child.inside.basis.index c.keep_newer.new.self
    c.keep_newer.ensures (stands_longer heard.journal t.stands) (stands_longer heard.told_journal d.stands) in
    rw (← c.task.view_is, ← c.child.view_is)
    (adopts_does c.task.inside.made c.child.inside.made t d c.adopt.ensures.same heard n.stands n.later n.told_later n.greater)
