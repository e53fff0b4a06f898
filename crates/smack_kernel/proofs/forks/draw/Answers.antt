use Rattle.smack_kernel.proofs.Forking.{drew_all}
use Rattle.smack_kernel.proofs.forks.draw.Goals as goal

pub returns-clause-drew : goal.returns-clause-drew
returns-clause-drew c =
    let a = c.notice-note.ensures.told in
    let b = c.notice-drawn.ensures.told in
    let e = c.enrol-child.ensures in
    rw c.notice-drawn.ensures.same.1
    (drew_all c.args.seat.now.view _ _ _ _ _ _ a.0 b.0 c.enrol-child.result.number c.requires.turn.0 c.requires.turn.1
    a.3 a.4 e.number e.view e.none.0 e.none.1 b.2 b.3 b.4 c.hear.ensures.heard)
