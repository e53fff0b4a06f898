use Rattle.std.proofs.Common.{ap, sym}
use Rattle.smack_kernel.specs.Tasks.{ToldValue}
use Rattle.smack_kernel.proofs.Indexes.{stands_longer}
use Rattle.smack_kernel.proofs.Tasks.{hears_task, hears_does}
use Rattle.smack_kernel.proofs.kernel.Kernel.hear.Goals as goal

pub invariant_of-task : goal.invariant_of-task
invariant_of-task c = (
  hears_task c.note.inside.notice.view c.task.invariant.0 c.hear.ensures.same c.hear.ensures.heard c.note.invariant.seen
      (stands_longer c.hear.ensures.heard.journal c.task.invariant.0.stands),
  c.task.invariant.1,
)

pub returns-clause-hears : goal.returns-clause-hears
returns-clause-hears c =
    rw (← c.task.view_is)
    (hears_does c.task.inside.made c.note.inside.notice c.args.note c.task.invariant.0 c.hear.ensures.same c.hear.ensures.heard c.note.invariant
    (ap (λ (n : ToldValue). n.journal) (sym c.note.view_is)) (ap (λ (n : ToldValue). n.history) (sym c.note.view_is)))
