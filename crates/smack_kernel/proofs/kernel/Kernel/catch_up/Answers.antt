use Rattle.std.proofs.Common.{refl}
use Rattle.smack_kernel.proofs.Tasks.{sees_task, sees_does}
use Rattle.smack_kernel.proofs.kernel.Kernel.catch_up.Goals as goal

pub returns-clause-stays : goal.returns-clause-stays
returns-clause-stays c =
    rw (← c.task.view_is) (record {
      does = sees_does c.task.inside.made c.task.inside.made c.task.invariant.0 c.look.ensures.same c.look.ensures.sees c.look.ensures.stands c.look.ensures.later;
      made = refl;
      creds = refl;
    })

pub invariant_of-task : goal.invariant_of-task
invariant_of-task c = (
  sees_task c.task.invariant.0 c.look.ensures.same c.look.ensures.sees c.look.ensures.stands,
  c.task.invariant.1,
)
