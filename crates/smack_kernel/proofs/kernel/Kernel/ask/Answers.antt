use Rattle.std.proofs.Common.{arith, refl, ap, ◌+◌}
use Rattle.smack_kernel.specs.Tasks.{TaskValue}
use Rattle.smack_kernel.proofs.Indexes.{stands_whole}
use Rattle.smack_kernel.proofs.Tasks.{sees_task, sees_does, loads_none, on_err}
use Rattle.smack_kernel.proofs.kernel.Kernel.ask.Goals as goal

pub returns-then-task-ge-MOST_CALLS-clause-loads : goal.returns-then-task-ge-MOST_CALLS-clause-loads
returns-then-task-ge-MOST_CALLS-clause-loads c = rw (← c.task.view_is) (loads_none c.task.invariant.0 c.task.inside.seat.view.loads)

pub returns-in_err-look-clause-stays : goal.returns-in_err-look-clause-stays
returns-in_err-look-clause-stays c = on_err c.from_residual.result (rw (← c.task.view_is) (record {
  does = sees_does c.task.inside.made c.task.inside.made c.task.invariant.0 c.look.ensures.same c.look.ensures.sees c.look.ensures.stands c.look.ensures.later;
  made = refl;
  creds = refl;
}))

pub returns-clause-asked : goal.returns-clause-asked
returns-clause-asked c = (
  (let made = ap (λ (t : TaskValue). t.made) c.task.view_is in let few = c.if-task-ge-MOST_CALLS.false in omega arith),
  rw (← c.task.view_is) (record {
    does = sees_does
        c.task.inside.made (c.task.inside.made + 1) c.task.invariant.0 c.look.ensures.same c.look.ensures.sees c.look.ensures.stands c.look.ensures.later;
    made = refl;
    creds = refl;
    now = c.version.ensures.exact;
    whole = c.in_ok-look.ensures.whole;
  }),
  c.cases.ensures.stands _ (stands_whole c.look.ensures.stands c.in_ok-look.ensures.whole),
)

pub invariant_of-task : goal.invariant_of-task
invariant_of-task c = (
  sees_task c.task.invariant.0 c.look.ensures.same c.look.ensures.sees c.look.ensures.stands,
  c.task.invariant.1,
)

pub invariant_of-task-2 : goal.invariant_of-task-2
invariant_of-task-2 c =
    let few = c.if-task-ge-MOST_CALLS.false in (
      sees_task c.task.invariant.0 c.look.ensures.same c.look.ensures.sees c.look.ensures.stands,
      omega arith,
    )
