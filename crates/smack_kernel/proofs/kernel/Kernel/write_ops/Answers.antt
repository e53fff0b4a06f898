use Rattle.std.proofs.Common.{arith, refl, ap, ◌+◌}
use Rattle.smack_kernel.specs.Tasks.{TaskValue}
use Rattle.smack_kernel.proofs.Indexes.{stands_within}
use Rattle.smack_kernel.proofs.Tasks.{task_published, published_more, on_err}
use Rattle.smack_kernel.proofs.kernel.Kernel.write_ops.Goals as goal

pub invariant_of-task : goal.invariant_of-task
invariant_of-task g c =
    let e = c.publish.ensures in (
      task_published c.task.invariant.0 e.same.1 e.same.2 e.same.3 e.same.4 e.stands c.in_err-published.ensures.err.journal,
      c.task.invariant.1,
    )

pub returns-in_err-published-clause-stays : goal.returns-in_err-published-clause-stays
returns-in_err-published-clause-stays g c =
    let e = c.publish.ensures in
    on_err c.from_residual.result (rw (← c.task.view_is) (record {
      does = record {
        table = e.same.0;
        number = e.same.1;
        ended = ap Rattle.live_table.specs.Lists.rest_of e.same.3;
        grows = c.in_err-published.ensures.err;
        later = e.later;
        within = stands_within e.stands;
        ended_loads = e.same.5;
      };
      made = refl;
      creds = refl;
    }))

pub invariant_of-task-2 : goal.invariant_of-task-2
invariant_of-task-2 g c =
    let e = c.publish.ensures in
    let made = ap (λ (t : TaskValue). t.made) c.task.view_is in
    let few = c.requires.few in (
      task_published c.task.invariant.0 e.same.1 e.same.2 e.same.3 e.same.4 e.stands
          (published_more _ _ _ _ _ _ (record { task = c.number.result; seq = c.task.inside.made + 1; ops = c.args.ops }) _ c.in_ok-published.published c.in_ok-published.ensures.published),
      omega arith,
    )
