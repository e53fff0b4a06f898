use Rattle.std.proofs.Common.{arith, subst, ◌<◌}
use Rattle.smack_kernel.specs.Tasks.{TaskValue, task_of, most_calls}
use Rattle.smack_kernel.specs.Answers.{IsForked}
use Rattle.smack_kernel.specs.Forks.{IsBranched}
use Rattle.smack_kernel.specs.declared.kernel.Called.TheVariants as Called
use Rattle.smack_kernel.proofs.Tasks.{loads_none}
use Rattle.smack_kernel.proofs.Forking.{forked_full}
use Rattle.smack_kernel.proofs.kernel.Kernel.fork.Goals as goal

pub returns-then-task-ge-MOST_CALLS-clause-loads : goal.returns-then-task-ge-MOST_CALLS-clause-loads
returns-then-task-ge-MOST_CALLS-clause-loads g c = rw (← c.task.view_is) (loads_none c.task.invariant.0 c.task.inside.seat.view.loads)

pub returns-in-TrailFull-clause-forked : goal.returns-in-TrailFull-clause-forked
returns-in-TrailFull-clause-forked g c =
    let i = c.task.inside in
    let n = c.branch-rt.new in
    let v = task_of i.seat i.basis.index.rules i.made i.basis.creds in
    let w = task_of n.seat n.basis.index.rules i.made n.basis.creds in
    let child = c.in_ok-turned.child in
    let few : i.made < most_calls = (let below = c.if-task-ge-MOST_CALLS.false in omega arith) in
    subst (λ (z : TaskValue). IsForked z w c.args.pid (Called.TrailFull c.in-TrailFull.call) child) c.task.view_is
    (forked_full v w c.args.pid c.in-TrailFull.call child few
    (subst (λ q. IsBranched v w c.args.pid q child) c.in-TrailFull.is c.in_ok-turned.ensures.branched))
