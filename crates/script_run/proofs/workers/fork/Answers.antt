use Rattle.std.proofs.Common.{◌∷◌, sym, subst}
use Rattle.smack_kernel.specs.Answers.{IsForked}
use Rattle.script_run.specs.Stops.{IsCause}
use Rattle.script_run.proofs.Working.{forked_some, forked_none}
use Rattle.script_run.proofs.Stopping.{fork_cause}
use Rattle.script_run.proofs.workers.fork.Goals as goal

pub returns-in-Some-clause-forked : goal.returns-in-Some-clause-forked
returns-in-Some-clause-forked g c = forked_some c.args.task.now c.fork.new.task c.in-Some.kid c.args.child c.in-Ok.called
    (subst (IsForked c.args.task.now c.fork.new.task c.args.child c.in-Ok.called) c.in-Some.is c.in-Ok.ensures.forked)
    c.in-Ok.ensures.once

pub returns-clause-forked : goal.returns-clause-forked
returns-clause-forked g c = forked_none c.args.task.now c.fork.new.task c.args.child c.in-Ok.called c.why_no_child.result c.requires.top
    (subst (IsForked c.args.task.now c.fork.new.task c.args.child c.in-Ok.called) c.in-None.is c.in-Ok.ensures.forked)

pub returns-clause-cause : goal.returns-clause-cause
returns-clause-cause g c = λ s l ls. subst (IsCause s (l ∷ ls) c.args.task.now c.fork.new.task) (sym c.why_no_child.ensures)
    (fork_cause c.args.task.now c.fork.new.task c.args.child c.in-Ok.called
    (subst (IsForked c.args.task.now c.fork.new.task c.args.child c.in-Ok.called) c.in-None.is c.in-Ok.ensures.forked) s l ls)
