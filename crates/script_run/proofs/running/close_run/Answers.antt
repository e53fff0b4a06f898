use Rattle.std.proofs.Common.{◌∙◌}
use Rattle.script_run.proofs.Closing.{may_close, stop_of_script}
use Rattle.script_run.proofs.running.close_run.Goals as goal

pub close-requires-clause-whole : goal.close-requires-clause-whole
close-requires-clause-whole g c =
    may_close c.args.script.now c.in-Ok.ensures.read _ c.in-Ok-boot.kernel.table c.in-Ok-boot.task c.work-task.result.task
    c.work-task.result.asked c.in-Ok-boot.ensures.task c.work-task.ensures.ran

pub returns-in-Some-clause-stop : goal.returns-in-Some-clause-stop
returns-in-Some-clause-stop g c =
    stop_of_script c.args.script.now c.in-Ok.ensures.read c.work-task.result.stop c.in-Some.stop c.in-Ok-boot.kernel.table c.in-Ok-boot.task
    c.work-task.result.task c.work-task.result.asked c.in-Ok-boot.kernel.labels c.in-Ok-close.closed c.in-Ok-boot.ensures.task
    c.work-task.ensures.ran c.work-task.ensures.cause c.in-Some.is (c.in-Ok-boot.ensures.labels ∙ c.in-Ok.ensures.table) c.in-Ok-close.ensures.closed
