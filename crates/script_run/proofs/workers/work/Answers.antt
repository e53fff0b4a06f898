use Rattle.std.proofs.Common.{arith, refl, sym, subst, ◌∙◌, [], is_some}
use Rattle.runs_spec.specs.Scripts.{scripted, lines_by, ForksFirst}
use Rattle.runs_spec.proofs.Calls.{ran_unchanged}
use Rattle.script_run.proofs.Working.{staged, work_lines}
use Rattle.script_run.proofs.ForkLines.{forks_come_first}
use Rattle.script_run.proofs.Stopping.{work_cause}
use Rattle.script_run.proofs.workers.work.Goals as goal

pub returns-in_default-clause-ran : goal.returns-in_default-clause-ran
returns-in_default-clause-ran g c = ran_unchanged (scripted c.args.script.now) (lines_by c.args.pid.0 c.args.script.now) [] c.args.task c.args.task []
    c.new-asked.result (let is = c.version.ensures.version in let within = c.version.ensures.within in omega arith) refl

pub returns-in_default-new-clause-ran : goal.returns-in_default-new-clause-ran
returns-in_default-new-clause-ran g c = ran_unchanged (scripted c.args.script.now) (lines_by c.args.pid.0 c.args.script.now) [] c.args.task c.args.task []
    c.new-asked.result (let is = c.version.ensures.version in let within = c.version.ensures.within in omega arith) refl

-- no line of a task of the stage stands before the line that forks it
pub go-requires-clause-forks : goal.go-requires-clause-forks
go-requires-clause-forks g c = λ _ _. subst ForksFirst
    (sym (staged c.args.script.now c.in-Ok-new.placed c.args.kernel.now.labels c.items.result.now c.requires.labels
    (c.items.ensures ∙ (c.in-Ok.ensures ∙ c.tasks.ensures.names)) (c.in-Ok-new.ensures ∙ c.lines.ensures.calls)))
    (forks_come_first c.args.script.now c.lines.ensures.read)

pub returns-clause-ran : goal.returns-clause-ran
returns-clause-ran g c = let ran = rw c.new-asked.ensures at c.go.ensures.ran in work_lines c.args.script.now
    (record { labels = c.args.kernel.now.labels; names = c.items.result.now; lines = c.in-Ok-new.placed }) c.args.pid.0
    c.count.result (is_some c.go.result.stop) c.args.task c.go.result.task c.go.result.asked
    (staged c.args.script.now c.in-Ok-new.placed c.args.kernel.now.labels c.items.result.now c.requires.labels (c.items.ensures ∙ (c.in-Ok.ensures ∙ c.tasks.ensures.names))
    (c.in-Ok-new.ensures ∙ c.lines.ensures.calls)) c.count.ensures ran

pub returns-clause-cause : goal.returns-clause-cause
returns-clause-cause g c = work_cause c.args.script.now
    (record { labels = c.args.kernel.now.labels; names = c.items.result.now; lines = c.in-Ok-new.placed }) c.args.pid.0
    c.count.result c.go.result.stop c.args.task c.go.result.task
    (staged c.args.script.now c.in-Ok-new.placed c.args.kernel.now.labels c.items.result.now c.requires.labels (c.items.ensures ∙ (c.in-Ok.ensures ∙ c.tasks.ensures.names))
    (c.in-Ok-new.ensures ∙ c.lines.ensures.calls)) c.count.ensures c.go.ensures.cause
