use Rattle.std.proofs.Common.{◌∷◌, refl, ap, ◌∙◌, Some}
use Rattle.script_text.specs.Lines.{call_seen}
use Rattle.runs_spec.proofs.Calls.{ran_unchanged}
use Rattle.script_run.specs.Stages.{stage_script}
use Rattle.script_run.proofs.Orders.{no_child}
use Rattle.script_run.proofs.making.plain_line.Goals as goal

pub returns-in-Wait-clause-ran : goal.returns-in-Wait-clause-ran
returns-in-Wait-clause-ran g c = λ ls. ran_unchanged (stage_script g.S.ScriptLines.told c.args.stage) (call_seen c.args.line.now ∷ ls) ls c.args.task.now c.args.task.now
    c.args.asked.now c.args.asked.now c.requires.top refl

pub returns-in-Wait-clause-cause : goal.returns-in-Wait-clause-cause
returns-in-Wait-clause-cause g c = λ ls. no_child (stage_script g.S.ScriptLines.told c.args.stage) (call_seen c.args.line.now) ls c.in-Wait.field-0
    (c.requires.act ∙ ap (λ a. Some a) c.in-Wait.is)
