use Rattle.script_text.specs.Lines.{call_seen}
use Rattle.script_run.specs.Stages.{stage_script}
use Rattle.script_run.proofs.Orders.{act_behind}
use Rattle.script_run.proofs.workers.plain_step.Goals as goal

pub returns-clause-orderly : goal.returns-clause-orderly
returns-clause-orderly g c = λ ls is. act_behind (stage_script g.S.ScriptLines.told c.args.stage) (call_seen c.args.line.now) ls c.args.act
    c.requires.act c.requires.plain is
