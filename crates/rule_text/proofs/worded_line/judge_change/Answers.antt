use Rattle.std.proofs.Common.{◌∙◌}
use Rattle.rule_text.specs.Parts.{placed}
use Rattle.rule_text.proofs.ChangeLine.{change_from_long}
use Rattle.rule_text.proofs.worded_line.judge_change.Goals as goal

pub returns-in-Err : goal.returns-in-Err
returns-in-Err c =
    change_from_long c.args.line (placed c.args.subject.word) (placed c.args.object.word) (placed c.args.allow) (placed c.args.deny) _ c.in-Err.ensures

pub returns-in-Ok : goal.returns-in-Ok
returns-in-Ok c =
    c.with_deny.ensures ∙ change_from_long c.args.line (placed c.args.subject.word) (placed c.args.object.word) (placed c.args.allow) (placed c.args.deny) _ c.in-Ok.ensures
