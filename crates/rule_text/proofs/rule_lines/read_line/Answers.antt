use Rattle.std.proofs.Common.{ap, ◌∙◌, Some}
use Rattle.rule_text.specs.Parts.{as_line}
use Rattle.rule_text.proofs.CountedLines.{long_some, change_some, short_some}
use Rattle.rule_text.proofs.GoodFields.{good_read}
use Rattle.rule_text.proofs.rule_lines.read_line.Goals as goal

pub returns-in-Long-clause-answer : goal.returns-in-Long-clause-answer
returns-in-Long-clause-answer c = ap (λ r. Some r) c.read_long.ensures ∙ long_some c.args.form c.in-Long.is c.args.line (as_line c.args.text) c.requires.is

pub returns-in-Long-clause-good : goal.returns-in-Long-clause-good
returns-in-Long-clause-good c = good_read c.args.form c.args.line (as_line c.args.text) (Some c.read_long.result) (returns-in-Long-clause-answer c)

pub returns-in-Change-clause-answer : goal.returns-in-Change-clause-answer
returns-in-Change-clause-answer c = ap (λ r. Some r) c.read_change.ensures ∙ change_some c.args.form c.in-Change.is c.args.line (as_line c.args.text) c.requires.is

pub returns-in-Change-clause-good : goal.returns-in-Change-clause-good
returns-in-Change-clause-good c = good_read c.args.form c.args.line (as_line c.args.text) (Some c.read_change.result) (returns-in-Change-clause-answer c)

pub returns-in-Short-clause-answer : goal.returns-in-Short-clause-answer
returns-in-Short-clause-answer c = ap (λ r. Some r) c.read_short.ensures ∙ short_some c.args.form c.in-Short.is c.args.line (as_line c.args.text) c.requires.is

pub returns-in-Short-clause-good : goal.returns-in-Short-clause-good
returns-in-Short-clause-good c = good_read c.args.form c.args.line (as_line c.args.text) (Some c.read_short.result) (returns-in-Short-clause-answer c)
