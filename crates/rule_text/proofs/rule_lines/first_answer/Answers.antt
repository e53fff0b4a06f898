use Rattle.rule_text.specs.Parts.{lines_of}
use Rattle.rule_text.specs.Counted.{numbered_line}
use Rattle.rule_text.specs.RuleAnswers.{answer_seen}
use Rattle.rule_text.proofs.CountedLines.{first_rule, no_rule}
use Rattle.rule_text.proofs.rule_lines.first_answer.Goals as goal

pub returns-in_default-clause-answers : goal.returns-in_default-clause-answers
returns-in_default-clause-answers c =
    no_rule c.args.form c.args.line (lines_of c.args.text) (rw c.skipped_by.ensures at c.in_default.ensures.lines)

pub returns-clause-answers : goal.returns-clause-answers
returns-clause-answers c =
    first_rule c.args.form c.args.line (lines_of c.args.text) (numbered_line c.in-Some.first) (lines_of c.in-Some.first.rest) (answer_seen c.read_line.result)
    (rw c.skipped_by.ensures at c.in-Some.ensures.lines) c.read_line.ensures.answer
