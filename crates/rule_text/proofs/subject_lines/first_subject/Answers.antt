use Rattle.std.proofs.Common.{ap, ◌∙◌, Some}
use Rattle.rule_text.specs.Parts.{lines_of, as_line}
use Rattle.rule_text.specs.Counted.{numbered_line}
use Rattle.rule_text.specs.LabelAnswers.{seen_word}
use Rattle.rule_text.proofs.CountedLines.{first_subject, no_subject, subject_some}
use Rattle.rule_text.proofs.subject_lines.first_subject.Goals as goal

pub returns-in_default-clause-answers : goal.returns-in_default-clause-answers
returns-in_default-clause-answers c = no_subject c.args.line (lines_of c.args.text) c.in_default.ensures.lines

pub returns-clause-answers : goal.returns-clause-answers
returns-clause-answers c =
    first_subject c.args.line (lines_of c.args.text) (numbered_line c.in-Some.first) (lines_of c.in-Some.first.rest) (seen_word c.read_subject.result)
    c.in-Some.ensures.lines
    (ap (λ r. Some r) c.read_subject.ensures.answer ∙ subject_some c.in-Some.first.number (as_line c.in-Some.first.line) c.in-Some.ensures.is)
