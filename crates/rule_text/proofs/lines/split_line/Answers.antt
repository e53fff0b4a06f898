use Rattle.rule_text.proofs.FirstLine.{line_cut, line_whole}
use Rattle.rule_text.proofs.EmptyTests.{not_empty}
use Rattle.rule_text.proofs.lines.split_line.Goals as goal

pub returns-then-len-text-clause-lines : goal.returns-then-len-text-clause-lines
returns-then-len-text-clause-lines c =
    line_cut c.args.text.at c.line_len-len.result c.args.text.bytes.now c.line_len-len.ensures c.if-len-text.true _ _ _ _
    c.front.ensures.place c.front.ensures.bytes c.after.ensures.place c.after.ensures.bytes

pub returns-else-len-text-clause-lines : goal.returns-else-len-text-clause-lines
returns-else-len-text-clause-lines c =
    line_whole c.args.text.at c.line_len-len.result c.args.text.bytes.now c.line_len-len.ensures c.if-len-text.false
    (not_empty _ _ c.is_empty.ensures c.if-is_empty.false) _ _ c.after-else-len-text.ensures.bytes
