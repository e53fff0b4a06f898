use Rattle.std.proofs.Common.{sym, ◌∙◌}
use Rattle.script_text.proofs.ReadingOn.{item_fails, item_read}
use Rattle.script_text.proofs.reading.read_calls.Goals as goal

pub returns-in-Err-clause-err : goal.returns-in-Err-clause-err
returns-in-Err-clause-err c =
    item_fails c.loop-line.draft c.loop-line.place c.args.text c.in-Some.line c.in-Some.after c.in-Err.fault c.loop-line.invariant c.in-Some.ensures.lines
    c.in-Some.ensures.begins c.in-Some.ensures.ends (sym c.is_skipped.ensures ∙ c.if-is_skipped.false) c.in-Err.ensures.err

pub loop-line-preserved : goal.loop-line-preserved
loop-line-preserved c =
    item_read c.loop-line.draft c.read_item.new.draft c.loop-line.place c.in-Ok-read_item.next c.args.text c.in-Some.line c.in-Some.after
    c.loop-line.invariant c.in-Some.ensures.lines c.in-Some.ensures.begins c.in-Some.ensures.ends c.in-Some.ensures.falls (sym c.is_skipped.ensures ∙ c.if-is_skipped.false) c.in-Ok-read_item.ensures.ok
