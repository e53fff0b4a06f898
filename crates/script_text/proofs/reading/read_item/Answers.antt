use Rattle.std.proofs.Common.{arith}
use Rattle.script_spec.specs.Grammar.{most_lines}
use Rattle.script_text.proofs.Adding.{few_calls, fails_by_limits, item_is_read}
use Rattle.script_text.proofs.reading.read_item.Goals as goal

pub spell-requires-clause-few : goal.spell-requires-clause-few
spell-requires-clause-few c =
    few_calls c.args.draft.now most_lines c.requires.draft (omega (arith, c.requires.calls, c.if-found-gt-MOST_LINES.false))

pub add_call-requires-clause-few : goal.add_call-requires-clause-few
add_call-requires-clause-few c =
    few_calls c.args.draft.now most_lines c.requires.draft (omega (arith, c.requires.calls, c.if-found-gt-MOST_LINES.false))

pub returns-in-Err-add_call-clause-err : goal.returns-in-Err-add_call-clause-err
returns-in-Err-add_call-clause-err c =
    fails_by_limits c.args.draft.now c.args.found c.in-Ok-spell.spelled.0 c.in-Ok-spell.spelled.1 c.in-Err-add_call.fault c.requires.draft
    c.if-found-gt-MOST_LINES.false c.in-Ok-spell.ensures.ok c.in-Err-add_call.ensures.err

pub returns-clause-ok : goal.returns-clause-ok
returns-clause-ok c =
    item_is_read c.args.draft.now c.add_call.new.draft c.args.found c.in-Ok-spell.spelled.0 c.in-Ok-spell.spelled.1 c.requires.draft
    c.if-found-gt-MOST_LINES.false c.in-Ok-spell.ensures.ok c.in_default-add_call.ensures.ok
