use Rattle.std.proofs.Common.{◌<◌}
use Rattle.rule_text.proofs.EmptyTests.{not_empty, is_empty_from}
use Rattle.rule_text.proofs.FirstWord.{word_cut, no_word, word_long, falls}
use Rattle.text_spec.specs.Texts.{is_blank}
use Rattle.rule_text.proofs.words.split_label.Goals as goal

pub returns-then-is_empty-clause-words : goal.returns-then-is_empty-clause-words
returns-then-is_empty-clause-words c =
    no_word is_blank c.args.line.at c.blank_len.result c.args.line.bytes.now c.blank_len.ensures.place
    c.after-bare.result.bytes.now c.after-bare.ensures.bytes (is_empty_from _ _ c.is_empty.ensures c.if-is_empty.true)

pub returns-clause-words : goal.returns-clause-words
returns-clause-words c =
    word_cut is_blank c.args.line.at c.blank_len.result c.args.line.bytes.now c.blank_len.ensures.place
    c.after-bare.result.at c.after-bare.result.bytes.now c.after-bare.ensures.place c.after-bare.ensures.bytes
    (not_empty _ _ c.is_empty.ensures c.if-is_empty.false) c.judged_len-len.result.0 c.judged_len-len.ensures.place _ _ _ _
    c.front.ensures.place c.front.ensures.bytes c.after.ensures.place c.after.ensures.bytes

pub returns-clause-falls : goal.returns-clause-falls
returns-clause-falls c =
    let long : 0 < c.judged_len-len.result.0 =
    word_long is_blank c.args.line.bytes.now c.after-bare.result.bytes.now c.blank_len.result c.judged_len-len.result.0
    c.blank_len.ensures.place c.after-bare.ensures.bytes (not_empty _ _ c.is_empty.ensures c.if-is_empty.false) c.judged_len-len.ensures.place in
    falls c.args.line.bytes.now c.after-bare.result.bytes.now c.after.result.bytes.now c.blank_len.result c.judged_len-len.result.0
    c.after-bare.ensures.bytes c.after.ensures.bytes long c.judged_len-len.ensures.within
