use Rattle.std.proofs.Common.{sym, ap, ◌∙◌}
use Rattle.std.proofs.lemmas.List.{take_rest}
use Rattle.text_spec.specs.Texts.{is_blank, begins_word}
use Rattle.rule_text.proofs.JudgedWords.{run_is_word}
use Rattle.rule_text.proofs.words.judged_len.Goals as goal

pub returns-clause-place : goal.returns-clause-place
returns-clause-place c =
    run_is_word c.args.bytes.now c.label_len-len.result c.label_len-len.ensures.place
    (sym c.if-begins_bare.false ∙ c.begins_bare.ensures ∙ ap (begins_word is_blank) (take_rest c.args.bytes.now c.label_len-len.result))
