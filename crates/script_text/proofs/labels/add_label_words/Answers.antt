use Rattle.script_spec.specs.Grammar.{most_labels}
use Rattle.script_text.proofs.LabelWords.{first_many}
use Rattle.script_text.proofs.labels.add_label_words.Goals as goal

pub returns-in-Err-clause-many : goal.returns-in-Err-clause-many
returns-in-Err-clause-many c is =
    first_many c.loop-kinds.labels c.args.labels.now _ c.loop-kinds.kinds.now c.loop-kinds.words.now _ _ most_labels c.in-len1-up.len_at_least
    c.in-len1-up-words.len_at_least c.in-Label.is c.loop-kinds.invariant.adds (c.in-Err.ensures.many is)
