use Rattle.smack_program.proofs.OneWord.{one_of, decides_one}
use Rattle.smack_program.proofs.command.is_run.Goals as goal

pub returns-in-len1 : goal.returns-in-len1
returns-in-len1 c =
    rw (one_of c.args.words.now c.word-item.result c.in-len1.len_at_least c.in-len1.len_below c.word-item.is)
    (rw (← c.as_str.ensures.value) (decides_one _ _ _ c.eq.ensures))
