use Rattle.smack_program.proofs.WordsLeft.{after_first, all_came}
use Rattle.smack_program.proofs.given.listed.Goals as goal

pub loop-word-init : goal.loop-word-init
loop-word-init c = rw c.new-listed.ensures (after_first c.args.words c.next-program.new.self c.next-program.result c.next-program.ensures.cases)

pub returns : goal.returns
returns c = all_came c.loop-word.words c.next.new.self c.loop-word.listed _ c.in_default.ensures.cases c.loop-word.invariant
