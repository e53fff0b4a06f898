use Rattle.call_words.proofs.Numbers.{too_large}
use Rattle.call_words.proofs.words.value_of.Goals as goal

pub returns-in_default : goal.returns-in_default
returns-in_default c =
    too_large c.args.word.now c.loop-b.n c.loop-b.b-index c.loop-b.invariant c.loop-b-test.true c.saturating_sub.result
    4294967296 c.saturating_sub.ensures c.in_default.ensures
