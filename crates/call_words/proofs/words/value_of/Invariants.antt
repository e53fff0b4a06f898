use Rattle.std.proofs.Common.{◌≡◌, drop}
use Rattle.verb_spec.specs.Words.{value_from}
use Rattle.call_words.proofs.words.value_of.Given as goal

abbrev pub invariant-loop-b : goal.invariant-loop-b
invariant-loop-b l = value_from l.n (drop l.b-index l.word) ≡ value_from 0 l.word
