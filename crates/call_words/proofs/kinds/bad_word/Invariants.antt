use Rattle.std.proofs.Common.{◌≡◌, ◌≤◌, ◌+◌, length}
use Rattle.std.specs.Prelude.{map, All}
use Rattle.rule_text.specs.Parts.{FitsPlaces, placed}
use Rattle.verb_spec.specs.Kinds.{bad_word}
use Rattle.call_words.proofs.kinds.bad_word.Given as goal

abbrev pub invariant-loop-kinds : goal.invariant-loop-kinds
invariant-loop-kinds l = record {
  rest : bad_word l.k l.kinds (map placed l.words) ≡ bad_word 3 l.fn.kinds (map placed l.fn.words);
  fit : All FitsPlaces l.words;
  few : l.k + length l.kinds ≤ 6;
}

abbrev pub decreases-loop-kinds : goal.decreases-loop-kinds
decreases-loop-kinds l = length l.kinds
