use Rattle.std.proofs.Common.{◌≡◌, length}
use Rattle.std.specs.Prelude.{map}
use Rattle.rule_text.specs.Parts.{placed}
use Rattle.verb_spec.specs.Kinds.{lines_word}
use Rattle.call_words.proofs.kinds.lines_word.Given as goal

abbrev pub invariant-loop-kinds : goal.invariant-loop-kinds
invariant-loop-kinds l = lines_word l.kinds (map placed l.words) ≡ lines_word l.fn.kinds (map placed l.fn.words)

abbrev pub decreases-loop-kinds : goal.decreases-loop-kinds
decreases-loop-kinds l = length l.kinds
