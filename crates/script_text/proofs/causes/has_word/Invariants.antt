use Rattle.std.proofs.Common.{◌≡◌, length}
use Rattle.std.specs.Prelude.{map}
use Rattle.rule_text.specs.Parts.{placed}
use Rattle.verb_spec.specs.Kinds.{has_word}
use Rattle.script_text.specs.Causes.{test_seen}
use Rattle.script_text.proofs.causes.has_word.Given as goal

abbrev pub invariant-loop-kinds : goal.invariant-loop-kinds
invariant-loop-kinds l =
    has_word (test_seen l.test) l.kinds (map placed l.words) ≡ has_word (test_seen l.test) l.fn.kinds (map placed l.fn.words)

abbrev pub decreases-loop-kinds : goal.decreases-loop-kinds
decreases-loop-kinds l = length l.kinds
