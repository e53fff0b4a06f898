use Rattle.std.proofs.Common.{◌≡◌, length}
use Rattle.std.specs.Prelude.{map}
use Rattle.rule_text.specs.Parts.{placed}
use Rattle.verb_spec.specs.Values.{values_behind}
use Rattle.call_words.proofs.ReadValues.{behind}
use Rattle.call_words.proofs.values.values_behind.Given as goal

abbrev pub invariant-loop-kinds : goal.invariant-loop-kinds
invariant-loop-kinds l =
    behind l.values.items (values_behind l.labels l.names l.kinds (map placed l.words))
    ≡ values_behind l.labels l.names l.fn.kinds (map placed l.fn.words)

abbrev pub decreases-loop-kinds : goal.decreases-loop-kinds
decreases-loop-kinds l = length l.kinds
