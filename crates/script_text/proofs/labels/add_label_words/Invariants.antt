use Rattle.std.proofs.Common.{◌≤◌, length}
use Rattle.std.specs.Prelude.{map}
use Rattle.rule_text.specs.Parts.{placed}
use Rattle.verb_spec.specs.Kinds.{label_words}
use Rattle.script_spec.specs.Grammar.{most_labels}
use Rattle.script_text.proofs.LabelWords.{AddsLabels}
use Rattle.script_text.proofs.labels.add_label_words.Given as goal

abbrev pub invariant-loop-kinds : goal.invariant-loop-kinds
invariant-loop-kinds l = record {
  adds : AddsLabels l.labels (label_words l.kinds (map placed l.words)) l.fn.labels (label_words l.fn.kinds (map placed l.fn.words));
  limit : length l.labels ≤ most_labels;
}

abbrev pub decreases-loop-kinds : goal.decreases-loop-kinds
decreases-loop-kinds l = length l.kinds
