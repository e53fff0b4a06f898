use Rattle.std.proofs.Common.{◌≡◌, ◌++◌, length}
use Rattle.std.specs.Prelude.{map, All}
use Rattle.text_spec.specs.Texts.{is_space}
use Rattle.rule_text.specs.Parts.{FitsPlaces, placed, part_words, end_of}
use Rattle.script_text.proofs.words.put_words.Given as goal

abbrev pub invariant-loop-word : goal.invariant-loop-word
invariant-loop-word l = record {
  read : map placed l.words.items ++ part_words is_space l.rest ≡ part_words is_space l.line;
  fit : All FitsPlaces l.words.items;
  ends : end_of l.rest ≡ end_of l.line;
}

abbrev pub decreases-loop-word : goal.decreases-loop-word
decreases-loop-word l = length l.rest.bytes.now
