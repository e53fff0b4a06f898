use Rattle.std.proofs.Common.{◌≡◌, ◌+◌, ◌≤◌, length}
use Rattle.text_spec.specs.Texts.{is_blank}
use Rattle.rule_text.specs.Parts.{end_of, part_words}
use Rattle.rule_text.proofs.words.word_count.Given as goal

abbrev pub invariant-loop-after : goal.invariant-loop-after
invariant-loop-after l = record {
  counted : l.count + length (part_words is_blank l.rest) ≡ length (part_words is_blank l.line);
  fewer : l.count + length l.rest.bytes.now ≤ length l.line.bytes.now;
  ends : end_of l.rest ≡ end_of l.line;
}

abbrev pub decreases-loop-after : goal.decreases-loop-after
decreases-loop-after l = length l.rest.bytes.now
