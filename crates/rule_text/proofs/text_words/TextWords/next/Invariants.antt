use Rattle.std.proofs.Common.{◌≡◌, ◌≤◌, length}
use Rattle.rule_text.specs.LeftWords.{left_words, left_bytes, IsShort}
use Rattle.rule_text.proofs.text_words.TextWords.next.Given as goal

abbrev pub invariant-loop-word : goal.invariant-loop-word
invariant-loop-word l = record {
  same : left_words l.left ≡ left_words l.self;
  short : IsShort l.left;
  less : left_bytes l.left ≤ left_bytes l.self;
}

abbrev pub decreases-loop-word : goal.decreases-loop-word
decreases-loop-word l = length l.left.after.bytes.now
