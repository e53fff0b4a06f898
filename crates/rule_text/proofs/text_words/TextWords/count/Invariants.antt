use Rattle.std.proofs.Common.{◌≡◌, ◌≤◌, ◌+◌, length}
use Rattle.rule_text.specs.LeftWords.{left_words, left_bytes, IsShort}
use Rattle.rule_text.proofs.text_words.TextWords.count.Given as goal

abbrev pub invariant-loop-next : goal.invariant-loop-next
invariant-loop-next l = record {
  counted : l.count + length (left_words l.left) ≡ length (left_words l.self);
  short : IsShort l.left;
  fewer : l.count + left_bytes l.left ≤ left_bytes l.self;
}

abbrev pub decreases-loop-next : goal.decreases-loop-next
decreases-loop-next l = left_bytes l.left
