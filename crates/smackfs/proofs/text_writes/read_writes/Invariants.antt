use Rattle.std.proofs.Common.{◌≡◌, All, length, map}
use Rattle.text_spec.specs.RuleTexts.{all_good}
use Rattle.file_spec.specs.Writes.{writes_of_text}
use Rattle.smackfs.specs.Named.{named_write, HasGoodNames}
use Rattle.smackfs.proofs.ReadWrites.{put_front}
use Rattle.smackfs.proofs.text_writes.read_writes.Given as goal

abbrev pub invariant-loop-answer : goal.invariant-loop-answer
invariant-loop-answer l = record {
  same : put_front (map named_write l.ops) (all_good l.writes) ≡ writes_of_text l.fn.file l.text;
  good : All (λ op. HasGoodNames (named_write op)) l.ops;
}

abbrev pub decreases-loop-answer : goal.decreases-loop-answer
decreases-loop-answer l = length l.writes
