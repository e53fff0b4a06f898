use Rattle.std.proofs.Common.{length}
use Rattle.text_spec.specs.RuleTexts.{all_good}
use Rattle.file_spec.specs.Writes.{writes_of_text}
use Rattle.smackfs.proofs.FirstBad.{EndsAs}
use Rattle.smackfs.proofs.text_writes.first_bad.Given as goal

abbrev pub invariant-loop-answer : goal.invariant-loop-answer
invariant-loop-answer l = EndsAs (all_good l.writes) (writes_of_text l.fn.file l.text)

abbrev pub decreases-loop-answer : goal.decreases-loop-answer
decreases-loop-answer l = length l.writes
