use Rattle.rule_text.proofs.WordSlices.{words_are, words_in_lines, words_apart}
use Rattle.rule_text.proofs.laws.words_are_slices.Goals as goal

pub returns-clause-slices : goal.returns-clause-slices
returns-clause-slices c = words_are

pub returns-clause-in_lines : goal.returns-clause-in_lines
returns-clause-in_lines c = words_in_lines

pub returns-clause-order : goal.returns-clause-order
returns-clause-order c = words_apart
