use Rattle.rule_text.proofs.WholeLines.{whole_of_lines}
use Rattle.rule_text.proofs.LineSlices.{no_feeds, lines_are, lines_adjoin}
use Rattle.rule_text.proofs.laws.lines_are_slices.Goals as goal

pub returns-clause-slices : goal.returns-clause-slices
returns-clause-slices c = lines_are

pub returns-clause-order : goal.returns-clause-order
returns-clause-order c = lines_adjoin

pub returns-clause-whole : goal.returns-clause-whole
returns-clause-whole c = whole_of_lines

pub returns-clause-feeds : goal.returns-clause-feeds
returns-clause-feeds c = no_feeds
