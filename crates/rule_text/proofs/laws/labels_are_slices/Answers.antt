use Rattle.rule_text.proofs.LabelSlices.{labels_lie, only_lies}
use Rattle.rule_text.proofs.SubjectSlices.{subjects_lie}
use Rattle.rule_text.proofs.laws.labels_are_slices.Goals as goal

pub returns-clause-labels : goal.returns-clause-labels
returns-clause-labels c = labels_lie

pub returns-clause-only : goal.returns-clause-only
returns-clause-only c = only_lies

pub returns-clause-subjects : goal.returns-clause-subjects
returns-clause-subjects c = subjects_lie
