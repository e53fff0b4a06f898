use Rattle.text_spec.specs.Texts.{lines_from}
use Rattle.rule_text.proofs.RuleSlices.{fields_lie}
use Rattle.rule_text.proofs.laws.rule_fields_are_slices.Goals as goal

pub returns : goal.returns
returns c = λ form text. fields_lie form 1 (lines_from 0 text)
