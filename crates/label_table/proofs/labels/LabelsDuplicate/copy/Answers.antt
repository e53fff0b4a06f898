use Rattle.std.proofs.Common.{◌∙◌}
use Rattle.std.specs.List.{each_same}
use Rattle.label_table.proofs.Places.{texts_of_copies}
use Rattle.label_table.proofs.labels.LabelsDuplicate.copy.Goals as goal

pub invariant_of-result : goal.invariant_of-result
invariant_of-result c =
    rw (texts_of_copies (λ t. t.items) _ (λ x y same. each_same x.items y.items same.0) c.self.inside.texts.keys c.in_ok-texts.texts.keys c.in_ok-texts.ensures.cases)
    c.self.invariant

pub returns : goal.returns
returns c = texts_of_copies (λ t. t.items) _ (λ x y same. each_same x.items y.items same.0) c.self.inside.texts.keys c.in_ok-texts.texts.keys c.in_ok-texts.ensures.cases ∙ c.self.view_is
