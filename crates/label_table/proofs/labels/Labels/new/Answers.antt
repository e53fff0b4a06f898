use Rattle.std.proofs.Common.{ap, arith}
use Rattle.std.specs.Prelude.{map}
use Rattle.label_table.proofs.LabelTables.{five_put, predefined_is}
use Rattle.label_table.proofs.labels.Labels.new.Goals as goal

pub invariant_of-result : goal.invariant_of-result
invariant_of-result c =
    let is = five_put _ _ _ _ _ (map (λ t. t.items) c.put-5.new.texts.keys) (ap (map (λ t. t.items)) c.new-texts.ensures.empty)
    c.in_ok-put.ensures.ok c.in_ok-put-2.ensures.ok c.in_ok-put-3.ensures.ok c.in_ok-put-4.ensures.ok c.in_ok-put-5.ensures.ok in
    rw is (omega arith, predefined_is)
