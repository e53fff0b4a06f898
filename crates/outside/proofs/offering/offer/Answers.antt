use Rattle.std.proofs.Common.{◌∙◌}
use Rattle.outside.proofs.Appending.{offer_step}
use Rattle.outside.proofs.offering.offer.Goals as goal

pub loop-rest-preserved : goal.loop-rest-preserved
loop-rest-preserved g c = record {
  done = offer_step _ c.loop-rest.rest.now c.in_ok-n.n _ _ _ c.loop-rest.invariant.done c.in_ok-n.ensures.bytes;
  same = c.in_ok-n.ensures.told (λ e. cc) ∙ c.loop-rest.invariant.same;
}
