use Rattle.std.proofs.Common.{arith, ap, sym, subst, ◌∙◌}
use Rattle.live_table.specs.Seats.{SeatValue, AreWhole}
use Rattle.live_table.proofs.RowSteps.{publishes}
use Rattle.live_table.proofs.AfterSteps.{publishes_seat}
use Rattle.live_table.proofs.table.LiveTable.publish.Goals as goal

pub store-requires : goal.store-requires
store-requires g c =
    let a = c.seat.invariant.counted in
    let b = c.seat.invariant.filled_is in
    let pen = ap (λ (s : SeatValue _). s.view.pen) c.seat.view_is ∙ c.requires.pen in
    let w = subst (λ (s : SeatValue _). AreWhole s.view.filled s.number) (sym c.seat.view_is) c.requires.whole in (
      ap (λ (s : SeatValue _). s.table) c.seat.view_is ∙ (c.requires.table ∙ sym c.self.view_is),
      (let i = c.self.invariant in omega arith),
      publishes _ g.M.Machine.lawful.longer _ _ _ _ c.seat.inside.number _ w.batches pen c.seat.invariant.numbered c.seat.invariant.settled w.words w.own w.packed
          (omega arith),
    )

pub invariant_of-seat : goal.invariant_of-seat
invariant_of-seat g c =
    let w = subst (λ (s : SeatValue _). AreWhole s.view.filled s.number) (sym c.seat.view_is) c.requires.whole in
    publishes_seat _ _ _ _ _ c.seat.invariant w c.store.ensures.2.0 (c.store.ensures.2.1 w.batches w.words w.packed)
