use Rattle.std.proofs.Common.{arith, ap, sym, ◌∙◌}
use Rattle.live_table.specs.Seats.{SeatValue}
use Rattle.live_table.proofs.RowSteps.{sees, takes_pen}
use Rattle.live_table.proofs.table.LiveTable.try_pen.Goals as goal

pub load-word-requires : goal.load-word-requires
load-word-requires g c = (
  ap (λ (s : SeatValue _). s.table) c.seat.view_is ∙ (c.requires ∙ sym c.self.view_is),
  (let i = c.self.invariant in omega arith),
  sees _ _ _ _,
)

pub compare_exchange-found-requires : goal.compare_exchange-found-requires
compare_exchange-found-requires g c = (
  c.load-word.ensures.0 ∙ (ap (λ (s : SeatValue _). s.table) c.seat.view_is ∙ (c.requires ∙ sym c.self.view_is)),
  (let i = c.self.invariant in omega arith),
  takes_pen _ _ _ _ c.load-word.result c.seat.inside.number _ (let odd = c.if-word-eq1.false in omega arith)
      (ap (λ v. v.numbers) c.load-word.ensures.2.0.same ∙ c.seat.invariant.numbered),
)
