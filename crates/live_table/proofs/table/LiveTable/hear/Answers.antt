use Rattle.std.proofs.Common.{arith, ap, sym, ◌∙◌}
use Rattle.live_table.specs.Seats.{SeatValue, NoticeValue}
use Rattle.live_table.proofs.NoticeSteps.{joins, hears}
use Rattle.live_table.proofs.AfterSteps.{slots_none}
use Rattle.live_table.proofs.table.LiveTable.hear.Goals as goal

pub join_seat-requires : goal.join_seat-requires
join_seat-requires g c = let s = c.seat.invariant in let n = c.note.invariant in (
  ap (λ (s : SeatValue _). s.table) c.seat.view_is ∙ (c.requires.table.0 ∙ sym c.self.view_is),
  ap (λ (s : NoticeValue _). s.table) c.note.view_is ∙ (c.requires.table.1 ∙ sym c.self.view_is),
  slots_none _ n.bare,
  (let i = c.self.invariant in omega arith),
  joins _ _ _ _ _ s.settled n.settled n.penless n.turnless,
)

pub load-word-requires : goal.load-word-requires
load-word-requires g c = (
  c.join_seat.ensures.0
      ∙ (ap (λ (s : SeatValue _). s.table) c.seat.view_is ∙ (c.requires.table.0 ∙ sym c.self.view_is)),
  (let i = c.self.invariant in omega arith),
  hears _ _ _ _ c.seat.inside.number _ (ap (λ x. x.0.numbers) c.join_seat.ensures.2 ∙ c.seat.invariant.numbered),
)
