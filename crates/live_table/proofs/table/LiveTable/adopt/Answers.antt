use Rattle.std.proofs.Common.{arith, ap, sym, ◌∙◌, ◌∷◌, [], if◌then◌else◌}
use Rattle.live_table.specs.Seats.{SeatValue}
use Rattle.live_table.proofs.NoticeSteps.{joins, hears}
use Rattle.live_table.proofs.AfterSteps.{slots_none}
use Rattle.live_table.proofs.table.LiveTable.adopt.Goals as goal

pub join_seat-requires : goal.join_seat-requires
join_seat-requires g c =
    let s = c.seat.invariant in
    let n = c.ended.invariant in
    let penless = ap (λ (s : SeatValue _). s.view.pen) c.ended.view_is ∙ c.requires.rests.0 in
    let turnless = ap (λ (s : SeatValue _). s.view.turn) c.ended.view_is ∙ c.requires.rests.1 in (
      ap (λ (s : SeatValue _). s.table) c.seat.view_is ∙ (c.requires.table.0 ∙ sym c.self.view_is),
      ap (λ (s : SeatValue _). s.table) c.ended.view_is ∙ (c.requires.table.1 ∙ sym c.self.view_is),
      slots_none _ (n.held ∙ ap (λ b. if b then 0 ∷ [] else []) turnless),
      (let i = c.self.invariant in omega arith),
      joins _ _ _ _ _ s.settled n.settled penless turnless,
    )

pub load-word-requires : goal.load-word-requires
load-word-requires g c = (
  c.join_seat.ensures.0
      ∙ (ap (λ (s : SeatValue _). s.table) c.seat.view_is ∙ (c.requires.table.0 ∙ sym c.self.view_is)),
  (let i = c.self.invariant in omega arith),
  hears _ _ _ _ c.seat.inside.number _ (ap (λ x. x.0.numbers) c.join_seat.ensures.2 ∙ c.seat.invariant.numbered),
)
