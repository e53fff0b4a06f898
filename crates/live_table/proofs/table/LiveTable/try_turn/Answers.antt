use Rattle.std.proofs.Common.{arith, ap, sym, ◌∙◌, ◌∷◌, [], Some, if◌then◌else◌}
use Rattle.atomic_table.specs.Table.{rest}
use Rattle.live_table.specs.Seats.{SeatValue}
use Rattle.live_table.proofs.TurnSteps.{takes_turn}
use Rattle.live_table.proofs.RowSteps.{sees}
use Rattle.live_table.proofs.AfterSteps.{slots_none}
use Rattle.live_table.proofs.table.LiveTable.try_turn.Goals as goal

pub compare_exchange-found-requires : goal.compare_exchange-found-requires
compare_exchange-found-requires g c =
    let s = c.seat.invariant in
    let turnless = ap (λ (s : SeatValue _). s.view.turn) c.seat.view_is ∙ c.requires.rests.1 in (
      ap (λ (s : SeatValue _). s.table) c.seat.view_is ∙ (c.requires.table ∙ sym c.self.view_is),
      (let i = c.self.invariant in omega arith),
      takes_turn _ _ _ _ c.seat.inside.number _ s.numbered
          (slots_none _ (s.held ∙ ap (λ b. if b then 0 ∷ [] else []) turnless)),
    )

pub exchange-value-requires : goal.exchange-value-requires
exchange-value-requires g c =
    let t = c.compare_exchange-found.ensures.2.0 c.if-found-ne0.false in
    let out = t.1.out in (
      c.compare_exchange-found.ensures.0
          ∙ (ap (λ (s : SeatValue _). s.table) c.seat.view_is ∙ (c.requires.table ∙ sym c.self.view_is)),
      (Some t.0, out ∙ ap (λ l. (0, Some t.0) ∷ rest l) (sym out)),
    )

pub load-word-requires : goal.load-word-requires
load-word-requires g c = (
  c.exchange-value.ensures.0
      ∙ (c.compare_exchange-found.ensures.0
      ∙ (ap (λ (s : SeatValue _). s.table) c.seat.view_is ∙ (c.requires.table ∙ sym c.self.view_is))),
  (let i = c.self.invariant in omega arith),
  sees _ _ _ _,
)
