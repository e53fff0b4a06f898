use Rattle.std.proofs.Common.{arith, ap, sym, ◌∙◌}
use Rattle.live_table.specs.Seats.{SeatValue}
use Rattle.live_table.proofs.RowSteps.{sees}
use Rattle.live_table.proofs.table.LiveTable.see.Goals as goal

pub load-word-requires : goal.load-word-requires
load-word-requires g c = (
  ap (λ (s : SeatValue _). s.table) c.seat.view_is ∙ (c.requires ∙ sym c.self.view_is),
  (let i = c.self.invariant in omega arith),
  sees _ _ _ _,
)
