use Rattle.std.proofs.Common.{arith, ap, sym, ◌∙◌, ◌<◌, ◌+◌, length, subst}
use Rattle.live_table.specs.Batches.{rows_of}
use Rattle.live_table.specs.Core.{row_count}
use Rattle.live_table.specs.Seats.{SeatValue}
use Rattle.live_table.proofs.RowSteps.{fills}
use Rattle.live_table.proofs.table.LiveTable.fill.Goals as goal

pub store-requires : goal.store-requires
store-requires g c =
    let a = c.seat.invariant.counted in
    let b = c.seat.invariant.filled_is in
    let pen = ap (λ (s : SeatValue _). s.view.pen) c.seat.view_is ∙ c.requires.pen in
    let room = subst (λ (s : SeatValue _). rows_of s.view.journal + length s.view.filled < row_count)
    (sym c.seat.view_is) c.requires.room in (
      ap (λ (s : SeatValue _). s.table) c.seat.view_is ∙ (c.requires.table ∙ sym c.self.view_is),
      (let i = c.self.invariant in omega arith),
      fills _ _ _ _ _ c.args.word pen (omega arith) room,
    )
