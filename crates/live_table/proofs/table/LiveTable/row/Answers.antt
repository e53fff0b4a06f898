use Rattle.std.proofs.Common.{arith, ap, sym, ◌∙◌, ◌<◌, subst}
use Rattle.live_table.specs.Batches.{rows_of}
use Rattle.live_table.specs.Seats.{SeatValue}
use Rattle.live_table.proofs.RowSteps.{reads}
use Rattle.live_table.proofs.table.LiveTable.row.Goals as goal

pub load-requires : goal.load-requires
load-requires g c =
    let seen = subst (λ (s : SeatValue _). c.args.at < rows_of s.view.journal) (sym c.seat.view_is) c.requires.seen in (
      ap (λ (s : SeatValue _). s.table) c.seat.view_is ∙ (c.requires.table ∙ sym c.self.view_is),
      (let room = c.seat.invariant.room in
          let is = c.seat.invariant.counted in let i = c.self.invariant in omega arith),
      reads _ _ _ _ c.args.at seen,
    )
