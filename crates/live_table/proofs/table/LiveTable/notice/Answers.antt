use Rattle.std.proofs.Common.{arith, ap, sym, ◌∙◌}
use Rattle.live_table.specs.Seats.{SeatValue}
use Rattle.live_table.proofs.NoticeSteps.{counts, notices}
use Rattle.live_table.proofs.table.LiveTable.notice.Goals as goal

pub load-requires : goal.load-requires
load-requires g c = (
  ap (λ (s : SeatValue _). s.table) c.seat.view_is ∙ (c.requires ∙ sym c.self.view_is),
  (let i = c.self.invariant in omega arith),
  counts _ _ _ _,
)

pub split_seat-note-requires : goal.split_seat-note-requires
split_seat-note-requires g c = (
  c.load.ensures.0 ∙ (ap (λ (s : SeatValue _). s.table) c.seat.view_is ∙ (c.requires ∙ sym c.self.view_is)),
  (let i = c.self.invariant in omega arith),
  notices _ _ _,
)
