use Rattle.std.proofs.Common.{◌≡◌}
use Rattle.live_table.specs.Seats.{with_misses}
use Rattle.live_table.proofs.table.LiveTable.take_turn.Given as goal

abbrev pub invariant-loop : goal.invariant-loop
invariant-loop g l = l.seat ≡ with_misses l.seat.view.misses l.initial.seat
