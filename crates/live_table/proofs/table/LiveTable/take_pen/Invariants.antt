use Rattle.std.proofs.Common.{◌≡◌, ◌≤◌}
use Rattle.live_table.specs.Seats.{Sees}
use Rattle.live_table.proofs.table.LiveTable.take_pen.Given as goal

abbrev pub invariant-loop : goal.invariant-loop
invariant-loop g l = (l.seat.table ≡ l.initial.seat.table) × (l.seat.number ≡ l.initial.seat.number)
    × Sees l.initial.seat.view l.seat.view × (l.seat.view.loads ≡ l.initial.seat.view.loads)
    × (l.initial.seat.view.looks ≤ l.seat.view.looks)
