use Rattle.std.proofs.Common.{◌≡◌, ◌≤◌, ◌+◌, ◌-◌}
use Rattle.live_table.specs.Batches.{rows_of}
use Rattle.live_table.specs.Seats.{with_loads}
use Rattle.smack_kernel.specs.Indexes.{StandsAt}
use Rattle.smack_kernel.proofs.index.read_up.Given as goal

abbrev pub invariant-loop-batch : goal.invariant-loop-batch
invariant-loop-batch g l = (l.seat ≡ with_loads l.seat.view.loads l.initial.seat) × StandsAt l.index.rules l.index.rows l.initial.seat.view.journal
    × (l.initial.index.rules.version ≤ l.index.rules.version)
    × (l.seat.view.loads + l.initial.index.rows ≤ l.initial.seat.view.loads + l.index.rows)

abbrev pub decreases-loop-batch : goal.decreases-loop-batch
decreases-loop-batch g l = rows_of l.initial.seat.view.journal - l.index.rows
