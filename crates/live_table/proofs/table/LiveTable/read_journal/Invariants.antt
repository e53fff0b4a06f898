use Rattle.std.proofs.Common.{◌≡◌, ◌-◌, List}
use Rattle.rules_spec.specs.declared.Batch.{Batch}
use Rattle.live_table.specs.Batches.{rows_of, Cut}
use Rattle.live_table.specs.Seats.{with_loads}
use Rattle.live_table.proofs.table.LiveTable.read_journal.Given as goal

abbrev pub invariant-loop-journal : goal.invariant-loop-journal
invariant-loop-journal g l = (l.seat ≡ with_loads l.seat.view.loads l.initial.seat) × (rest : List Batch)
    × Cut l.initial.seat.view.journal l.journal rest l.at

abbrev pub decreases-loop-journal : goal.decreases-loop-journal
decreases-loop-journal g l = rows_of l.initial.seat.view.journal - l.at
