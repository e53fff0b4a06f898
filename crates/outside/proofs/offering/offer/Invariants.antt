use Rattle.std.proofs.Common.{◌≡◌, ◌++◌, List, ℕ, length}
use Rattle.outside.specs.Sink.{Appends}
use Rattle.outside.proofs.offering.offer.Given as goal

abbrev pub invariant-loop-rest : goal.invariant-loop-rest
invariant-loop-rest g l = record {
  done : (front : List ℕ) × (l.piece ≡ front ++ l.rest) × Appends (g.K.Sink.taken l.fn.sink) (g.K.Sink.taken l.sink) front;
  same : g.K.Sink.faults l.sink ≡ g.K.Sink.faults l.fn.sink;
}

abbrev pub decreases-loop-rest : goal.decreases-loop-rest
decreases-loop-rest g l = length l.rest
