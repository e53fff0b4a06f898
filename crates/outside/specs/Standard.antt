use Rattle.std.specs.Prelude.{ℕ, List, Option}
use Rattle.std.specs.Io.KnownBytes.{append_known}
use Rattle.outside.specs.Seen.{Seen}

-- a reader of std, and the count of its errors
pub record StdSourceState (R : Type 0) : Type 0 where
  pub inner : R
  pub faults : ℕ

-- a writer of std, the bytes kept back before it, and the count of its errors
pub record StdSinkState (W : Type 0) : Type 0 where
  pub inner : W
  pub kept : List ℕ
  pub faults : ℕ

-- a writer of std with nothing kept back before it, and the count of its errors
pub record DirectSinkState (W : Type 0) : Type 0 where
  pub inner : W
  pub faults : ℕ

-- What is seen of them: the bytes that the reader has left, by what its type tells; those that the writer holds, and
-- behind them those kept back; and the count of errors.
abbrev pub source_seen : {R : Type 0} → (R → Option (List ℕ)) → StdSourceState R → Seen
source_seen remaining source = record { bytes = remaining source.inner; faults = source.faults }

abbrev pub sink_seen : {W : Type 0} → (W → Option (List ℕ)) → StdSinkState W → Seen
sink_seen contents sink = record { bytes = append_known (contents sink.inner) sink.kept; faults = sink.faults }

abbrev pub direct_seen : {W : Type 0} → (W → Option (List ℕ)) → DirectSinkState W → Seen
direct_seen contents sink = record { bytes = contents sink.inner; faults = sink.faults }
