use Rattle.std.specs.Prelude.{◌≡◌, ◌<◌, ◌≤◌, ◌⊎◌, ℕ, List, length, IfSome, IsSomeAnd}
use Rattle.outside.specs.Faults.{AreTold}
use Rattle.outside.specs.Seen.{Seen}
use Rattle.outside.specs.Source.{Takes, AtEnd}
use Rattle.outside.specs.Sink.{Appends, AppendsFront}
use Rattle.outside.specs.Reading.{taken_count}
use Rattle.script_spec.specs.declared.What.TheVariants as What
use Rattle.script_spec.specs.Grammar.{most_bytes}
use Rattle.smack_program.specs.declared.status.Status.{Status}
use Rattle.smack_program.specs.declared.status.Status.TheVariants as Status

-- the source was read to its end, and gave these bytes
pub record IsRead (source source' : Seen) (bytes : List ℕ) : Type 0 where
  pub took : Takes source.bytes source'.bytes bytes
  pub ends : AtEnd source'.bytes
  pub few : length bytes ≤ most_bytes
  pub no_more : IsSomeAnd (taken_count source.bytes source'.bytes) (λ n. most_bytes < n) → ⊥
  pub same : source'.faults ≡ source.faults

-- the source was not read to its end, for this reason
pub record IsUnread (source source' : Seen) (status : Status) : Type 0 where
  pub front : (bytes : List ℕ) × Takes source.bytes source'.bytes bytes
  pub reason : (status ≡ Status.ReadFault) ⊎ ((status ≡ Status.TooLarge What.Bytes) ⊎ (status ≡ Status.OutOfMemory))
  pub large : status ≡ Status.TooLarge What.Bytes → IfSome (taken_count source.bytes source'.bytes) (λ n. most_bytes < n)
  pub exceeded : IsSomeAnd (taken_count source.bytes source'.bytes) (λ n. most_bytes < n) → (status ≡ Status.TooLarge What.Bytes) ⊎ (status ≡ Status.OutOfMemory)
  pub read : AreTold source.faults source'.faults (status ≡ Status.ReadFault)

-- the sink took this text, and did not fail
pub record IsTextWritten (text : List ℕ) (sink sink' : Seen) : Type 0 where
  pub all : Appends sink.bytes sink'.bytes text
  pub same : sink'.faults ≡ sink.faults

-- the sink took a front of this text, and no more for this reason
pub record IsUnwritten (text : List ℕ) (sink sink' : Seen) (status : Status) : Type 0 where
  pub front : AppendsFront sink.bytes sink'.bytes text
  pub reason : (status ≡ Status.WriteFault) ⊎ (status ≡ Status.OutOfMemory)
  pub write : AreTold sink.faults sink'.faults (status ≡ Status.WriteFault)
