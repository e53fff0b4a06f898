use Rattle.std.specs.Prelude.{◌≡◌, ◌≢◌, ◌<◌, ◌⊎◌, ℕ, List, Some, Result, Ok, Err, IsTrue, IsFalse, IfSome, IsSomeAnd}
use Rattle.outside.specs.Faults.{Rose, AreTold}
use Rattle.outside.specs.Seen.{Seen}
use Rattle.outside.specs.Source.{Takes, AtEnd}
use Rattle.outside.specs.Sink.{Appends, AppendsFront}
use Rattle.outside.specs.Reading.{taken_count}
use Rattle.script_spec.specs.declared.What.TheVariants as What
use Rattle.smack_program.specs.declared.status.Status.{Status}
use Rattle.smack_program.specs.declared.status.Status.TheVariants as Status
use Rattle.smack_program.specs.Statuses.{is_refusal, may_have_written}

-- A command answers the bytes that it reads: `answers bytes (Ok text)` says that this text is an answer to them, and
-- `answers bytes (Err status)` that they are refused with this status.

-- these bytes were taken from the source, up to its end
abbrev pub WasRead : Seen → Seen → List ℕ → Type 0
WasRead source source' bytes = Takes source.bytes source'.bytes bytes × AtEnd source'.bytes

-- the source was read to its end, and a text that answers the bytes read was written
abbrev pub IsAnswered : (List ℕ → Result (List ℕ) Status → Type 0) → Seen → Seen → Seen → Seen → Type 0
IsAnswered answers source source' sink sink' = (bytes text : List ℕ) × WasRead source source' bytes × answers bytes (Ok text)
    × Appends sink.bytes sink'.bytes text

-- the same, with a front of the text written
abbrev pub IsCutShort : (List ℕ → Result (List ℕ) Status → Type 0) → Seen → Seen → Seen → Seen → Type 0
IsCutShort answers source source' sink sink' = (bytes text : List ℕ) × WasRead source source' bytes × answers bytes (Ok text)
    × AppendsFront sink.bytes sink'.bytes text

-- the source was read to its end, and the bytes read are refused with this status
abbrev pub IsInputRefused : (List ℕ → Result (List ℕ) Status → Type 0) → Seen → Seen → Status → Type 0
IsInputRefused answers source source' status = (bytes : List ℕ) × WasRead source source' bytes × answers bytes (Err status)

-- these bytes stood in the source, and neither the source nor the sink failed
pub record IsCalm (bytes : List ℕ) (source source' sink sink' : Seen) : Type 0 where
  pub told : source.bytes ≡ Some bytes
  pub read : Rose source.faults source'.faults → ⊥
  pub written : Rose sink.faults sink'.faults → ⊥

-- How a command ended that reads its input, of at most so many bytes, and writes an answer to it: what is seen of the
-- source before and after, the same of the sink, and the status. To bytes a status is due, unless something fails.
pub record CommandEnds (answers : List ℕ → Result (List ℕ) Status → Type 0) (due : List ℕ → Status) (most : ℕ)
    (source source' sink sink' : Seen) (status : Status) : Type 0 where
  -- what was taken from the source is a front of what it had
  pub front : (bytes : List ℕ) × Takes source.bytes source'.bytes bytes
  -- the source was read to its end, and an answer to the bytes read was written
  pub done : status ≡ Status.Done → IsAnswered answers source source' sink sink'
  -- the source was read to its end, and the bytes read are refused with this status
  pub refused : IsTrue (is_refusal status) → IsInputRefused answers source source' status
  -- too many bytes come exactly where more were taken than may be
  pub large : status ≡ Status.TooLarge What.Bytes → IfSome (taken_count source.bytes source'.bytes) (λ n. most < n)
  pub exceeded : IsSomeAnd (taken_count source.bytes source'.bytes) (λ n. most < n) → (status ≡ Status.TooLarge What.Bytes) ⊎ (status ≡ Status.OutOfMemory)
  -- a fault of reading is told, and so is a fault of writing: each comes where its count rose, and only there
  pub read : AreTold source.faults source'.faults (status ≡ Status.ReadFault)
  pub write : AreTold sink.faults sink'.faults (status ≡ Status.WriteFault)
  -- where the status is none at which something may have been written, the sink is as it was
  pub untouched : IsFalse (may_have_written status) → sink' ≡ sink
  -- what a fault of writing leaves is a front of an answer
  pub cut : status ≡ Status.WriteFault → IsCutShort answers source source' sink sink'
  -- want of memory leaves nothing written, or a front of an answer
  pub spent : status ≡ Status.OutOfMemory → (sink'.bytes ≡ sink.bytes) ⊎ IsCutShort answers source source' sink sink'
  -- where nothing failed, the status is the one that is due to the bytes, but for want of memory
  pub complete : (bytes : List ℕ) → IsCalm bytes source source' sink sink' → (status ≡ due bytes) ⊎ (status ≡ Status.OutOfMemory)
  -- the words of the command line are those of a command
  pub words : status ≢ Status.Usage
