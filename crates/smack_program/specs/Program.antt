use Rattle.std.specs.Prelude.{◌≡◌, ◌↔◌, ◌⊎◌, ℕ, Bool, List, Option, None, Some, Result, Ok, Err, IsTrue, OnOk, OnErr}
use Rattle.outside.specs.Faults.{AreTold}
use Rattle.outside.specs.Seen.{Seen}
use Rattle.outside.specs.Sink.{Appends, AppendsFront}
use Rattle.outside.specs.declared.sink.SinkFault.TheVariants as SinkFault
use Rattle.smack_kernel.specs.Answers.{ClosedValue}
use Rattle.smack_program.specs.declared.running.Ending.{Ending}
use Rattle.smack_program.specs.declared.status.Status.{Status}
use Rattle.smack_program.specs.declared.status.Status.TheVariants as Status
use Rattle.smack_program.specs.Statuses.{code_of}
use Rattle.smack_program.specs.Errors.{error_text}
use Rattle.smack_program.specs.Replay.{AreReplay, ReplayEnds}
use Rattle.smack_program.specs.Run.{AreRun, RunEnds}

-- the words are those of a command
abbrev pub AreCommand : List (List ℕ) → Type 0
AreCommand words = AreReplay words ⊎ AreRun words

-- How a status was told: by the exit status, and on standard error, which may take memory: what is seen of it before and
-- after.
pub record IsTold (takes_memory : Bool) (errors errors' : Seen) (status : Status) (ending : Ending) : Type 0 where
  -- the line of the status was written on standard error, or after a fault a front of it
  pub told : OnOk ending.told (Appends errors.bytes errors'.bytes (error_text status))
  pub cut : OnErr ending.told (AppendsFront errors.bytes errors'.bytes (error_text status))
  -- that fault is told: it comes where the count of standard error rose, and only there
  pub fault : AreTold errors.faults errors'.faults (ending.told ≡ Err SinkFault.Failed)
  -- there was no memory for the line only where standard error takes memory
  pub memory : ending.told ≡ Err SinkFault.Memory → IsTrue takes_memory
  -- the exit status is that of the status
  pub code : ending.code ≡ code_of status

-- How the program ended with this status: by the words of the command line, what is seen of the source and of the sink
-- before and after; and what was kept of a run.
pub record ProgramEnds (words : List (List ℕ)) (kept : Option ClosedValue) (source source' sink sink' : Seen) (status : Status) : Type 0 where
  -- the command that replays ended as a replay does, and the one that runs as a run does
  pub replays : AreReplay words → ReplayEnds source source' sink sink' status
  pub runs : AreRun words → RunEnds kept source source' sink sink' status
  -- usage is the status of other words, and of those alone
  pub usage : (status ≡ Status.Usage) ↔ (AreCommand words → ⊥)
  -- nothing is then read or written
  pub unread : status ≡ Status.Usage → (source' ≡ source) × (sink' ≡ sink)

-- How the program ended before it began: its words could not be had, or there was no memory. Nothing was read or
-- written.
pub record HasNotBegun (words : Result (List (List ℕ)) Status) (kept : Option ClosedValue) (source source' sink sink' : Seen) (status : Status) : Type 0 where
  pub cause : (words ≡ Err status) ⊎ (status ≡ Status.OutOfMemory)
  pub unread : source' ≡ source
  pub unwritten : sink' ≡ sink
  pub nothing_kept : kept ≡ None

-- How the program ended over the words that the system gave: those of the command line, or the status of words that
-- cannot be had.
abbrev pub GivenEnds : Result (List (List ℕ)) Status → Option ClosedValue → Seen → Seen → Seen → Seen → Status → Type 0
GivenEnds given kept source source' sink sink' status =
    ((words : List (List ℕ)) × (given ≡ Ok words) × ProgramEnds words kept source source' sink sink' status)
    ⊎ HasNotBegun given kept source source' sink sink' status

-- The same over streams of std. After the program there is no output where there was no memory for what it keeps back;
-- nothing was then written.
abbrev pub StdEnds : Result (List (List ℕ)) Status → Option ClosedValue → Seen → Seen → Seen → Option Seen → Status → Type 0
StdEnds given kept source source' sink None status = HasNotBegun given kept source source' sink sink status
StdEnds given kept source source' sink (Some sink') status = GivenEnds given kept source source' sink sink' status
