use Rattle.std.specs.Prelude.{◌≡◌, ◌≢◌, ℕ, List, [], ◌∷◌, Option, Some, None, Result, Ok, Err, IsSome, codes}
use Rattle.outside.specs.Seen.{Seen}
use Rattle.script_spec.specs.declared.ScriptFault.{ScriptFault}
use Rattle.script_spec.specs.Grammar.{parse}
use Rattle.script_spec.specs.Lines.{ScriptLine}
use Rattle.script_text.specs.Scripts.{Fails}
use Rattle.record_spec.specs.declared.RunRecord.{RunRecord}
use Rattle.record_spec.specs.Show.{show}
use Rattle.replay_spec.specs.Plain.{IsPlain}
use Rattle.legal_spec.specs.Fits.{IsLegalFor}
use Rattle.smack_kernel.specs.Answers.{ClosedValue}
use Rattle.script_run.specs.declared.running.Ran.{Ran}
use Rattle.smack_program.specs.declared.status.Status.{Status}
use Rattle.smack_program.specs.declared.status.Status.TheVariants as Status
use Rattle.smack_program.specs.Scripts.{IsNoScript, ScriptEnds}

-- what is kept of a kernel, if something is, is the labels, the journal and the history of the record
abbrev pub IsKeptOf : RunRecord → Option ClosedValue → Type 0
IsKeptOf r None = Unit {0}
IsKeptOf r (Some closed) = (r.labels ≡ closed.labels) × (r.journal ≡ closed.journal) × (r.history ≡ closed.history)

-- The record is one of those that the script may have which these bytes are, when its tasks run at once. It is legal for
-- this script, and its text tells all of it.
pub record IsRun (kept : Option ClosedValue) (bytes : List ℕ) (r : RunRecord) : Type 0 where
  pub lines : List ScriptLine
  pub read : parse bytes ≡ Ok lines
  pub legal : IsLegalFor lines r
  pub plain : IsPlain r
  pub kept_of : IsKeptOf r kept

-- the record of these bytes and what is kept of its kernel, or why there is none
abbrev pub GivesRun : List ℕ → Result Ran ScriptFault → Type 0
GivesRun bytes (Ok ran) = IsRun (Some ran.closed) bytes ran.report
GivesRun bytes (Err e) = Fails e (parse bytes)

-- A script is answered by the text of a record that is legal for it. Other bytes are refused for their fault.
abbrev pub run_answers : Option ClosedValue → List ℕ → Result (List ℕ) Status → Type 0
run_answers kept bytes (Ok text) = (r : RunRecord) × IsRun kept bytes r × (text ≡ show r)
run_answers kept bytes (Err status) = IsNoScript bytes status

-- How a run ended, and what is then kept of its kernel.
pub record RunEnds (kept : Option ClosedValue) (source source' sink sink' : Seen) (status : Status) : Type 0 where
  pub ends : ScriptEnds (run_answers kept) source source' sink sink' status
  -- at Done the labels, the journal and the history of the record whose text was written are kept, and else nothing is
  pub done : status ≡ Status.Done → IsSome kept
  pub other : status ≢ Status.Done → kept ≡ None

-- the words are those of the command that runs
abbrev pub AreRun : List (List ℕ) → Type 0
AreRun words = words ≡ codes "run" ∷ []
