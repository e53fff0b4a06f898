use Rattle.std.specs.Prelude.{◌≡◌, ◌<◌, ℕ, List, length}
use Rattle.smack_base.specs.declared.ids.Pid.{Pid}
use Rattle.rules_spec.specs.declared.Batch.{Batch}
use Rattle.script_spec.specs.Lines.{ScriptLine, table_of}
use Rattle.script_spec.specs.Tasks.{task_names}
use Rattle.world_spec.specs.declared.Entry.{Entry}
use Rattle.record_spec.specs.declared.AskedLine.{AskedLine}
use Rattle.record_spec.specs.declared.RunRecord.{RunRecord}
use Rattle.replay_spec.specs.Laws.{lines_of_task}
use Rattle.legal_spec.specs.Calls.{Stands, IsNumberOf, call_count}
use Rattle.legal_spec.specs.Legal.{IsLegal}
use Rattle.legal_spec.specs.Lines.{IsBatchOfLine, IsCallOfLine, IsAskedOfLine}

-- a line became one call of the task with this number: a batch, an object call, or an asked, refused or waited line
pub data IsRecorded (r : RunRecord) (number : ℕ) (l : ScriptLine) : Type 0 where
  batch : (i : ℕ) (b : Batch) → Stands r.journal i b → b.task ≡ number → b.seq ≡ l.seq → IsBatchOfLine r.labels l b.ops
      → IsRecorded r number l
  entry : (i : ℕ) (e : Entry) → Stands r.history i e → e.task ≡ number → e.seq ≡ l.seq
      → IsCallOfLine r.labels r.names l e.call → IsRecorded r number l
  asked : (i : ℕ) (a : AskedLine) → Stands r.asked i a → a.task ≡ number → a.seq ≡ l.seq
      → IsAskedOfLine r.labels r.names l a.what → IsRecorded r number l

-- A task of the script has one number in the record, and the calls of this number are its lines.
pub record HasItsLines (lines : List ScriptLine) (r : RunRecord) (pid : Pid) : Type 0 where
  pub number : ℕ
  pub is : IsNumberOf r.history number pid
  pub one : (k : ℕ) → IsNumberOf r.history k pid → k ≡ number
  -- its q-th line is call q of this number
  pub recorded : (i : ℕ) (l : ScriptLine) → Stands lines i l → l.task ≡ pid.0 → IsRecorded r number l
  -- and the number has no other calls
  pub many : call_count r number ≡ lines_of_task lines pid.0

-- The record has the labels and the tasks of the script, and each line of the script is one call.
pub record FitsScript (lines : List ScriptLine) (r : RunRecord) : Type 0 where
  pub labels : r.labels ≡ table_of lines
  pub names : r.names ≡ task_names lines
  pub tasks : (pid : Pid) → pid.0 < length r.names → HasItsLines lines r pid

-- a record is legal for a script
abbrev pub IsLegalFor : List ScriptLine → RunRecord → Type 0
IsLegalFor lines r = IsLegal r × FitsScript lines r
