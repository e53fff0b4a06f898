use Rattle.std.specs.Prelude.{◌≡◌, ◌+◌, ℕ, Bool, ◌&&◌, ◌==◌, if◌then◌else◌, List, Ok, length, count_by, nat_le}
use Rattle.std.specs.List.{AllByRecursion}
use Rattle.script_spec.specs.Lines.{ScriptLine, table_of}
use Rattle.script_spec.specs.Tasks.{task_names}
use Rattle.script_spec.specs.Grammar.{parse}
use Rattle.world_spec.specs.declared.Entry.{Entry}
use Rattle.record_spec.specs.declared.RunRecord.{RunRecord}
use Rattle.log_spec.specs.declared.Action.{Action}
use Rattle.log_spec.specs.Audits.{IsAudited, audited}
use Rattle.verb_spec.specs.Verbs.{call_verb}
use Rattle.record_spec.specs.Show.{show}
use Rattle.replay_spec.specs.Replays.{replayed}
use Rattle.replay_spec.specs.Plain.{IsPlain}

-- a text tells its record: plain records with the same labels and names are equal where their texts are
abbrev pub TextTellsRecord : Type 0
TextTellsRecord = (r s : RunRecord) → IsPlain r → IsPlain s → r.labels ≡ s.labels → r.names ≡ s.names → show r ≡ show s → r ≡ s

-- what the system's log tells of each check of a call is what a line of it can tell
abbrev pub HasReadLog : List (List ℕ) → Entry → Type 0
HasReadLog labels e = (action : Action) → AllByRecursion (λ v. IsAudited (audited labels (call_verb e.call) v action)) e.checks

-- the lines of the system's log in a record can all be read back
abbrev pub LogIsRead : Type 0
LogIsRead = (r : RunRecord) → IsPlain r → AllByRecursion (HasReadLog r.labels) r.history

-- the record of a script that is replayed is plain
abbrev pub ReplayedIsPlain : Type 0
ReplayedIsPlain = (bytes : List ℕ) (lines : List ScriptLine) → parse bytes ≡ Ok lines → IsPlain (replayed lines)

-- so scripts with the same labels and tasks have the same record where the texts of their records are equal
abbrev pub ReplayedTextTells : Type 0
ReplayedTextTells =
    (bytes bytes' : List ℕ) (lines lines' : List ScriptLine) → parse bytes ≡ Ok lines → parse bytes' ≡ Ok lines'
    → table_of lines ≡ table_of lines' → task_names lines ≡ task_names lines' → show (replayed lines) ≡ show (replayed lines')
    → replayed lines ≡ replayed lines'

-- no line of a script vanishes: each is one batch, one object call, or one of the other lines of its record
abbrev pub EachLineIsRecorded : Type 0
EachLineIsRecorded =
    (bytes : List ℕ) (lines : List ScriptLine) → parse bytes ≡ Ok lines
    → length (replayed lines).journal + length (replayed lines).history + length (replayed lines).asked ≡ length lines

-- this is call SEQ of the task with number TASK
abbrev pub is_call : ℕ → ℕ → ℕ → ℕ → Bool
is_call task seq t s = (t == task) && (s == seq)

-- how many batches, object calls and other lines of a record are this call
abbrev pub calls_at : RunRecord → ℕ → ℕ → ℕ
calls_at r task seq =
    count_by (λ b. is_call task seq b.task b.seq) r.journal + count_by (λ e. is_call task seq e.task e.seq) r.history
    + count_by (λ a. is_call task seq a.task a.seq) r.asked

-- the lines of a task
abbrev pub lines_of_task : List ScriptLine → ℕ → ℕ
lines_of_task lines task = count_by (λ l. l.task == task) lines

-- The calls of each task in the record of a script are 1, 2, .. up to the number of its lines, each just once; the number
-- of a task is its pid.
abbrev pub EachCallIsOnce : Type 0
EachCallIsOnce =
    (bytes : List ℕ) (lines : List ScriptLine) → parse bytes ≡ Ok lines → (task seq : ℕ)
    → calls_at (replayed lines) task seq ≡ (if nat_le 1 seq && nat_le seq (lines_of_task lines task) then 1 else 0)
