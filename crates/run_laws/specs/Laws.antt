use Rattle.std.specs.Prelude.{◌≡◌, ℕ, List, [], Bool, false, Ok, fold}
use Rattle.atomic_table.specs.Seated.{TableId}
use Rattle.script_spec.specs.Lines.{ScriptLine}
use Rattle.script_spec.specs.Grammar.{parse}
use Rattle.script_spec.specs.Lines.{table_of}
use Rattle.script_spec.specs.Tasks.{task_names}
use Rattle.record_spec.specs.declared.AskedLine.{AskedLine}
use Rattle.record_spec.specs.declared.RunRecord.{RunRecord}
use Rattle.replay_spec.specs.Replays.{with_asked}
use Rattle.replay_spec.specs.Plain.{IsPlain}
use Rattle.legal_spec.specs.Legal.{IsLegal}
use Rattle.legal_spec.specs.Fits.{IsLegalFor}
use Rattle.smack_kernel.specs.Tasks.{TaskValue, booted_task}
use Rattle.smack_kernel.specs.Answers.{IsWholeTask, ClosedValue, Closes}
use Rattle.runs_spec.specs.Scripts.{scripted, lines_by}
use Rattle.runs_spec.specs.Runs.{Ran}
use Rattle.runs_spec.specs.Stops.{IsOutOfEntries, IsOutOfCalls, HasForkedNone}
use Rattle.runs_spec.specs.Orders.{AreAllOrderly}

-- the first task of a kernel ran the first task of a script, to its end or, where it stopped, less far, and asked these
abbrev pub FirstRan : Bool → List ScriptLine → TableId → TaskValue → List AskedLine → Type 0
FirstRan stop lines table w asked = Ran stop (scripted lines) (lines_by 0 lines) [] (booted_task table) w [] asked

-- however far it came, it may close the kernel
abbrev pub RunsAreWhole : Type 0
RunsAreWhole =
    (bytes : List ℕ) (lines : List ScriptLine) → parse bytes ≡ Ok lines → (stop : Bool) (table : TableId) (w : TaskValue)
    (asked : List AskedLine) → FirstRan stop lines table w asked → IsWholeTask w

-- the record of a script's tasks at a kernel: what the closed kernel hands out, and the asked lines by rising task
abbrev pub run_record : List ScriptLine → ClosedValue → List AskedLine → RunRecord
run_record lines closed asked = record {
  labels = table_of lines;
  names = task_names lines;
  journal = closed.journal;
  history = closed.history;
  asked = fold with_asked [] asked;
}

-- it is one history of one world, under one journal of rules, in whatever order the tasks ran
abbrev pub RunsAreLegal : Type 0
RunsAreLegal =
    (bytes : List ℕ) (lines : List ScriptLine) → parse bytes ≡ Ok lines → (table : TableId) (w : TaskValue) (asked : List AskedLine)
    → FirstRan false lines table w asked → (closed : ClosedValue) → Closes (table_of lines) w closed
    → IsLegal (run_record lines closed asked)

-- and it is legal for the script
abbrev pub RunsAreLegalForScripts : Type 0
RunsAreLegalForScripts =
    (bytes : List ℕ) (lines : List ScriptLine) → parse bytes ≡ Ok lines → (table : TableId) (w : TaskValue) (asked : List AskedLine)
    → FirstRan false lines table w asked → (closed : ClosedValue)
    → Closes (table_of lines) w closed → IsLegalFor lines (run_record lines closed asked)

-- and it is plain
abbrev pub RunsArePlain : Type 0
RunsArePlain =
    (bytes : List ℕ) (lines : List ScriptLine) → parse bytes ≡ Ok lines → (table : TableId) (w : TaskValue) (asked : List AskedLine)
    → FirstRan false lines table w asked → (closed : ClosedValue) → Closes (table_of lines) w closed
    → IsPlain (run_record lines closed asked)

-- However far they came, the history and the counts of calls had room for the call of each line, and each fork made a
-- task.
abbrev pub RunsHaveRoom : Type 0
RunsHaveRoom =
    (bytes : List ℕ) (lines : List ScriptLine) → parse bytes ≡ Ok lines → (stop : Bool) (table : TableId) (w : TaskValue)
    (asked : List AskedLine) → FirstRan stop lines table w asked → (closed : ClosedValue) → Closes (table_of lines) w closed
    → (IsOutOfEntries (scripted lines) (lines_by 0 lines) (booted_task table) w → ⊥) × (IsOutOfCalls (scripted lines) w → ⊥)
    × (HasForkedNone w → ⊥)

-- the words of each line of a script are known, and each wait is for the latest child of its task that is open
abbrev pub ScriptsAreOrderly : Type 0
ScriptsAreOrderly = (bytes : List ℕ) (lines : List ScriptLine) → parse bytes ≡ Ok lines → AreAllOrderly (scripted lines)
