use Rattle.std.specs.Prelude.{◌≡◌, ℕ, ◌+◌, List, [], take, drop}
use Rattle.world_spec.specs.declared.Call.TheVariants as Call
use Rattle.world_spec.specs.declared.tasks.TaskCall.TheVariants as TaskCall
use Rattle.script_spec.specs.Lines.{ScriptLine, table_of}
use Rattle.script_spec.specs.Tasks.{task_names}
use Rattle.record_spec.specs.declared.AskedWhat.TheVariants as AskedWhat
use Rattle.legal_spec.specs.Calls.{Stands}
use Rattle.legal_spec.specs.Lines.{IsCallOfLine, IsAskedOfLine}
use Rattle.live_table.specs.Lists.{those_of}

-- a script: its lines, its label table, and the names of its tasks by pid
pub record Scripted : Type 0 where
  pub labels : List (List ℕ)
  pub names : List (List ℕ)
  pub lines : List ScriptLine

-- the script of some lines
abbrev pub scripted : List ScriptLine → Scripted
scripted lines = record { labels = table_of lines; names = task_names lines; lines = lines }

-- the lines of one script task, in order
abbrev pub lines_by : ℕ → List ScriptLine → List ScriptLine
lines_by = those_of (λ l. l.task)

-- its lines between two places
abbrev pub segment : ℕ → ℕ → ℕ → List ScriptLine → List ScriptLine
segment pid from to lines = lines_by pid (drop from (take to lines))

-- a line forks the script task of a pid
abbrev pub ForksTask : Scripted → ScriptLine → ℕ → Type 0
ForksTask s l pid = IsCallOfLine s.labels s.names l (Call.Task (TaskCall.Fork (record { 0 = pid })))

-- a line waits for it
abbrev pub WaitsFor : Scripted → ScriptLine → ℕ → Type 0
WaitsFor s l pid = IsAskedOfLine s.labels s.names l (AskedWhat.Wait (record { 0 = pid }))

-- no line of a task stands before the line that forks it
abbrev pub ForksFirst : Scripted → Type 0
ForksFirst s = (l : ScriptLine) → (n pid : ℕ) → Stands s.lines n l → ForksTask s l pid → lines_by pid (take (n + 1) s.lines) ≡ []
