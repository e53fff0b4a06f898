use Rattle.std.specs.Prelude.{ℕ, List}
use Rattle.script_spec.specs.Lines.{ScriptLine}
use Rattle.runs_spec.specs.Scripts.{Scripted}

-- the script that these labels, these names of tasks and these lines are
abbrev pub script_in : List (List ℕ) → List (List ℕ) → List ScriptLine → Scripted
script_in labels names lines = record { labels = labels; names = names; lines = lines }
