use Rattle.std.specs.Prelude.{◌≡◌, ◌≤◌, ℕ, List, length}
use Rattle.script_spec.specs.Lines.{ScriptLine, table_of}
use Rattle.script_spec.specs.Tasks.{task_names}
use Rattle.script_spec.specs.Grammar.{most_lines, most_script_tasks}
use Rattle.rule_text.specs.declared.part.Part.{Part}
use Rattle.script_text.specs.TaskTables.{part_names}
use Rattle.script_text.specs.Scripts.{AreRead}

-- a script was read from bytes; it has the tasks and the label table of its calls, and no more tasks and calls than there may be
pub record IsScript (calls : List ScriptLine) (tasks : List Part) (labels : List (List ℕ)) : Type 0 where
  pub read : AreRead calls
  pub named : part_names tasks ≡ task_names calls
  pub labelled : labels ≡ table_of calls
  pub few : length calls ≤ most_lines
  pub few_tasks : length tasks ≤ most_script_tasks
