use Rattle.std.specs.Prelude.{List, false}
use Rattle.atomic_table.specs.Seated.{TableId}
use Rattle.script_spec.specs.Lines.{ScriptLine, table_of}
use Rattle.script_text.specs.Scripts.{AreRead}
use Rattle.record_spec.specs.declared.AskedLine.{AskedLine}
use Rattle.smack_kernel.specs.Tasks.{TaskValue}
use Rattle.smack_kernel.specs.Answers.{ClosedValue, Closes}
use Rattle.run_laws.specs.Laws.{FirstRan}

-- the lines are those of a script, and its tasks ran at a kernel, from its first task on and to their ends, and its first task closed it
pub record HasRun (lines : List ScriptLine) (closed : ClosedValue) (asked : List AskedLine) : Type 0 where
  pub read : AreRead lines
  pub table : TableId
  pub task : TaskValue
  pub ran : FirstRan false lines table task asked
  pub closes : Closes (table_of lines) task closed
