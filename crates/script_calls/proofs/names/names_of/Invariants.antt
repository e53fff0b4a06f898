use Rattle.std.proofs.Common.{◌≡◌, take}
use Rattle.script_text.specs.TaskTables.{part_names}
use Rattle.script_calls.proofs.names.names_of.Given as goal

abbrev pub invariant-loop-task : goal.invariant-loop-task
invariant-loop-task l = l.names ≡ part_names (take l.task-index l.tasks)
