use Rattle.std.proofs.Common.{◌≡◌, take}
use Rattle.record_spec.specs.Tasks.{run_tasks}
use Rattle.run_report.proofs.tasks.run_tasks.Given as goal

abbrev pub invariant-loop-entry : goal.invariant-loop-entry
invariant-loop-entry l = l.tasks.items ≡ run_tasks (take l.entry-index l.history)
