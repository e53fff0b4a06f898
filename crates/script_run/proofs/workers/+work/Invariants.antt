use Rattle.std.proofs.Common.{◌≡◌, ◌+◌, ◌-◌, ◌*◌, ◌≤◌, length, false}
use Rattle.runs_spec.specs.Scripts.{segment}
use Rattle.runs_spec.specs.Runs.{Ran}
use Rattle.runs_spec.specs.Orders.{IsOrderly}
use Rattle.script_run.specs.Stages.{stage_script}
use Rattle.script_run.proofs.workers.+work.Given as goal

abbrev pub decreases-halves-join+arg2 : goal.decreases-halves-join+arg2
decreases-halves-join+arg2 g l = 5 * (length (g.S.ScriptLines.told l.script.now) - l.span.from) + 1

abbrev pub decreases-halves-join+arg3 : goal.decreases-halves-join+arg3
decreases-halves-join+arg3 g l = 5 * (length (g.S.ScriptLines.told l.script.now) - l.span-from) + 1

abbrev pub decreases-halves : goal.decreases-halves
decreases-halves g l = 5 * (length (g.S.ScriptLines.told l.stage.script.now) - l.span.from) + 2

abbrev pub decreases-fork_line : goal.decreases-fork_line
decreases-fork_line g l = 5 * (length (g.S.ScriptLines.told l.stage.script.now) - l.span.from) + 3

abbrev pub decreases-go : goal.decreases-go
decreases-go g l = 5 * (length (g.S.ScriptLines.told l.stage.script.now) - l.span.from)

abbrev pub decreases-step : goal.decreases-step
decreases-step g l = 5 * (length (g.S.ScriptLines.told l.stage.script.now) - l.span.from) + 4

abbrev pub invariant-go-loop-line : goal.invariant-go-loop-line
invariant-go-loop-line g l = record {
  place : (l.fn.span.from ≤ l.at) × (l.at ≤ l.span.to);
  table : l.task.table ≡ l.stage.kernel.now.table;
  top : l.task.version ≤ length l.task.journal;
  ran : Ran false (stage_script g.S.ScriptLines.told l.stage) (segment l.span.pid l.fn.span.from l.span.to (g.S.ScriptLines.told l.stage.script.now))
      (segment l.span.pid l.at l.span.to (g.S.ScriptLines.told l.stage.script.now)) l.fn.task l.task l.fn.asked l.asked;
  orderly : IsOrderly (stage_script g.S.ScriptLines.told l.stage) (segment l.span.pid l.fn.span.from l.span.to (g.S.ScriptLines.told l.stage.script.now))
      → IsOrderly (stage_script g.S.ScriptLines.told l.stage) (segment l.span.pid l.at l.span.to (g.S.ScriptLines.told l.stage.script.now));
}

abbrev pub decreases-go-loop-line : goal.decreases-go-loop-line
decreases-go-loop-line g l = length (g.S.ScriptLines.told l.stage.script.now) - l.at
