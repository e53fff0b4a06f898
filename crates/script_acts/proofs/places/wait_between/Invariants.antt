use Rattle.std.proofs.Common.{◌≤◌, map}
use Rattle.script_text.specs.Lines.{call_seen}
use Rattle.runs_spec.specs.Scripts.{segment}
use Rattle.runs_spec.specs.Orders.{NoneWaits}
use Rattle.script_acts.proofs.places.wait_between.Given as goal

abbrev pub invariant-loop-at : goal.invariant-loop-at
invariant-loop-at l =
    (l.fn.from ≤ l.at) × NoneWaits l.names l.child (segment l.pid l.fn.from l.at (map call_seen l.lines))
