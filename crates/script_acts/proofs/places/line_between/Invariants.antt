use Rattle.std.proofs.Common.{◌≡◌, map}
use Rattle.script_text.specs.Lines.{call_seen}
use Rattle.runs_spec.specs.Scripts.{segment}
use Rattle.script_acts.proofs.places.line_between.Given as goal

abbrev pub invariant-loop-at : goal.invariant-loop-at
invariant-loop-at l =
    segment l.pid l.fn.from l.to (map call_seen l.lines) ≡ segment l.pid l.at l.to (map call_seen l.lines)
