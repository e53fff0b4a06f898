use Rattle.std.proofs.Common.{◌≡◌, ◌++◌, map, drop}
use Rattle.script_text.specs.Lines.{call_seen}
use Rattle.script_run.specs.Waits.{waits_from}
use Rattle.script_run.proofs.waits.wait_places.Given as goal

abbrev pub invariant-loop-at : goal.invariant-loop-at
invariant-loop-at l =
    l.places.items ++ waits_from l.at (drop l.at (map call_seen l.lines)) ≡ waits_from 0 (map call_seen l.lines)
