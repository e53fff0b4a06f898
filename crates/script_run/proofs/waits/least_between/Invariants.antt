use Rattle.std.proofs.Common.{◌≤◌, ◌<◌, take}
use Rattle.live_table.specs.Lists.{Has}
use Rattle.script_run.specs.Waits.{AreOutside}
use Rattle.script_run.proofs.waits.least_between.Given as goal

abbrev pub invariant-loop-place : goal.invariant-loop-place
invariant-loop-place l = record {
  low : l.from ≤ l.least;
  high : l.least ≤ l.to;
  found : l.least < l.to → Has l.least l.places;
  outside : AreOutside l.from l.least (take l.place-index l.places);
}
