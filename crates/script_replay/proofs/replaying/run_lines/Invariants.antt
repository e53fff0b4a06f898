use Rattle.std.proofs.Common.{◌≡◌, ◌≤◌, ◌+◌, length, reverse}
use Rattle.std.specs.Prelude.{map, fold}
use Rattle.script_text.specs.Lines.{call_seen}
use Rattle.script_spec.specs.Grammar.{most_lines}
use Rattle.replay_spec.specs.Replays.{run_of, after_line}
use Rattle.script_replay.specs.Running.{run_seen, IsRunning}
use Rattle.script_replay.proofs.replaying.run_lines.Given as goal

abbrev pub invariant-loop-line : goal.invariant-loop-line
invariant-loop-line l = record {
  run : fold (after_line l.labels l.names) (run_seen l.run) (map call_seen (reverse l.left.items)) ≡ run_of l.labels l.names (map call_seen l.fn.lines.items);
  running : IsRunning l.run;
  batches : length l.run.journal + length l.left.items ≤ most_lines;
  entries : length l.run.world.trail + length l.left.items ≤ most_lines;
}

abbrev pub decreases-loop-line : goal.decreases-loop-line
decreases-loop-line l = length l.left.items
