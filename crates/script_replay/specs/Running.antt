use Rattle.std.specs.Prelude.{◌≡◌, ◌≤◌, ◌+◌, length}
use Rattle.rule_fold.specs.Index.{StandsFor}
use Rattle.replay_spec.specs.Replays.{Run}
use Rattle.script_replay.specs.declared.runner.Runner.{Runner}

-- what a runner leaves
abbrev pub run_seen : Runner → Run
run_seen r = record { journal = r.journal; world = r.world.world; history = r.world.trail; asked = r.asked }

-- its index stands for its journal
abbrev pub IsRunning : Runner → Type 0
IsRunning r = StandsFor r.rules r.journal

-- a call has run: it left this, and at most one batch or one entry more
pub record Runs (old new : Runner) (run : Run) : Type 0 where
  pub left : run_seen new ≡ run
  pub running : IsRunning new
  pub batches : length new.journal ≤ length old.journal + 1
  pub entries : length new.world.trail ≤ length old.world.trail + 1
