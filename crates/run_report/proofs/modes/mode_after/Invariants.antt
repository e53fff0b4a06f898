use Rattle.std.proofs.Common.{◌≡◌, take}
use Rattle.std.specs.Prelude.{fold}
use Rattle.rules_spec.specs.Versions.{after_logging}
use Rattle.run_report.proofs.modes.mode_after.Given as goal

abbrev pub invariant-loop-op : goal.invariant-loop-op
invariant-loop-op l = l.mode ≡ fold after_logging l.fn.mode (take l.op-index l.ops)
