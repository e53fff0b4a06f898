use Rattle.std.proofs.Common.{◌≡◌, ◌++◌, drop}
use Rattle.run_report.specs.Modes.{modes_from}
use Rattle.run_report.proofs.modes.logging_modes.Given as goal

abbrev pub invariant-loop-batch : goal.invariant-loop-batch
invariant-loop-batch l = l.modes.items ++ modes_from l.mode (drop l.batch-index l.journal) ≡ modes_from 1 l.journal
