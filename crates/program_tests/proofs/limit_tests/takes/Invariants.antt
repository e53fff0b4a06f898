use Rattle.std.proofs.Common.{◌≡◌}
use Rattle.program_tests.proofs.limit_tests.takes.Given as goal

abbrev pub invariant-loop-place : goal.invariant-loop-place
invariant-loop-place g l = l.task.table ≡ l.fn.task.table
