use Rattle.std.proofs.Common.{◌≡◌}
use Rattle.program_tests.proofs.limit_tests.fills.Given as goal

abbrev pub invariant-loop : goal.invariant-loop
invariant-loop g l = l.task.table ≡ l.fn.task.table
