use Rattle.std.proofs.Common.{◌≤◌, length}
use Rattle.script_spec.specs.Grammar.{most_labels}
use Rattle.script_text.proofs.WriteNames.{AddsOps}
use Rattle.script_text.proofs.labels.add_ops.Given as goal

abbrev pub invariant-loop-op : goal.invariant-loop-op
invariant-loop-op l = record {
  adds : AddsOps l.labels l.ops l.op-index l.fn.labels;
  limit : length l.labels ≤ most_labels;
}
