use Rattle.std.proofs.Common.{◌≡◌, ◌++◌, take}
use Rattle.std.specs.Prelude.{map}
use Rattle.rule_word.specs.Layout.{op_word}
use Rattle.smack_kernel.proofs.publishing.fill_ops.Given as goal

abbrev pub invariant-loop-op : goal.invariant-loop-op
invariant-loop-op l = l.seat ≡ record l.initial.seat {
  view = record l.initial.seat.view {
    filled = l.initial.seat.view.filled ++ map op_word
        (take l.op-index l.ops);
  };
}
