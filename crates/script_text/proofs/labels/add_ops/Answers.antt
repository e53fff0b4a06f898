use Rattle.script_spec.specs.Grammar.{most_labels}
use Rattle.script_text.proofs.WriteNames.{ops_many}
use Rattle.script_text.proofs.labels.add_ops.Goals as goal

pub returns-in-Err-clause-many : goal.returns-in-Err-clause-many
returns-in-Err-clause-many c is =
    ops_many c.loop-op.labels c.args.labels.now c.args.ops.now c.loop-op.op-index _ most_labels c.loop-op-test.true c.loop-op.invariant.adds
    (c.in-Err.ensures.many is)
