use Rattle.std.proofs.Common.{◌≡◌, fold}
use Rattle.replay_spec.specs.Replays.{with_asked}
use Rattle.asked_lines.specs.Blocks.{block_lines, AreBlocks}
use Rattle.asked_lines.proofs.blocks.AskedBlocks.by_task.Given as goal

abbrev pub invariant-loop-block : goal.invariant-loop-block
invariant-loop-block l = record {
  blocks : AreBlocks l.block-iterator.rest.items;
  lines : fold with_asked l.lines (block_lines l.block-iterator.rest.items)
      ≡ fold with_asked l.initial.lines (block_lines l.initial.block-iterator.rest.items);
}
