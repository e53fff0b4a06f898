use Rattle.std.proofs.Common.{arith, OnOk, ◌≡◌, fold, set, subst}
use Rattle.replay_spec.specs.Replays.{with_asked}
use Rattle.asked_lines.specs.ByTask.{all_lines}
use Rattle.asked_lines.proofs.Order.{block_after, blocks_after, count_after}
use Rattle.asked_lines.proofs.by_task.AskedByTask.put_block.Goals as goal

pub invariant_of-self : goal.invariant_of-self
invariant_of-self c = (omega (arith, c.self.invariant.0, c.reach.ensures.longer), c.reach.ensures.are)

pub invariant_of-self-2 : goal.invariant_of-self-2
invariant_of-self-2 c =
    let lists = c.reach.new.lists.items in (
      count_after lists c.args.block.task c.append.new.lines 65 (omega (arith, c.self.invariant.0, c.reach.ensures.longer)),
      blocks_after c.append.result lists c.args.block.task c.args.block.lines c.index_mut.result.now c.append.new.lines c.reach.ensures.are
          c.in_ok-reach.ensures.reached c.requires.lines c.index_mut.ensures.value c.append.ensures.ok c.append.ensures.err,
    )

pub returns : goal.returns
returns c =
    rw (← c.self.view_is)
    (subst (λ t. OnOk c.append.result (all_lines (set c.reach.new.lists.items c.args.block.task c.append.new.lines) ≡ fold with_asked t c.args.block.lines)) c.reach.ensures.same
    (block_after c.append.result c.reach.new.lists.items c.args.block.task c.args.block.lines c.index_mut.result.now c.append.new.lines
    c.reach.ensures.are c.in_ok-reach.ensures.reached c.requires.lines c.index_mut.ensures.value c.append.ensures.ok))
