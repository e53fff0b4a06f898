use Rattle.std.proofs.Common.{◌∙◌, sym, ap}
use Rattle.world_spec.specs.Replies.{answered}
use Rattle.world_spec.specs.Steps.{effect}
use Rattle.world_state.specs.Seen.{world_seen}
use Rattle.smack_world.proofs.acting.reply_of.Goals as goal

pub returns-in_ok-tree_answer-in-Tree : goal.returns-in_ok-tree_answer-in-Tree
returns-in_ok-tree_answer-in-Tree c = λ version.
    c.reply.ensures ∙ ap answered (c.in_ok-tree_answer-in-Tree.ensures version c.args.task)
    ∙ ap (λ call. (effect (world_seen c.args.state.now) version c.args.task call).reply) (sym c.in-Tree.is)
