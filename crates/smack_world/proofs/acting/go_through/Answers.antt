use Rattle.std.proofs.Common.{◌<◌, length, is_some, sym, subst}
use Rattle.rule_fold.specs.Index.{ruling_of}
use Rattle.world_spec.specs.Worlds.{World}
use Rattle.world_state.specs.Seen.{world_seen}
use Rattle.smack_world.proofs.Renewing.{effect_leaves, handed}
use Rattle.smack_world.proofs.acting.go_through.Goals as goal

pub hand_out-creds-requires : goal.hand_out-creds-requires
hand_out-creds-requires c =
    subst (λ (w : World). c.args.task < length w.tasks) (sym c.in_ok-effect.ensures.ok)
    (effect_leaves (world_seen c.args.state.now) (ruling_of c.args.rules.now) c.args.task c.args.call.now c.requires.made)

pub returns-clause-creds : goal.returns-clause-creds
returns-clause-creds c =
    handed (world_seen c.args.state.now) (world_seen c.effect.new.state) (ruling_of c.args.rules.now) c.args.task c.args.call.now
    (is_some c.in_ok-room.room) c.hand_out-creds.result c.in_ok-effect.ensures.ok c.requires.made c.in_ok-room.ensures c.hand_out-creds.ensures
