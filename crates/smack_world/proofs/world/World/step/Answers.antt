use Rattle.std.proofs.Common.{rules}
use Rattle.rule_fold.specs.Index.{ruling_of}
use Rattle.world_state.specs.Seen.{world_seen}
use Rattle.smack_world.proofs.Standing.{entered_stands}
use Rattle.smack_world.proofs.world.World.step.Goals as goal

pub returns-in-Ok-clause-stepped : goal.returns-in-Ok-clause-stepped
returns-in-Ok-clause-stepped c = search rules

pub returns-in-Ok-clause-stands : goal.returns-in-Ok-clause-stands
returns-in-Ok-clause-stands c = λ journal index stands.
    entered_stands c.args.self.now (record { world = world_seen c.act.new.state; trail = c.push.new.self.items }) (ruling_of c.args.rules.now)
    c.args.task c.args.seq c.args.call journal (returns-in-Ok-clause-stepped c).0.is index.says stands
