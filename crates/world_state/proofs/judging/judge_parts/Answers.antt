use Rattle.std.proofs.Common.{ap, sym, arith}
use Rattle.rule_fold.specs.Index.{ruling_of}
use Rattle.world_spec.specs.Steps.{Went, verdict_of}
use Rattle.world_state.specs.Seen.{world_seen}
use Rattle.world_state.proofs.Ends.{at_end, passes}
use Rattle.world_state.proofs.judging.judge_parts.Goals as goal

pub returns-clause-went : goal.returns-clause-went
returns-clause-went c =
    at_end (verdict_of (world_seen c.args.state.now) (ruling_of c.args.rules.now)) c.loop-part.checks c.loop-part.part-index c.args.parts.now _
    (omega arith) c.loop-part.invariant

pub returns-clause-passes : goal.returns-clause-passes
returns-clause-passes c = λ none.
    passes (verdict_of (world_seen c.args.state.now) (ruling_of c.args.rules.now)) c.args.parts.now
    (ap (λ (w : Went). w.stop) (sym (returns-clause-went c)))
