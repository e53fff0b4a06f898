use Rattle.std.proofs.Common.{◌≡◌, drop}
use Rattle.rule_fold.specs.Index.{ruling_of}
use Rattle.world_spec.specs.Steps.{went, verdict_of}
use Rattle.world_state.specs.Seen.{world_seen}
use Rattle.world_state.specs.Judging.{behind_checks}
use Rattle.world_state.proofs.judging.judge_parts.Given as goal

abbrev pub invariant-loop-part : goal.invariant-loop-part
invariant-loop-part l =
    let verdict = verdict_of (world_seen l.fn.state) (ruling_of l.fn.rules) in
    behind_checks l.checks (went verdict (drop l.part-index l.parts)) ≡ went verdict l.fn.parts
