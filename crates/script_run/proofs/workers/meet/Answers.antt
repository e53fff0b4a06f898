use Rattle.std.proofs.Common.{arith, ◌≡◌, ◌<◌, Bool, sym, ◌∙◌, is_some, true, false}
use Rattle.script_run.specs.Stages.{stage_script}
use Rattle.script_run.proofs.Working.{meet_early, meet_wait, on_false}
use Rattle.script_run.proofs.Stopping.{meet_gather, meet_own}
use Rattle.script_run.proofs.workers.meet.Goals.{then-is_some-via-then-is_some, then-is_some-via-else-is_some+then-until-to}
use Rattle.script_run.proofs.workers.meet.Goals as goal

pub returns-then-is_some-clause-met : goal.returns-then-is_some-clause-met
returns-then-is_some-clause-met g c = meet_early (stage_script g.S.ScriptLines.told c.args.stage) c.args.child.0 c.args.mine.task c.args.theirs.task c.adopt.new.task
    c.args.mine.asked c.args.theirs.asked c.gather-stop.new.asked c.args.until c.args.to (is_some c.args.mine.stop) (is_some c.args.theirs.stop)
    (is_some c.gather-stop.result) c.adopt.ensures.adopts c.gather-stop.ensures.asked
    (λ on. elim c.then-is_some.branch [
      | then-is_some-via-then-is_some w ↦ absurd (let e : ◌≡◌ {A = Bool} true false = sym w.if-is_some.true ∙ (c.is_some.ensures ∙ on) in cc)
      | then-is_some-via-else-is_some+then-until-to w ↦ w.if-until-to.true
    ])

pub returns-clause-met : goal.returns-clause-met
returns-clause-met g c = let ne = c.if-until-to.false in let le = c.requires.place in
    let lt : c.args.until < c.args.to = omega arith in
    meet_wait (stage_script g.S.ScriptLines.told c.args.stage) c.args.child.0 c.args.mine.task c.args.theirs.task c.wait_line-stop.new.task
    c.args.mine.asked c.args.theirs.asked c.wait_line-stop.new.asked c.args.until c.args.to (is_some c.args.mine.stop) (is_some c.args.theirs.stop)
    c.adopt.new.task (is_some c.wait_line-stop.result) c.gather-stop.new.asked c.adopt.ensures.adopts
    (on_false (is_some c.gather-stop.result) c.gather-stop.ensures.asked (sym c.is_some.ensures ∙ c.if-is_some.false)) lt c.wait_line-stop.ensures.awaited

pub returns-then-is_some-clause-cause : goal.returns-then-is_some-clause-cause
returns-then-is_some-clause-cause g c =
    meet_gather c.args.mine.stop c.args.theirs.stop c.args.mine.task c.args.theirs.task c.adopt.new.task c.gather-stop.result c.adopt.ensures.adopts
    c.gather-stop.ensures.cause

pub returns-clause-cause : goal.returns-clause-cause
returns-clause-cause g c =
    meet_own c.args.mine.stop c.args.theirs.stop c.args.mine.task c.args.theirs.task c.wait_line-stop.new.task c.wait_line-stop.result
    c.wait_line-stop.ensures.cause
