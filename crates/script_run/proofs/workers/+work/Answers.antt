use Rattle.std.proofs.Common.{◌≡◌, arith, refl, sym, ap, ◌∙◌, subst, ◌∷◌, [], length, take, is_some, Some}
use Rattle.script_text.specs.Lines.{call_seen}
use Rattle.replay_spec.specs.declared.Act.TheVariants as Act
use Rattle.replay_spec.specs.Acts.{act_of_line}
use Rattle.runs_spec.specs.Scripts.{segment, lines_by}
use Rattle.runs_spec.specs.Orders.{IsOrderly}
use Rattle.runs_spec.proofs.Calls.{ran_none, ran_unchanged}
use Rattle.script_run.specs.Stages.{stage_script, IsForkRun}
use Rattle.script_run.specs.Stops.{IsForkCause}
use Rattle.script_run.proofs.Working.{unforked, fork_lines, go_on, go_stops}
use Rattle.script_run.proofs.Stopping.{cause_then, fork_lines_cause}
use Rattle.script_run.proofs.Orders.{fork_on, forks_task}
use Rattle.script_run.proofs.workers.+work.Goals as goal

pub fork_line-returns-in-Err-clause-ran : goal.fork_line-returns-in-Err-clause-ran
fork_line-returns-in-Err-clause-ran g t c =
    let ls = segment c.args.span.pid c.args.span.from c.args.span.to (g.S.ScriptLines.told c.args.stage.script.now) in
    unforked (stage_script g.S.ScriptLines.told c.args.stage) (call_seen c.args.line.now) ls ls c.args.task c.fork.new.task c.args.asked c.args.asked c.args.child
    c.requires.line (subst (IsForkRun c.args.task c.fork.new.task c.args.child) c.in-Err.is c.fork.ensures.forked)

pub fork_line-returns-in-Ok-clause-ran : goal.fork_line-returns-in-Ok-clause-ran
fork_line-returns-in-Ok-clause-ran g t c =
    let f = subst (IsForkRun c.args.task c.fork.new.task c.args.child) c.in-Ok.is c.fork.ensures.forked in
    let h = c.halves-mine.result in
    let p = c.wait_place-until.ensures.place in
    let q = c.requires.place in
    fork_lines (stage_script g.S.ScriptLines.told c.args.stage) c.args.span.pid c.args.child c.args.span.from c.wait_place-until.result c.args.span.to (length (g.S.ScriptLines.told c.args.stage.script.now))
    c.meet.result.at (call_seen c.args.line.now) c.args.task c.fork.new.task h.0.task c.in-Ok.kid h.1.task c.meet.result.worked.task f.0
    c.args.asked h.0.asked h.1.asked c.meet.result.worked.asked (is_some h.0.stop) (is_some h.1.stop) (is_some c.meet.result.worked.stop)
    p.0 p.1 (omega arith) refl c.requires.first c.requires.line f.1 f.2 f.3 f.4 c.halves-mine.ensures.mine c.halves-mine.ensures.theirs
    c.meet.ensures.met c.wait_place-until.ensures.line

pub go-loop-line-init : goal.go-loop-line-init
go-loop-line-init g t c = record {
  place = (omega arith, c.requires.place.0);
  table = c.requires.table;
  top = c.requires.top;
  ran = ran_none (stage_script g.S.ScriptLines.told c.args.stage) (segment c.args.span.pid c.args.span.from c.args.span.to (g.S.ScriptLines.told c.args.stage.script.now)) c.args.task
      c.args.asked c.requires.top;
  orderly = λ is. is;
}

pub go-returns-then-is_some-clause-ran : goal.go-returns-then-is_some-clause-ran
go-returns-then-is_some-clause-ran g t c = let r = c.step-worked.result in
    go_stops (stage_script g.S.ScriptLines.told c.args.stage) (segment c.args.span.pid c.args.span.from c.args.span.to (g.S.ScriptLines.told c.args.stage.script.now)) c.args.task
    c.loop-line.task r.worked.task c.args.asked c.loop-line.asked r.worked.asked _ _ _ (is_some r.worked.stop) c.loop-line.invariant.ran
    c.in-Some.ensures.line c.step-worked.ensures.ran (sym c.is_some.ensures ∙ c.if-is_some.true) []

pub go-loop-line-preserved : goal.go-loop-line-preserved
go-loop-line-preserved g t c =
    let r = c.step-worked.result in
    let e = sym c.is_some.ensures ∙ c.if-is_some.false in
    let p = c.step-worked.ensures.place e in
    let i = c.loop-line.invariant in
    let n = c.in-Some.ensures.place in
    let line = c.step-worked.ensures.ran in record {
      place = (omega arith, omega arith);
      table = line.went.table ∙ i.table;
      top = line.went.within;
      ran = go_on (stage_script g.S.ScriptLines.told c.args.stage) (segment c.args.span.pid c.args.span.from c.args.span.to (g.S.ScriptLines.told c.args.stage.script.now)) c.args.task
          c.loop-line.task r.worked.task c.args.asked c.loop-line.asked r.worked.asked _ _ _ (is_some r.worked.stop) i.ran
          c.in-Some.ensures.line line e;
      orderly = λ is. c.step-worked.ensures.orderly e (subst (IsOrderly (stage_script g.S.ScriptLines.told c.args.stage)) c.in-Some.ensures.line (i.orderly is));
    }

pub step-returns-clause-ran : goal.step-returns-clause-ran
step-returns-clause-ran g t c =
    let ls = segment c.args.span.pid c.args.span.from c.args.span.to (g.S.ScriptLines.told c.args.stage.script.now) in
    ran_unchanged (stage_script g.S.ScriptLines.told c.args.stage) (call_seen c.args.line.now ∷ ls) ls c.args.task c.args.task c.args.asked c.args.asked
    c.requires.top refl

pub fork_line-returns-in-Ok-clause-cause : goal.fork_line-returns-in-Ok-clause-cause
fork_line-returns-in-Ok-clause-cause g t c =
    let f = subst (IsForkRun c.args.task c.fork.new.task c.args.child) c.in-Ok.is c.fork.ensures.forked in
    let h = c.halves-mine.result in
    let p = c.wait_place-until.ensures.place in
    let q = c.requires.place in
    fork_lines_cause (stage_script g.S.ScriptLines.told c.args.stage) c.args.span.pid c.args.child c.args.span.from c.wait_place-until.result c.args.span.to
    (length (g.S.ScriptLines.told c.args.stage.script.now)) (call_seen c.args.line.now) c.args.task c.fork.new.task h.0.task c.in-Ok.kid h.1.task
    c.meet.result.worked.task f.0 c.args.asked h.0.asked h.1.asked (is_some h.0.stop) (is_some h.1.stop) h.0.stop h.1.stop p.0 p.1 (omega arith) refl
    c.requires.first f.1 f.2 f.3 c.halves-mine.ensures.mine c.halves-mine.ensures.theirs c.halves-mine.ensures.my_cause
    c.halves-mine.ensures.their_cause c.requires.line c.wait_place-until.ensures.none c.meet.result.worked.stop c.meet.ensures.cause

pub go-returns-then-is_some-clause-cause : goal.go-returns-then-is_some-clause-cause
go-returns-then-is_some-clause-cause g t c = let r = c.step-worked.result in
    cause_then (stage_script g.S.ScriptLines.told c.args.stage) (segment c.args.span.pid c.args.span.from c.args.span.to (g.S.ScriptLines.told c.args.stage.script.now))
    _ _ c.args.task c.loop-line.task r.worked.task c.args.asked c.loop-line.asked r.worked.stop c.loop-line.invariant.ran
    c.in-Some.ensures.line c.loop-line.invariant.orderly c.step-worked.ensures.cause

pub fork_line-returns-in-Err-clause-cause : goal.fork_line-returns-in-Err-clause-cause
fork_line-returns-in-Err-clause-cause g t c =
    (subst (IsForkCause c.args.task c.fork.new.task) c.in-Err.is c.fork.ensures.cause) (stage_script g.S.ScriptLines.told c.args.stage)
    (call_seen c.args.line.now) (segment c.args.span.pid c.args.span.from c.args.span.to (g.S.ScriptLines.told c.args.stage.script.now))

pub step-returns-in-Ok-Some-clause-cause : goal.step-returns-in-Ok-Some-clause-cause
step-returns-in-Ok-Some-clause-cause g t c =
    c.plain_step.ensures.cause (segment c.args.span.pid c.args.span.from c.args.span.to (g.S.ScriptLines.told c.args.stage.script.now))

pub fork_line-returns-in-Ok-clause-orderly : goal.fork_line-returns-in-Ok-clause-orderly
fork_line-returns-in-Ok-clause-orderly g t c = λ on is.
    let p = c.wait_place-until.ensures.place in
    let q = c.requires.place in
    fork_on (stage_script g.S.ScriptLines.told c.args.stage) c.args.span.pid c.args.child c.args.span.from c.wait_place-until.result c.args.span.to
    (call_seen c.args.line.now) p.0 p.1 q.1 c.requires.line c.wait_place-until.ensures.none is c.meet.result.at c.meet.ensures.met.wait
    (is_some c.meet.result.worked.stop) c.wait_place-until.ensures.line c.meet.ensures.met.at_end on

pub step-returns-in-Ok-Some-clause-orderly : goal.step-returns-in-Ok-Some-clause-orderly
step-returns-in-Ok-Some-clause-orderly g t c = λ on is.
    let s = stage_script g.S.ScriptLines.told c.args.stage in
    let lines = g.S.ScriptLines.told c.args.stage.script.now in
    subst (λ n. IsOrderly s (segment c.args.span.pid n c.args.span.to lines)) (sym c.plain_step.ensures.at)
    (c.plain_step.ensures.orderly (segment c.args.span.pid c.args.span.from c.args.span.to lines) is)

pub step-fork_line-requires-clause-first : goal.step-fork_line-requires-clause-first
step-fork_line-requires-clause-first g t c κs within =
    let s = stage_script g.S.ScriptLines.told c.args.stage in
    let h = c.requires.here in
    let child = c.in-Ok-Some-Fork.child in
    let does = subst (λ labels. act_of_line labels s.names (call_seen c.args.line.now) ≡ Some (Act.Fork child)) c.labels.ensures
    (sym c.in-Ok-Some-Fork.ensures ∙ (c.in-Ok-Some-Fork.field-0-is ∙ ap (λ act. Some act) c.in-Ok-Some-Fork.field-0-0-is)) in
    subst (λ k. lines_by child.0 (take k s.lines) ≡ []) (sym h.2)
    (c.requires.forks (call_seen c.args.line.now) h.0 child.0 h.1 (forks_task s (call_seen c.args.line.now) child does))
