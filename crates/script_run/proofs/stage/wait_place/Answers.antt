use Rattle.std.proofs.Common.{◌<◌, List, ap, subst, arith, length, map, take, drop}
use Rattle.live_table.proofs.Lists.{long_map}
use Rattle.script_spec.specs.Lines.{ScriptLine}
use Rattle.script_text.specs.Lines.{call_seen}
use Rattle.runs_spec.specs.Scripts.{segment}
use Rattle.runs_spec.specs.Orders.{NoneWaits}
use Rattle.script_acts.specs.Places.{IsWaitAt}
use Rattle.script_run.specs.Waits.{AreNoWaits}
use Rattle.script_run.proofs.WaitPlaces.{none_from}
use Rattle.script_run.proofs.stage.wait_place.Goals as goal

pub wait_between-requires-clause-place : goal.wait_between-requires-clause-place
wait_between-requires-clause-place g c = let long = long_map call_seen c.calls.result.now in
    let is = ap length c.calls.ensures in let r = c.requires.place in
    (c.next_wait-first.ensures.place.1, omega (arith, long, is, r.1))

pub returns-clause-line : goal.returns-clause-line
returns-clause-line g c = subst (λ (ls : List ScriptLine). c.wait_between.result < c.args.to
    → IsWaitAt c.args.stage.names.now ls c.args.pid c.args.child c.wait_between.result c.args.to) c.calls.ensures c.wait_between.ensures.line

pub returns-clause-none : goal.returns-clause-none
returns-clause-none g c = let first = c.next_wait-first.ensures in let last = c.wait_between.ensures.place in
    let long = ap length c.calls.ensures in let r = c.requires.place in
    subst (λ (ls : List ScriptLine). AreNoWaits (drop c.args.from (take c.next_wait-first.result ls))
    → NoneWaits c.args.stage.names.now c.args.child (segment c.args.pid c.args.from c.wait_between.result ls)) c.calls.ensures
    (λ none. none_from c.args.stage.names.now c.args.child c.args.pid c.args.from c.next_wait-first.result c.wait_between.result
    (map call_seen c.calls.result.now) first.place.0 last.0 (omega (arith, last.1, r.1, long)) none c.wait_between.ensures.none)
    first.none
