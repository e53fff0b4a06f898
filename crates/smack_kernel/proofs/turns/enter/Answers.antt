use Rattle.std.proofs.Common.{arith, ap, sym, subst, ◌∙◌, ◌≡◌, ◌+◌, ◌++◌}
use Rattle.std.specs.Prelude.{IfOk}
use Rattle.rules_spec.specs.Rulings.{ruling}
use Rattle.world_spec.specs.declared.Entry.{Entry}
use Rattle.world_spec.specs.Worlds.{creds_of}
use Rattle.live_table.specs.Batches.{rows_of}
use Rattle.live_table.specs.Plays.{MayGive, given}
use Rattle.live_table.specs.Seats.{SeatValue, with_loads}
use Rattle.live_table.proofs.AfterSteps.{turns_loaded}
use Rattle.smack_kernel.specs.Histories.{world_means}
use Rattle.smack_kernel.specs.Turns.{IsMade}
use Rattle.smack_kernel.proofs.Worlds.{IsLive}
use Rattle.smack_kernel.proofs.Tasks.{on_ok}
use Rattle.smack_kernel.proofs.Turning.{entries_made, trail_made, plain_made, turn_live, may_give, task_turned, turned_all, back_all}
use Rattle.smack_kernel.proofs.turns.enter.Goals as goal

pub call_in_turn-turned-requires-clause-alive : goal.call_in_turn-turned-requires-clause-alive
call_in_turn-turned-requires-clause-alive g c =
    let t = c.take_turn-machine.ensures.turn in
    let s1 = c.take_turn-machine.new.seat in
    let x = c.take_turn-machine.result in
    let live = subst (λ n. IsLive x.world n c.args.basis.now.creds) (sym c.take_turn-machine.ensures.same.1)
    (turn_live c.requires.task s1.view x t) in
    live.0

pub call_in_turn-turned-requires-clause-creds : goal.call_in_turn-turned-requires-clause-creds
call_in_turn-turned-requires-clause-creds g c =
    let t = c.take_turn-machine.ensures.turn in
    let s1 = c.take_turn-machine.new.seat in
    let x = c.take_turn-machine.result in
    let live = subst (λ n. IsLive x.world n c.args.basis.now.creds) (sym c.take_turn-machine.ensures.same.1)
    (turn_live c.requires.task s1.view x t) in
    live.1

pub give_turn-requires-clause-may : goal.give_turn-requires-clause-may
give_turn-requires-clause-may g c =
    let s = c.args.seat.now in
    let loads = c.call_in_turn-turned.new.seat.view.loads in
    let s1 = with_loads loads c.take_turn-machine.new.seat in
    let same1 = c.take_turn-machine.ensures.same in
    let t = turns_loaded world_means loads c.take_turn-machine.ensures.turn in
    let x = c.take_turn-machine.result in
    let m' = c.call_in_turn-turned.new.machine in
    let seq = c.args.made + 1 in
    let call = c.args.call in
    let r = c.call_in_turn-turned.result in
    let e = c.call_in_turn-turned.ensures in
    let made = subst (λ n. IfOk r (IsMade x m' (ruling s1.view.journal) n seq call)) same1.1 e.made in
    let entries = entries_made s.number seq call r in (
      entries,
      subst (λ (z : SeatValue Entry). MayGive world_means z.view m' entries) (sym e.same)
          (may_give c.requires.task s1.view x t m' seq call r
          (plain_made s1.view.journal x m' s.number seq call r made c.requires.plain) made e.err e.world),
    )

pub returns-clause-task : goal.returns-clause-task
returns-clause-task g c =
    let s = c.args.seat.now in
    let loads = c.call_in_turn-turned.new.seat.view.loads in
    let s1 = with_loads loads c.take_turn-machine.new.seat in
    let same1 = c.take_turn-machine.ensures.same in
    let t = turns_loaded world_means loads c.take_turn-machine.ensures.turn in
    let x = c.take_turn-machine.result in
    let m' = c.call_in_turn-turned.new.machine in
    let seq = c.args.made + 1 in
    let call = c.args.call in
    let r = c.call_in_turn-turned.result in
    let e = c.call_in_turn-turned.ensures in
    let made = subst (λ n. IfOk r (IsMade x m' (ruling s1.view.journal) n seq call)) same1.1 e.made in
    let entries = entries_made s.number seq call r in
    let hist : m'.trail ≡ c.call_in_turn-turned.new.seat.view.history ++ entries =
    trail_made s1.view.journal x m' s.number seq call r made e.err
    ∙ ap (λ z. z ++ entries) (t.is ∙ sym (ap (λ (z : SeatValue Entry). z.view.history) e.same)) in
    let is : c.give_turn.new.seat.view ≡ given s1.view entries = c.give_turn.ensures.given entries hist
    ∙ ap (λ (z : SeatValue Entry). given z.view entries) e.same in
    let same3 : (c.give_turn.new.seat.table ≡ s1.table) × (c.give_turn.new.seat.number ≡ s1.number) = (
      c.give_turn.ensures.same.0 ∙ ap (λ (z : SeatValue Entry). z.table) e.same,
      c.give_turn.ensures.same.1 ∙ ap (λ (z : SeatValue Entry). z.number) e.same,
    ) in
    let creds = e.creds ∙ ap (creds_of m'.world) same1.1 in
    task_turned c.requires.task x m' t c.args.made call r same1 same3 made e.err e.world creds e.stands e.later e.whole is

pub returns-clause-turned : goal.returns-clause-turned
returns-clause-turned g c =
    let s = c.args.seat.now in
    let loads = c.call_in_turn-turned.new.seat.view.loads in
    let s1 = with_loads loads c.take_turn-machine.new.seat in
    let same1 = c.take_turn-machine.ensures.same in
    let t = turns_loaded world_means loads c.take_turn-machine.ensures.turn in
    let x = c.take_turn-machine.result in
    let m' = c.call_in_turn-turned.new.machine in
    let seq = c.args.made + 1 in
    let call = c.args.call in
    let r = c.call_in_turn-turned.result in
    let e = c.call_in_turn-turned.ensures in
    let made = subst (λ n. IfOk r (IsMade x m' (ruling s1.view.journal) n seq call)) same1.1 e.made in
    let entries = entries_made s.number seq call r in
    let hist : m'.trail ≡ c.call_in_turn-turned.new.seat.view.history ++ entries =
    trail_made s1.view.journal x m' s.number seq call r made e.err
    ∙ ap (λ z. z ++ entries) (t.is ∙ sym (ap (λ (z : SeatValue Entry). z.view.history) e.same)) in
    let is : c.give_turn.new.seat.view ≡ given s1.view entries = c.give_turn.ensures.given entries hist
    ∙ ap (λ (z : SeatValue Entry). given z.view entries) e.same in
    let same3 : (c.give_turn.new.seat.table ≡ s1.table) × (c.give_turn.new.seat.number ≡ s1.number) = (
      c.give_turn.ensures.same.0 ∙ ap (λ (z : SeatValue Entry). z.table) e.same,
      c.give_turn.ensures.same.1 ∙ ap (λ (z : SeatValue Entry). z.number) e.same,
    ) in
    let creds = e.creds ∙ ap (creds_of m'.world) same1.1 in
    turned_all c.requires.task x m' t c.args.made call r same1 same3 made e.err e.world creds e.stands e.later e.whole is

pub returns-clause-back : goal.returns-clause-back
returns-clause-back g c =
    let s = c.args.seat.now in
    let loads = c.call_in_turn-turned.new.seat.view.loads in
    let s1 = with_loads loads c.take_turn-machine.new.seat in
    let same1 = c.take_turn-machine.ensures.same in
    let t = turns_loaded world_means loads c.take_turn-machine.ensures.turn in
    let x = c.take_turn-machine.result in
    let m' = c.call_in_turn-turned.new.machine in
    let seq = c.args.made + 1 in
    let call = c.args.call in
    let r = c.call_in_turn-turned.result in
    let e = c.call_in_turn-turned.ensures in
    let made = subst (λ n. IfOk r (IsMade x m' (ruling s1.view.journal) n seq call)) same1.1 e.made in
    let entries = entries_made s.number seq call r in
    let hist : m'.trail ≡ c.call_in_turn-turned.new.seat.view.history ++ entries =
    trail_made s1.view.journal x m' s.number seq call r made e.err
    ∙ ap (λ z. z ++ entries) (t.is ∙ sym (ap (λ (z : SeatValue Entry). z.view.history) e.same)) in
    let is : c.give_turn.new.seat.view ≡ given s1.view entries = c.give_turn.ensures.given entries hist
    ∙ ap (λ (z : SeatValue Entry). given z.view entries) e.same in
    let same3 : (c.give_turn.new.seat.table ≡ s1.table) × (c.give_turn.new.seat.number ≡ s1.number) = (
      c.give_turn.ensures.same.0 ∙ ap (λ (z : SeatValue Entry). z.table) e.same,
      c.give_turn.ensures.same.1 ∙ ap (λ (z : SeatValue Entry). z.number) e.same,
    ) in
    let creds = e.creds ∙ ap (creds_of m'.world) same1.1 in
    back_all c.requires.task x m' t c.args.made call r same1 same3 made e.err e.world creds e.stands e.later e.whole is e.back

pub returns-clause-cost : goal.returns-clause-cost
returns-clause-cost g c =
    let took = c.take_turn-machine.ensures.counted.0 in
    let gave = c.give_turn.ensures.counted.loads in
    let rows = ap rows_of c.give_turn.ensures.seen in
    let same = ap (λ (s : SeatValue Entry). rows_of s.view.journal) c.call_in_turn-turned.ensures.same in
    let cost = c.call_in_turn-turned.ensures.cost in
    omega arith

pub returns-clause-once : goal.returns-clause-once
returns-clause-once g c =
    let took = c.take_turn-machine.ensures.counted.0 in
    let gave = c.give_turn.ensures.counted.loads in
    on_ok c.call_in_turn-turned.result (λ once. omega arith) c.call_in_turn-turned.ensures.once

pub returns-clause-looks : goal.returns-clause-looks
returns-clause-looks g c =
    let took = c.take_turn-machine.ensures.counted.1 in
    let same = ap (λ (s : SeatValue Entry). s.view.looks) c.call_in_turn-turned.ensures.same in
    let gave = c.give_turn.ensures.counted.looks in
    omega arith

pub returns-clause-penless : goal.returns-clause-penless
returns-clause-penless g c =
    c.give_turn.ensures.counted.pens
    ∙ (ap (λ (s : SeatValue Entry). s.view.pens) c.call_in_turn-turned.ensures.same ∙ c.take_turn-machine.ensures.counted.2)
