use Rattle.std.proofs.Common.{arith, ap, sym, subst, ◌∙◌, ◌≡◌, ◌+◌, ◌++◌, ◌∷◌, [], ℕ, None}
use Rattle.std.specs.Prelude.{Result, Ok, Err}
use Rattle.rules_spec.specs.Rulings.{ruling}
use Rattle.world_spec.specs.declared.Call.{Call}
use Rattle.world_spec.specs.declared.Call.TheVariants as Call
use Rattle.world_spec.specs.declared.tasks.TaskCall.TheVariants as TaskCall
use Rattle.world_spec.specs.declared.Entry.{Entry}
use Rattle.world_spec.specs.Worlds.{creds_of}
use Rattle.live_table.specs.Batches.{rows_of}
use Rattle.live_table.specs.Plays.{MayGive, given}
use Rattle.live_table.specs.Seats.{SeatValue, with_loads}
use Rattle.live_table.proofs.AfterSteps.{turns_loaded}
use Rattle.live_table.proofs.Lists.{rows_begin}
use Rattle.smack_kernel.specs.Histories.{world_means}
use Rattle.smack_kernel.specs.Growth.{told_entry}
use Rattle.smack_kernel.specs.declared.index.Index.{Index}
use Rattle.smack_kernel.specs.declared.turns.Turned.{Turned}
use Rattle.smack_kernel.specs.declared.turns.Turned.TheVariants as Turned
use Rattle.smack_kernel.specs.Tasks.{IsTaskState, Starts, task_of}
use Rattle.smack_kernel.specs.Turns.{IsMade, IsTurned}
use Rattle.smack_kernel.specs.Forks.{task_made, MayFork, Forks}
use Rattle.smack_kernel.proofs.Worlds.{IsLive}
use Rattle.smack_kernel.proofs.Turning.{entries_made, trail_made, turn_live, may_give, task_turned, turned_all, back_all}
use Rattle.smack_kernel.proofs.Forking.{some_made, none_of, may_fork, task_forked, calls_forked, child_task, child_starts, child_named}
use Rattle.smack_kernel.proofs.forks.branch.Goals as goal

pub fork_in_turn-forked-requires-clause-alive : goal.fork_in_turn-forked-requires-clause-alive
fork_in_turn-forked-requires-clause-alive g c =
    let t = c.take_turn-machine.ensures.turn in
    let s1 = c.take_turn-machine.new.seat in
    let x = c.take_turn-machine.result in
    let live = subst (λ n. IsLive x.world n c.args.basis.now.creds) (sym c.take_turn-machine.ensures.same.1)
    (turn_live c.requires.task s1.view x t) in
    live.0

pub fork_in_turn-forked-requires-clause-creds : goal.fork_in_turn-forked-requires-clause-creds
fork_in_turn-forked-requires-clause-creds g c =
    let t = c.take_turn-machine.ensures.turn in
    let s1 = c.take_turn-machine.new.seat in
    let x = c.take_turn-machine.result in
    let live = subst (λ n. IsLive x.world n c.args.basis.now.creds) (sym c.take_turn-machine.ensures.same.1)
    (turn_live c.requires.task s1.view x t) in
    live.1

pub give_turn-requires-then-not-makes_task-clause-may : goal.give_turn-requires-then-not-makes_task-clause-may
give_turn-requires-then-not-makes_task-clause-may g c =
    let s = c.args.seat.now in
    let loads = c.fork_in_turn-forked.new.seat.view.loads in
    let s1 = with_loads loads c.take_turn-machine.new.seat in
    let same1 = c.take_turn-machine.ensures.same in
    let t = turns_loaded world_means loads c.take_turn-machine.ensures.turn in
    let x = c.take_turn-machine.result in
    let m' = c.fork_in_turn-forked.new.machine in
    let seq = c.args.made + 1 in
    let call = Call.Task (TaskCall.Fork c.args.pid) in
    let e = c.fork_in_turn-forked.ensures in
    let s2_is : c.fork_in_turn-forked.new.seat ≡ s1 = e.same in
    let creds = e.creds ∙ ap (creds_of m'.world) same1.1 in
    let r : Result Turned (ℕ × Call) = Ok c.in-Ok.turned in
    let made : IsMade x m' (ruling s1.view.journal) s.number seq call c.in-Ok.turned =
    subst (λ n. IsMade x m' (ruling s1.view.journal) n seq call c.in-Ok.turned) same1.1 c.in-Ok.ensures.made in
    let none : Unit {0} = tt in
    let entries = entries_made s.number seq call r in
    let childless : task_made c.in-Ok.turned ≡ None =
    none_of (task_made c.in-Ok.turned) (sym c.makes_task.ensures ∙ c.if-not-makes_task.true) in (
      entries,
      subst (λ (z : SeatValue Entry). MayGive world_means z.view m' entries) (sym s2_is)
          (may_give c.requires.task s1.view x t m' seq call r childless made none e.world),
    )

pub returns-then-not-makes_task-clause-task : goal.returns-then-not-makes_task-clause-task
returns-then-not-makes_task-clause-task g c =
    let s = c.args.seat.now in
    let loads = c.fork_in_turn-forked.new.seat.view.loads in
    let s1 = with_loads loads c.take_turn-machine.new.seat in
    let same1 = c.take_turn-machine.ensures.same in
    let t = turns_loaded world_means loads c.take_turn-machine.ensures.turn in
    let x = c.take_turn-machine.result in
    let m' = c.fork_in_turn-forked.new.machine in
    let seq = c.args.made + 1 in
    let call = Call.Task (TaskCall.Fork c.args.pid) in
    let e = c.fork_in_turn-forked.ensures in
    let s2_is : c.fork_in_turn-forked.new.seat ≡ s1 = e.same in
    let creds = e.creds ∙ ap (creds_of m'.world) same1.1 in
    let r : Result Turned (ℕ × Call) = Ok c.in-Ok.turned in
    let made : IsMade x m' (ruling s1.view.journal) s.number seq call c.in-Ok.turned =
    subst (λ n. IsMade x m' (ruling s1.view.journal) n seq call c.in-Ok.turned) same1.1 c.in-Ok.ensures.made in
    let none : Unit {0} = tt in
    let entries = entries_made s.number seq call r in
    let childless : task_made c.in-Ok.turned ≡ None =
    none_of (task_made c.in-Ok.turned) (sym c.makes_task.ensures ∙ c.if-not-makes_task.true) in
    let hist : m'.trail ≡ c.fork_in_turn-forked.new.seat.view.history ++ entries =
    trail_made s1.view.journal x m' s.number seq call r made none
    ∙ ap (λ z. z ++ entries) (t.is ∙ sym (ap (λ (z : SeatValue Entry). z.view.history) s2_is)) in
    let is : c.give_turn-then-not-makes_task.new.seat.view ≡ given s1.view entries = c.give_turn-then-not-makes_task.ensures.given entries hist
    ∙ ap (λ (z : SeatValue Entry). given z.view entries) s2_is in
    let same3 : (c.give_turn-then-not-makes_task.new.seat.table ≡ s1.table) × (c.give_turn-then-not-makes_task.new.seat.number ≡ s1.number) = (
      c.give_turn-then-not-makes_task.ensures.same.0 ∙ ap (λ (z : SeatValue Entry). z.table) s2_is,
      c.give_turn-then-not-makes_task.ensures.same.1 ∙ ap (λ (z : SeatValue Entry). z.number) s2_is,
    ) in
    let whole = c.in-Ok.ensures.whole in
    task_turned c.requires.task x m' t c.args.made call r same1 same3 made none e.world creds e.stands e.later whole is

pub returns-then-not-makes_task-clause-branched : goal.returns-then-not-makes_task-clause-branched
returns-then-not-makes_task-clause-branched g c =
    let s = c.args.seat.now in
    let loads = c.fork_in_turn-forked.new.seat.view.loads in
    let s1 = with_loads loads c.take_turn-machine.new.seat in
    let same1 = c.take_turn-machine.ensures.same in
    let t = turns_loaded world_means loads c.take_turn-machine.ensures.turn in
    let x = c.take_turn-machine.result in
    let m' = c.fork_in_turn-forked.new.machine in
    let seq = c.args.made + 1 in
    let call = Call.Task (TaskCall.Fork c.args.pid) in
    let e = c.fork_in_turn-forked.ensures in
    let s2_is : c.fork_in_turn-forked.new.seat ≡ s1 = e.same in
    let creds = e.creds ∙ ap (creds_of m'.world) same1.1 in
    let r : Result Turned (ℕ × Call) = Ok c.in-Ok.turned in
    let made : IsMade x m' (ruling s1.view.journal) s.number seq call c.in-Ok.turned =
    subst (λ n. IsMade x m' (ruling s1.view.journal) n seq call c.in-Ok.turned) same1.1 c.in-Ok.ensures.made in
    let none : Unit {0} = tt in
    let entries = entries_made s.number seq call r in
    let childless : task_made c.in-Ok.turned ≡ None =
    none_of (task_made c.in-Ok.turned) (sym c.makes_task.ensures ∙ c.if-not-makes_task.true) in
    let hist : m'.trail ≡ c.fork_in_turn-forked.new.seat.view.history ++ entries =
    trail_made s1.view.journal x m' s.number seq call r made none
    ∙ ap (λ z. z ++ entries) (t.is ∙ sym (ap (λ (z : SeatValue Entry). z.view.history) s2_is)) in
    let is : c.give_turn-then-not-makes_task.new.seat.view ≡ given s1.view entries = c.give_turn-then-not-makes_task.ensures.given entries hist
    ∙ ap (λ (z : SeatValue Entry). given z.view entries) s2_is in
    let same3 : (c.give_turn-then-not-makes_task.new.seat.table ≡ s1.table) × (c.give_turn-then-not-makes_task.new.seat.number ≡ s1.number) = (
      c.give_turn-then-not-makes_task.ensures.same.0 ∙ ap (λ (z : SeatValue Entry). z.table) s2_is,
      c.give_turn-then-not-makes_task.ensures.same.1 ∙ ap (λ (z : SeatValue Entry). z.number) s2_is,
    ) in
    let whole = c.in-Ok.ensures.whole in
    (turned_all c.requires.task x m' t c.args.made call r same1 same3 made none e.world creds e.stands e.later whole is, childless)

pub returns-then-not-makes_task-clause-cost : goal.returns-then-not-makes_task-clause-cost
returns-then-not-makes_task-clause-cost g c =
    let took = c.take_turn-machine.ensures.counted.0 in
    let gave = c.give_turn-then-not-makes_task.ensures.counted.loads in
    let rows = ap rows_of c.give_turn-then-not-makes_task.ensures.seen in
    let same = ap (λ (s : SeatValue Entry). rows_of s.view.journal) c.fork_in_turn-forked.ensures.same in
    let cost = c.fork_in_turn-forked.ensures.cost in
    omega arith

pub returns-then-not-makes_task-clause-once : goal.returns-then-not-makes_task-clause-once
returns-then-not-makes_task-clause-once g c =
    let took = c.take_turn-machine.ensures.counted.0 in
    let gave = c.give_turn-then-not-makes_task.ensures.counted.loads in
    let once = c.in-Ok.ensures.once in
    omega arith

pub returns-then-not-makes_task-clause-looks : goal.returns-then-not-makes_task-clause-looks
returns-then-not-makes_task-clause-looks g c =
    let took = c.take_turn-machine.ensures.counted.1 in
    let same = ap (λ (s : SeatValue Entry). s.view.looks) c.fork_in_turn-forked.ensures.same in
    let gave = c.give_turn-then-not-makes_task.ensures.counted.looks in
    omega arith

pub returns-then-not-makes_task-clause-penless : goal.returns-then-not-makes_task-clause-penless
returns-then-not-makes_task-clause-penless g c =
    c.give_turn-then-not-makes_task.ensures.counted.pens
    ∙ (ap (λ (s : SeatValue Entry). s.view.pens) c.fork_in_turn-forked.ensures.same ∙ c.take_turn-machine.ensures.counted.2)

pub give_with_child-child-requires-clause-may : goal.give_with_child-child-requires-clause-may
give_with_child-child-requires-clause-may g c =
    let s = c.args.seat.now in
    let loads = c.fork_in_turn-forked.new.seat.view.loads in
    let s1 = with_loads loads c.take_turn-machine.new.seat in
    let same1 = c.take_turn-machine.ensures.same in
    let t = turns_loaded world_means loads c.take_turn-machine.ensures.turn in
    let x = c.take_turn-machine.result in
    let m' = c.fork_in_turn-forked.new.machine in
    let seq = c.args.made + 1 in
    let call = Call.Task (TaskCall.Fork c.args.pid) in
    let e = c.fork_in_turn-forked.ensures in
    let s2_is : c.fork_in_turn-forked.new.seat ≡ s1 = e.same in
    let creds = e.creds ∙ ap (creds_of m'.world) same1.1 in
    let some = some_made c.in-Ok.turned (sym c.makes_task.ensures ∙ c.if-not-makes_task.false) in
    let r = some.0 in
    let is_entry = some.1 in
    let k = some.2.0 in
    let is_child = some.2.1 in
    let made : IsMade x m' (ruling s1.view.journal) s.number seq call (Turned.Entry r) =
    subst (λ (z : ℕ × Turned). IsMade x m' (ruling s1.view.journal) z.0 seq call z.1)
    (λ i. (same1.1 i, is_entry i)) c.in-Ok.ensures.made in
    let may = may_fork c.requires.task x m' t c.args.made c.args.pid r made k is_child e.world in
    let entry = told_entry s.number seq call r.version r.checks r.reply in
    (entry, subst (λ (z : SeatValue Entry). MayFork z.view m' entry) (sym s2_is) may)

pub invariant_of-result : goal.invariant_of-result
invariant_of-result g c =
    let s = c.args.seat.now in
    let loads = c.fork_in_turn-forked.new.seat.view.loads in
    let s1 = with_loads loads c.take_turn-machine.new.seat in
    let same1 = c.take_turn-machine.ensures.same in
    let t = turns_loaded world_means loads c.take_turn-machine.ensures.turn in
    let x = c.take_turn-machine.result in
    let m' = c.fork_in_turn-forked.new.machine in
    let seq = c.args.made + 1 in
    let call = Call.Task (TaskCall.Fork c.args.pid) in
    let e = c.fork_in_turn-forked.ensures in
    let s2_is : c.fork_in_turn-forked.new.seat ≡ s1 = e.same in
    let creds = e.creds ∙ ap (creds_of m'.world) same1.1 in
    let some = some_made c.in-Ok.turned (sym c.makes_task.ensures ∙ c.if-not-makes_task.false) in
    let r = some.0 in
    let is_entry = some.1 in
    let k = some.2.0 in
    let is_child = some.2.1 in
    let made : IsMade x m' (ruling s1.view.journal) s.number seq call (Turned.Entry r) =
    subst (λ (z : ℕ × Turned). IsMade x m' (ruling s1.view.journal) z.0 seq call z.1)
    (λ i. (same1.1 i, is_entry i)) c.in-Ok.ensures.made in
    let may = may_fork c.requires.task x m' t c.args.made c.args.pid r made k is_child e.world in
    let entry = told_entry s.number seq call r.version r.checks r.reply in
    let h = c.give_with_child-child.result in
    let s3 = c.give_with_child-child.new.seat in
    let hist : m'.trail ≡ c.fork_in_turn-forked.new.seat.view.history ++ entry ∷ [] =
    may.history ∙ ap (λ (z : SeatValue Entry). z.view.history ++ entry ∷ []) (sym s2_is) in
    let f : Forks s1.view s3.view h.view h.number entry =
    subst (λ (z : SeatValue Entry). Forks z.view s3.view h.view h.number entry) s2_is
    (c.give_with_child-child.ensures.forks entry hist) in
    let g = c.give_with_child-child.ensures.same in
    let table : s3.table ≡ s.table = g.0 ∙ (ap (λ (z : SeatValue Entry). z.table) s2_is ∙ same1.0) in
    let number : s3.number ≡ s.number = g.1 ∙ (ap (λ (z : SeatValue Entry). z.number) s2_is ∙ same1.1) in
    let child_table : h.table ≡ s3.table = g.2 ∙ sym g.0 in
    let heritage = c.in-Ok.ensures.heritage in (
      subst (λ (z : Index). IsTaskState h z.rules z.rows c.in-Ok.heritage.creds) (sym heritage.0)
          (child_task c.requires.task x m' t c.args.made c.args.pid r made k is_child e.world f table number child_table creds e.stands e.later c.in-Ok.ensures.whole heritage.1),
      omega arith,
    )

pub returns-in-Err-clause-task : goal.returns-in-Err-clause-task
returns-in-Err-clause-task g c =
    let s = c.args.seat.now in
    let loads = c.fork_in_turn-forked.new.seat.view.loads in
    let s1 = with_loads loads c.take_turn-machine.new.seat in
    let same1 = c.take_turn-machine.ensures.same in
    let t = turns_loaded world_means loads c.take_turn-machine.ensures.turn in
    let x = c.take_turn-machine.result in
    let m' = c.fork_in_turn-forked.new.machine in
    let seq = c.args.made + 1 in
    let call = Call.Task (TaskCall.Fork c.args.pid) in
    let e = c.fork_in_turn-forked.ensures in
    let s2_is : c.fork_in_turn-forked.new.seat ≡ s1 = e.same in
    let creds = e.creds ∙ ap (creds_of m'.world) same1.1 in
    let r : Result Turned (ℕ × Call) = Err (0, call) in
    let made : Unit {0} = tt in
    let none = c.in-Err.ensures.err in
    let entries = entries_made s.number seq call r in
    let hist : m'.trail ≡ c.fork_in_turn-forked.new.seat.view.history ++ entries =
    trail_made s1.view.journal x m' s.number seq call r made none
    ∙ ap (λ z. z ++ entries) (t.is ∙ sym (ap (λ (z : SeatValue Entry). z.view.history) s2_is)) in
    let is : c.give_turn.new.seat.view ≡ given s1.view entries = c.give_turn.ensures.given entries hist
    ∙ ap (λ (z : SeatValue Entry). given z.view entries) s2_is in
    let same3 : (c.give_turn.new.seat.table ≡ s1.table) × (c.give_turn.new.seat.number ≡ s1.number) = (
      c.give_turn.ensures.same.0 ∙ ap (λ (z : SeatValue Entry). z.table) s2_is,
      c.give_turn.ensures.same.1 ∙ ap (λ (z : SeatValue Entry). z.number) s2_is,
    ) in
    let whole : Unit {0} = tt in
    task_turned c.requires.task x m' t c.args.made call r same1 same3 made none e.world creds e.stands e.later whole is

pub returns-in-Err-clause-stays : goal.returns-in-Err-clause-stays
returns-in-Err-clause-stays g c =
    let s = c.args.seat.now in
    let loads = c.fork_in_turn-forked.new.seat.view.loads in
    let s1 = with_loads loads c.take_turn-machine.new.seat in
    let same1 = c.take_turn-machine.ensures.same in
    let t = turns_loaded world_means loads c.take_turn-machine.ensures.turn in
    let x = c.take_turn-machine.result in
    let m' = c.fork_in_turn-forked.new.machine in
    let seq = c.args.made + 1 in
    let call = Call.Task (TaskCall.Fork c.args.pid) in
    let e = c.fork_in_turn-forked.ensures in
    let s2_is : c.fork_in_turn-forked.new.seat ≡ s1 = e.same in
    let creds = e.creds ∙ ap (creds_of m'.world) same1.1 in
    let r : Result Turned (ℕ × Call) = Err (0, call) in
    let made : Unit {0} = tt in
    let none = c.in-Err.ensures.err in
    let entries = entries_made s.number seq call r in
    let hist : m'.trail ≡ c.fork_in_turn-forked.new.seat.view.history ++ entries =
    trail_made s1.view.journal x m' s.number seq call r made none
    ∙ ap (λ z. z ++ entries) (t.is ∙ sym (ap (λ (z : SeatValue Entry). z.view.history) s2_is)) in
    let is : c.give_turn.new.seat.view ≡ given s1.view entries = c.give_turn.ensures.given entries hist
    ∙ ap (λ (z : SeatValue Entry). given z.view entries) s2_is in
    let same3 : (c.give_turn.new.seat.table ≡ s1.table) × (c.give_turn.new.seat.number ≡ s1.number) = (
      c.give_turn.ensures.same.0 ∙ ap (λ (z : SeatValue Entry). z.table) s2_is,
      c.give_turn.ensures.same.1 ∙ ap (λ (z : SeatValue Entry). z.number) s2_is,
    ) in
    let whole : Unit {0} = tt in
    (back_all c.requires.task x m' t c.args.made call r same1 same3 made none e.world creds e.stands e.later whole is (λ _. call)).1

pub returns-in-Err-clause-cost : goal.returns-in-Err-clause-cost
returns-in-Err-clause-cost g c =
    let took = c.take_turn-machine.ensures.counted.0 in
    let gave = c.give_turn.ensures.counted.loads in
    let rows = ap rows_of c.give_turn.ensures.seen in
    let same = ap (λ (s : SeatValue Entry). rows_of s.view.journal) c.fork_in_turn-forked.ensures.same in
    let cost = c.fork_in_turn-forked.ensures.cost in
    omega arith

pub returns-in-Err-clause-looks : goal.returns-in-Err-clause-looks
returns-in-Err-clause-looks g c =
    let took = c.take_turn-machine.ensures.counted.1 in
    let same = ap (λ (s : SeatValue Entry). s.view.looks) c.fork_in_turn-forked.ensures.same in
    let gave = c.give_turn.ensures.counted.looks in
    omega arith

pub returns-in-Err-clause-penless : goal.returns-in-Err-clause-penless
returns-in-Err-clause-penless g c =
    c.give_turn.ensures.counted.pens
    ∙ (ap (λ (s : SeatValue Entry). s.view.pens) c.fork_in_turn-forked.ensures.same ∙ c.take_turn-machine.ensures.counted.2)

pub returns-else-not-makes_task-clause-task : goal.returns-else-not-makes_task-clause-task
returns-else-not-makes_task-clause-task g c =
    let s = c.args.seat.now in
    let loads = c.fork_in_turn-forked.new.seat.view.loads in
    let s1 = with_loads loads c.take_turn-machine.new.seat in
    let same1 = c.take_turn-machine.ensures.same in
    let t = turns_loaded world_means loads c.take_turn-machine.ensures.turn in
    let x = c.take_turn-machine.result in
    let m' = c.fork_in_turn-forked.new.machine in
    let seq = c.args.made + 1 in
    let call = Call.Task (TaskCall.Fork c.args.pid) in
    let e = c.fork_in_turn-forked.ensures in
    let s2_is : c.fork_in_turn-forked.new.seat ≡ s1 = e.same in
    let creds = e.creds ∙ ap (creds_of m'.world) same1.1 in
    let some = some_made c.in-Ok.turned (sym c.makes_task.ensures ∙ c.if-not-makes_task.false) in
    let r = some.0 in
    let is_entry = some.1 in
    let k = some.2.0 in
    let is_child = some.2.1 in
    let made : IsMade x m' (ruling s1.view.journal) s.number seq call (Turned.Entry r) =
    subst (λ (z : ℕ × Turned). IsMade x m' (ruling s1.view.journal) z.0 seq call z.1)
    (λ i. (same1.1 i, is_entry i)) c.in-Ok.ensures.made in
    let may = may_fork c.requires.task x m' t c.args.made c.args.pid r made k is_child e.world in
    let entry = told_entry s.number seq call r.version r.checks r.reply in
    let h = c.give_with_child-child.result in
    let s3 = c.give_with_child-child.new.seat in
    let hist : m'.trail ≡ c.fork_in_turn-forked.new.seat.view.history ++ entry ∷ [] =
    may.history ∙ ap (λ (z : SeatValue Entry). z.view.history ++ entry ∷ []) (sym s2_is) in
    let f : Forks s1.view s3.view h.view h.number entry =
    subst (λ (z : SeatValue Entry). Forks z.view s3.view h.view h.number entry) s2_is
    (c.give_with_child-child.ensures.forks entry hist) in
    let g = c.give_with_child-child.ensures.same in
    let table : s3.table ≡ s.table = g.0 ∙ (ap (λ (z : SeatValue Entry). z.table) s2_is ∙ same1.0) in
    let number : s3.number ≡ s.number = g.1 ∙ (ap (λ (z : SeatValue Entry). z.number) s2_is ∙ same1.1) in
    let child_table : h.table ≡ s3.table = g.2 ∙ sym g.0 in
    let heritage = c.in-Ok.ensures.heritage in
    task_forked c.requires.task x m' t c.args.made c.args.pid r made k is_child e.world f table number child_table creds e.stands e.later c.in-Ok.ensures.whole heritage.1

pub returns-else-not-makes_task-clause-branched : goal.returns-else-not-makes_task-clause-branched
returns-else-not-makes_task-clause-branched g c =
    let s = c.args.seat.now in
    let loads = c.fork_in_turn-forked.new.seat.view.loads in
    let s1 = with_loads loads c.take_turn-machine.new.seat in
    let same1 = c.take_turn-machine.ensures.same in
    let t = turns_loaded world_means loads c.take_turn-machine.ensures.turn in
    let x = c.take_turn-machine.result in
    let m' = c.fork_in_turn-forked.new.machine in
    let seq = c.args.made + 1 in
    let call = Call.Task (TaskCall.Fork c.args.pid) in
    let e = c.fork_in_turn-forked.ensures in
    let s2_is : c.fork_in_turn-forked.new.seat ≡ s1 = e.same in
    let creds = e.creds ∙ ap (creds_of m'.world) same1.1 in
    let some = some_made c.in-Ok.turned (sym c.makes_task.ensures ∙ c.if-not-makes_task.false) in
    let r = some.0 in
    let is_entry = some.1 in
    let k = some.2.0 in
    let is_child = some.2.1 in
    let made : IsMade x m' (ruling s1.view.journal) s.number seq call (Turned.Entry r) =
    subst (λ (z : ℕ × Turned). IsMade x m' (ruling s1.view.journal) z.0 seq call z.1)
    (λ i. (same1.1 i, is_entry i)) c.in-Ok.ensures.made in
    let may = may_fork c.requires.task x m' t c.args.made c.args.pid r made k is_child e.world in
    let entry = told_entry s.number seq call r.version r.checks r.reply in
    let h = c.give_with_child-child.result in
    let s3 = c.give_with_child-child.new.seat in
    let hist : m'.trail ≡ c.fork_in_turn-forked.new.seat.view.history ++ entry ∷ [] =
    may.history ∙ ap (λ (z : SeatValue Entry). z.view.history ++ entry ∷ []) (sym s2_is) in
    let f : Forks s1.view s3.view h.view h.number entry =
    subst (λ (z : SeatValue Entry). Forks z.view s3.view h.view h.number entry) s2_is
    (c.give_with_child-child.ensures.forks entry hist) in
    let g = c.give_with_child-child.ensures.same in
    let table : s3.table ≡ s.table = g.0 ∙ (ap (λ (z : SeatValue Entry). z.table) s2_is ∙ same1.0) in
    let number : s3.number ≡ s.number = g.1 ∙ (ap (λ (z : SeatValue Entry). z.number) s2_is ∙ same1.1) in
    let child_table : h.table ≡ s3.table = g.2 ∙ sym g.0 in
    let heritage = c.in-Ok.ensures.heritage in
    let v = task_of s c.args.basis.now.index.rules c.args.made c.args.basis.now.creds in
    let w = task_of s3 c.fork_in_turn-forked.new.basis.index.rules c.args.made c.fork_in_turn-forked.new.basis.creds in
    let is_turned = subst (λ q. IsTurned v w call q) (sym is_entry) (calls_forked c.requires.task x m' t c.args.made c.args.pid r made k is_child e.world f table number child_table creds e.stands e.later c.in-Ok.ensures.whole heritage.1) in
    let named = ap task_made is_entry ∙ child_named c.requires.task x m' t c.args.made c.args.pid r made k is_child e.world f table number child_table creds e.stands e.later c.in-Ok.ensures.whole heritage.1 in
    let starts = subst (λ (z : Index). Starts w (task_of h z.rules 0 c.in-Ok.heritage.creds) h.number) (sym heritage.0)
    (child_starts c.requires.task x m' t c.args.made c.args.pid r made k is_child e.world f table number child_table creds e.stands e.later c.in-Ok.ensures.whole heritage.1 c.args.made) in
    (is_turned, named, starts)

pub returns-else-not-makes_task-clause-cost : goal.returns-else-not-makes_task-clause-cost
returns-else-not-makes_task-clause-cost g c =
    let took = c.take_turn-machine.ensures.counted.0 in
    let gave = c.give_with_child-child.ensures.counted.loads in
    let rows = rows_begin c.give_with_child-child.ensures.seen in
    let same = ap (λ (s : SeatValue Entry). rows_of s.view.journal) c.fork_in_turn-forked.ensures.same in
    let cost = c.fork_in_turn-forked.ensures.cost in
    omega arith

pub returns-else-not-makes_task-clause-once : goal.returns-else-not-makes_task-clause-once
returns-else-not-makes_task-clause-once g c =
    let took = c.take_turn-machine.ensures.counted.0 in
    let gave = c.give_with_child-child.ensures.counted.loads in
    let once = c.in-Ok.ensures.once in
    omega arith

pub returns-else-not-makes_task-clause-looks : goal.returns-else-not-makes_task-clause-looks
returns-else-not-makes_task-clause-looks g c =
    let took = c.take_turn-machine.ensures.counted.1 in
    let same = ap (λ (s : SeatValue Entry). s.view.looks) c.fork_in_turn-forked.ensures.same in
    let gave = c.give_with_child-child.ensures.counted.looks in
    omega arith

pub returns-else-not-makes_task-clause-penless : goal.returns-else-not-makes_task-clause-penless
returns-else-not-makes_task-clause-penless g c =
    c.give_with_child-child.ensures.counted.pens
    ∙ (ap (λ (s : SeatValue Entry). s.view.pens) c.fork_in_turn-forked.ensures.same ∙ c.take_turn-machine.ensures.counted.2)
