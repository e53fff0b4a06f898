use Rattle.std.proofs.Common.{◌≡◌, ◌<◌, ◌≤◌, ℕ, zero, suc, ◌+◌, Bool, true, false, ◌&&◌, ◌==◌, not, nat_le, List, [], ◌∷◌, ◌++◌, length, refl, sym, ap, ◌∙◌, arith, Option, Some, None}
use Rattle.std.specs.List.{position_or_len}
use Rattle.std.proofs.lemmas.Bool.{ne_eqb, eq-eqb, lt-ltb}
use Rattle.smack_base.specs.declared.ids.Pid.{Pid}
use Rattle.rules_spec.specs.declared.Verdict.{Verdict}
use Rattle.rules_spec.specs.Rulings.{Ruling}
use Rattle.world_spec.specs.declared.tasks.TaskCall.TheVariants as TaskCall
use Rattle.world_spec.specs.declared.Call.{Call}
use Rattle.world_spec.specs.declared.Call.TheVariants as Call
use Rattle.world_spec.specs.declared.Reply.{Reply}
use Rattle.world_spec.specs.Worlds.{World, TaskRow, was_made, live_task, is_live, creds_of, changed_at, with_child, without_life, most_tasks}
use Rattle.world_spec.specs.Steps.{asks, went, verdict_of, Effect, effect, stepped, step}
use Rattle.world_spec.specs.TaskCalls.{TaskEffect, NoChange, NewCreds, LifeEnds, NewChild, NewSignal, SignalTaken, tasks_after, task_left}
use Rattle.world_laws.proofs.Changes.{BeginsNone, EndsNone, begins_none, ends_none, length_changed}

-- Tasks from a number on: each has its number as its pid, and is live unless it has exited.
abbrev pub AreNumbered : (ℕ → Bool) → ℕ → List TaskRow → Type 0
AreNumbered exited k [] = Unit {0}
AreNumbered exited k (r ∷ rs) = (r.pid.0 ≡ k) × (r.live ≡ not (exited k)) × AreNumbered exited (k + 1) rs

-- a change that leaves pid and life of a task as they are
abbrev pub KeepsTask : (TaskRow → TaskRow) → Type 0
KeepsTask change = (r : TaskRow) → ((change r).pid.0 ≡ r.pid.0) × ((change r).live ≡ r.live)

pub changed_numbered : (exited : ℕ → Bool) (k : ℕ) (tasks : List TaskRow) (n : ℕ) (change : TaskRow → TaskRow) → KeepsTask change
    → AreNumbered exited k tasks → AreNumbered exited k (changed_at tasks n change)
changed_numbered exited k [] n change keeps are = tt
changed_numbered exited k (r ∷ rs) zero change keeps are = ((keeps r).0 ∙ are.0, (keeps r).1 ∙ are.1, are.2)
changed_numbered exited k (r ∷ rs) (suc n) change keeps are = (are.0, are.1, changed_numbered exited (k + 1) rs n change keeps are.2)

-- the same tasks, where the same ones have exited
pub same_exits : (exited exited' : ℕ → Bool) (k : ℕ) (tasks : List TaskRow) → ((j : ℕ) → k ≤ j → exited' j ≡ exited j)
    → AreNumbered exited k tasks → AreNumbered exited' k tasks
same_exits exited exited' k [] same are = tt
same_exits exited exited' k (r ∷ rs) same are =
    (are.0, are.1 ∙ ap not (sym (same k (omega arith))), same_exits exited exited' (k + 1) rs (λ j past. same j (omega (arith, past))) are.2)

-- one of them exits
pub exit_numbered : (exited exited' : ℕ → Bool) (k : ℕ) (tasks : List TaskRow) (n : ℕ) → exited' (k + n) ≡ true
    → ((j : ℕ) → (j ≡ k + n → ⊥) → exited' j ≡ exited j) → AreNumbered exited k tasks → AreNumbered exited' k (without_life tasks n)
exit_numbered exited exited' k [] n gone others are = tt
exit_numbered exited exited' k (r ∷ rs) zero gone others are =
    let here : exited' k ≡ true = ap exited' (omega arith) ∙ gone in
    (are.0, sym (ap not here), same_exits exited exited' (k + 1) rs (λ j past. others j (λ e. omega (arith, past, e))) are.2)
exit_numbered exited exited' k (r ∷ rs) (suc n) gone others are =
    let sum : k + suc n ≡ (k + 1) + n = omega arith in (
      are.0,
      are.1 ∙ ap not (sym (others k (λ e. omega (arith, e)))),
      exit_numbered exited exited' (k + 1) rs n (ap exited' (sym sum) ∙ gone) (λ j apart. others j (λ e. apart (e ∙ sum))) are.2,
    )

-- one more is made
pub push_numbered : (exited : ℕ → Bool) (k : ℕ) (tasks : List TaskRow) (row : TaskRow) → row.pid.0 ≡ k + length tasks → row.live ≡ true
    → exited (k + length tasks) ≡ false → AreNumbered exited k tasks → AreNumbered exited k (tasks ++ row ∷ [])
push_numbered exited k [] row pid live stays are =
    let here : exited k ≡ false = ap exited (omega arith) ∙ stays in
    (omega (arith, pid), live ∙ ap not (sym here), tt)
push_numbered exited k (r ∷ rs) row pid live stays are =
    let sum : k + length (r ∷ rs) ≡ (k + 1) + length rs = omega arith in
    (are.0, are.1, push_numbered exited (k + 1) rs row (pid ∙ sum) live (ap exited (sym sum) ∙ stays) are.2)

no_more : (b : Bool) → (b && false) ≡ false
no_more true = refl
no_more false = refl

-- the live task of a pid has it as its number
abbrev has_pid : ℕ → TaskRow → Bool
has_pid pid r = r.live && (r.pid.0 == pid)

place_numbered : (exited : ℕ → Bool) (k : ℕ) (tasks : List TaskRow) (n pid : ℕ) → pid ≡ k + n → n < length tasks → exited pid ≡ false
    → AreNumbered exited k tasks → position_or_len (has_pid pid) tasks ≡ n
place_numbered exited k [] n pid at within stays are = absurd (omega (arith, within))
place_numbered exited k (r ∷ rs) zero pid at within stays are =
    let own : r.pid.0 ≡ pid = omega (arith, are.0, at) in
    let here : exited k ≡ false = ap exited (omega (arith, at)) ∙ stays in
    let live : r.live ≡ true = are.1 ∙ ap not here in
    rw (live, eq-eqb r.pid.0 pid own) refl
place_numbered exited k (r ∷ rs) (suc n) pid at within stays are =
    let other : (r.pid.0 == pid) ≡ false = ne_eqb r.pid.0 pid (λ e. omega (arith, e, are.0, at)) in
    let rest = place_numbered exited (k + 1) rs n pid (omega (arith, at)) (omega (arith, within)) stays are.2 in
    rw (other, no_more r.live, rest) (omega arith)

pub live_numbered : (exited : ℕ → Bool) (tasks : List TaskRow) (pid : ℕ) → pid < length tasks → exited pid ≡ false → AreNumbered exited 0 tasks
    → live_task tasks (record { 0 = pid }) ≡ Some pid
live_numbered exited tasks pid within stays are =
    let place = place_numbered exited 0 tasks pid pid (omega arith) within stays are in
    rw (place, lt-ltb pid (length tasks) within) refl

-- no task ever had a pid that comes after all of theirs
pub none_made : (exited : ℕ → Bool) (k : ℕ) (tasks : List TaskRow) (pid : ℕ) → k + length tasks ≤ pid → AreNumbered exited k tasks
    → was_made tasks (record { 0 = pid }) ≡ false
none_made exited k [] pid past are = refl
none_made exited k (r ∷ rs) pid past are =
    let other : (r.pid.0 == pid) ≡ false = ne_eqb r.pid.0 pid (λ e. omega (arith, e, are.0, past)) in
    rw other (none_made exited (k + 1) rs pid (omega (arith, past)) are.2)

-- the task of a number is live unless it has exited
pub row_is_live : (exited : ℕ → Bool) (k : ℕ) (tasks : List TaskRow) (n : ℕ) → n < length tasks → exited (k + n) ≡ false → AreNumbered exited k tasks
    → is_live tasks n ≡ true
row_is_live exited k [] n within stays are = absurd (omega (arith, within))
row_is_live exited k (r ∷ rs) zero within stays are =
    let here : exited k ≡ false = ap exited (omega arith) ∙ stays in are.1 ∙ ap not here
row_is_live exited k (r ∷ rs) (suc n) within stays are =
    let sum : (k + 1) + n ≡ k + suc n = omega arith in
    row_is_live exited (k + 1) rs n (omega (arith, within)) (ap exited sum ∙ stays) are.2

-- a call that neither makes a task nor ends one
abbrev pub IsQuiet : Call → Type 0
IsQuiet (Call.Task (TaskCall.Fork pid)) = ⊥
IsQuiet (Call.Task TaskCall.Exit) = ⊥
IsQuiet call = Unit {0}

-- the tasks after a call are numbered, and are as many
pub record AreKept (exited : ℕ → Bool) (before after : List TaskRow) : Type 0 where
  pub numbered : AreNumbered exited 0 after
  pub many : length after ≡ length before

changed_kept : (exited : ℕ → Bool) (tasks : List TaskRow) (n : ℕ) (change : TaskRow → TaskRow) → KeepsTask change → AreNumbered exited 0 tasks
    → AreKept exited tasks (changed_at tasks n change)
changed_kept exited tasks n change keeps are = record { numbered = changed_numbered exited 0 tasks n change keeps are; many = length_changed tasks n change }

same_kept : (exited : ℕ → Bool) (tasks : List TaskRow) → AreNumbered exited 0 tasks → AreKept exited tasks tasks
same_kept exited tasks are = record { numbered = are; many = refl }

change_kept : (exited : ℕ → Bool) (tasks : List TaskRow) (task : ℕ) (change : TaskEffect) → BeginsNone change → EndsNone change
    → AreNumbered exited 0 tasks → AreKept exited tasks (tasks_after tasks task change)
change_kept exited tasks task NoChange begins ends are = same_kept exited tasks are
change_kept exited tasks task (NewCreds creds) begins ends are = changed_kept exited tasks task _ (λ r. (refl, refl)) are
change_kept exited tasks task LifeEnds begins ends are = absurd ends
change_kept exited tasks task (NewChild pid) begins ends are = absurd begins
change_kept exited tasks task (NewSignal n sig) begins ends are = changed_kept exited tasks n _ (λ r. (refl, refl)) are
change_kept exited tasks task SignalTaken begins ends are = changed_kept exited tasks task _ (λ r. (refl, refl)) are

effect_kept : (exited : ℕ → Bool) (w : World) (version : Ruling) (task : ℕ) (call : Call) → IsQuiet call → AreNumbered exited 0 w.tasks
    → AreKept exited w.tasks (effect w version task call).world.tasks
effect_kept exited w version task (Call.Task (TaskCall.Fork pid)) quiet are = absurd quiet
effect_kept exited w version task (Call.Task TaskCall.Exit) quiet are = absurd quiet
effect_kept exited w version task (Call.Task call) quiet are =
    change_kept exited w.tasks task (task_left w version task call).change
    (begins_none w version task call (λ pid e. cc)) (ends_none w version task call (λ e. cc)) are
effect_kept exited w version task (Call.Tree call) quiet are = same_kept exited w.tasks are

stepped_kept : (exited : ℕ → Bool) (w : World) (e : Effect) (checks : List Verdict) (stop : Option Reply) → AreNumbered exited 0 w.tasks
    → AreKept exited w.tasks e.world.tasks → AreKept exited w.tasks (stepped w e checks stop).world.tasks
stepped_kept exited w e checks None are kept = kept
stepped_kept exited w e checks (Some reply) are kept = same_kept exited w.tasks are

-- a quiet call keeps the tasks
pub quiet_kept : (exited : ℕ → Bool) (w : World) (version : Ruling) (task : ℕ) (call : Call) → IsQuiet call → AreNumbered exited 0 w.tasks
    → AreKept exited w.tasks (step w version task call).world.tasks
quiet_kept exited w version task call quiet are =
    let through = went (verdict_of w version) (asks w version task call) in
    stepped_kept exited w (effect w version task call) through.checks through.stop are (effect_kept exited w version task call quiet are)

-- an exit of a live task takes its life, and a fork with a new pid makes a task, where there is room
pub exit_done : (w : World) (version : Ruling) (task : ℕ) → is_live w.tasks task ≡ true
    → (step w version task (Call.Task TaskCall.Exit)).world.tasks ≡ without_life w.tasks task
exit_done w version task live = rw live refl

pub fork_done : (w : World) (version : Ruling) (task : ℕ) (pid : Pid) → is_live w.tasks task ≡ true → was_made w.tasks pid ≡ false
    → nat_le most_tasks (length w.tasks) ≡ false → (step w version task (Call.Task (TaskCall.Fork pid))).world.tasks ≡ with_child w.tasks pid (creds_of w task)
fork_done w version task pid live new room = rw (live, new, room) refl
