-- What a call that goes through does to the credentials of its caller.
use Rattle.std.proofs.Common.{◌≡◌, ℕ, zero, suc, ◌<◌, Bool, true, false, List, [], ◌∷◌, length, Option, Some, None, refl, sym, ap, ◌∙◌, subst, arith, length-append}
use Rattle.std.specs.Prelude.{MatchOption}
use Rattle.smack_base.specs.declared.ids.Pid.{Pid}
use Rattle.rules_spec.specs.Rulings.{Ruling}
use Rattle.rules_spec.specs.Creds.{Creds}
use Rattle.world_spec.specs.declared.Call.{Call}
use Rattle.world_spec.specs.declared.Call.TheVariants as Call
use Rattle.world_spec.specs.declared.tasks.TaskCall.{TaskCall}
use Rattle.world_spec.specs.declared.tasks.TaskCall.TheVariants as TaskCall
use Rattle.world_spec.specs.Worlds.{World, TaskRow, creds_in, creds_or_first, creds_of, task_begun, with_child, live_task}
use Rattle.world_spec.specs.TaskCalls.{TaskEffect, NoChange, NewCreds, LifeEnds, NewChild, NewSignal, SignalTaken, tasks_after, signalled, task_left}
use Rattle.world_spec.specs.Steps.{effect}
use Rattle.world_laws.proofs.Changes.{length_changed}
use Rattle.world_laws.proofs.Keeping.{same_creds}
use Rattle.smack_world.specs.Renewing.{task_renews, renews}
use Rattle.smack_world.specs.Stepping.{HandsOut}

-- a change of the tasks that gives the caller no credentials
abbrev KeepsOwn : TaskEffect → Type 0
KeepsOwn (NewCreds creds) = ⊥
KeepsOwn change = Unit {0}

signal_keeps : (n : Option ℕ) (sig : ℕ) → KeepsOwn (signalled n sig)
signal_keeps None sig = tt
signal_keeps (Some n) sig = tt

call_keeps : (w : World) (version : Ruling) (task : ℕ) (call : TaskCall) → task_renews call ≡ false
    → KeepsOwn (task_left w version task call).change
call_keeps w version task (TaskCall.Relabel l) kept = absurd (let is : true ≡ false = kept in cc)
call_keeps w version task (TaskCall.DropCap cap) kept = absurd (let is : true ≡ false = kept in cc)
call_keeps w version task (TaskCall.SelfRules rules) kept = absurd (let is : true ≡ false = kept in cc)
call_keeps w version task (TaskCall.Relabels labels) kept = absurd (let is : true ≡ false = kept in cc)
call_keeps w version task (TaskCall.Kill pid sig) kept = signal_keeps (live_task w.tasks pid) sig
call_keeps w version task call kept = tt

child_keeps : (rows : List TaskRow) (pid : Pid) (c : Creds) (k : ℕ) → k < length rows
    → creds_in (with_child rows pid c) k ≡ creds_in rows k
child_keeps [] pid c k low = absurd (omega arith)
child_keeps (r ∷ rs) pid c zero low = refl
child_keeps (r ∷ rs) pid c (suc k) low = child_keeps rs pid c k (omega arith)

change_keeps : (rows : List TaskRow) (task : ℕ) (change : TaskEffect) → KeepsOwn change → task < length rows
    → creds_in (tasks_after rows task change) task ≡ creds_in rows task
change_keeps rows task NoChange keeps low = refl
change_keeps rows task (NewCreds creds) keeps low = absurd keeps
change_keeps rows task LifeEnds keeps low = same_creds rows task task _ (λ r. refl)
change_keeps rows task (NewChild pid) keeps low = child_keeps rows pid _ task low
change_keeps rows task (NewSignal n sig) keeps low = same_creds rows n task _ (λ r. refl)
change_keeps rows task SignalTaken keeps low = same_creds rows task task _ (λ r. refl)

-- a call that renews nothing leaves its caller the credentials
pub effect_keeps : (w : World) (version : Ruling) (task : ℕ) (call : Call) → renews call ≡ false → task < length w.tasks
    → creds_of (effect w version task call).world task ≡ creds_of w task
effect_keeps w version task (Call.Task call) kept low = ap creds_or_first
    (change_keeps w.tasks task (task_left w version task call).change (call_keeps w version task call kept) low)
effect_keeps w version task (Call.Tree call) kept low = refl

change_leaves : (rows : List TaskRow) (task : ℕ) (change : TaskEffect) → task < length rows
    → task < length (tasks_after rows task change)
change_leaves rows task NoChange low = low
change_leaves rows task (NewCreds creds) low = let l = length_changed rows task (λ r. record r { creds = creds }) in omega arith
change_leaves rows task LifeEnds low = let l = length_changed rows task (λ r. record r { live = false }) in omega arith
change_leaves rows task (NewChild pid) low =
    let l = length-append rows (task_begun pid (creds_or_first (creds_in rows task)) ∷ []) in omega arith
change_leaves rows task (NewSignal n sig) low = subst (λ l. task < l) (sym (length_changed rows n _)) low
change_leaves rows task SignalTaken low = subst (λ l. task < l) (sym (length_changed rows task _)) low

-- a caller is there after its call
pub effect_leaves : (w : World) (version : Ruling) (task : ℕ) (call : Call) → task < length w.tasks
    → task < length (effect w version task call).world.tasks
effect_leaves w version task (Call.Task call) low = change_leaves w.tasks task (task_left w version task call).change low
effect_leaves w version task (Call.Tree call) low = low

-- What a call leaves its caller with is handed out where there is room for it, and there is where the call may renew it.
pub handed : (w after : World) (version : Ruling) (task : ℕ) (call : Call) (has_room : Bool) (creds : Option Creds)
    → after ≡ (effect w version task call).world → task < length w.tasks → has_room ≡ renews call
    → MatchOption creds (has_room ≡ false) (λ c. c ≡ creds_of after task) → HandsOut w after task creds
handed w after version task call has_room None is low room none =
    ap (λ (z : World). creds_of z task) is ∙ effect_keeps w version task call (sym room ∙ none) low
handed w after version task call has_room (Some c) is low room some = some
