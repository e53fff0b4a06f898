-- What a call does to the tasks: how many they are after it, and which calls begin a task or end one.
use Rattle.std.proofs.Common.{◌≡◌, ◌<◌, ℕ, zero, suc, false, List, [], ◌∷◌, length, Option, Some, None, refl, ap, arith}
use Rattle.std.proofs.lemmas.Bool.{ne_eqb}
use Rattle.smack_base.specs.declared.ids.Pid.{Pid}
use Rattle.rules_spec.specs.Rulings.{Ruling}
use Rattle.world_spec.specs.declared.tasks.TaskCall.{TaskCall}
use Rattle.world_spec.specs.declared.tasks.TaskCall.TheVariants as TaskCall
use Rattle.world_spec.specs.declared.Call.{Call}
use Rattle.world_spec.specs.declared.Call.TheVariants as Call
use Rattle.world_spec.specs.declared.Answer.{Answer}
use Rattle.world_spec.specs.declared.Answer.TheVariants as Answer
use Rattle.world_spec.specs.Replies.{answered, child_of, is_number, makes}
use Rattle.world_spec.specs.Worlds.{World, TaskRow, changed_at, live_task}
use Rattle.world_spec.specs.TaskCalls.{TaskEffect, NoChange, NewCreds, LifeEnds, NewChild, NewSignal, SignalTaken, tasks_after, signalled, task_left}
use Rattle.world_spec.specs.TreeCalls.{tree_left}
use Rattle.world_spec.specs.Steps.{task_reply, effect}

-- no task begins
abbrev pub BeginsNone : TaskEffect → Type 0
BeginsNone (NewChild pid) = ⊥
BeginsNone change = Unit {0}

-- no task ends
abbrev pub EndsNone : TaskEffect → Type 0
EndsNone LifeEnds = ⊥
EndsNone change = Unit {0}

signalled_begins : (n : Option ℕ) (sig : ℕ) → BeginsNone (signalled n sig)
signalled_begins None sig = tt
signalled_begins (Some n) sig = tt

signalled_ends : (n : Option ℕ) (sig : ℕ) → EndsNone (signalled n sig)
signalled_ends None sig = tt
signalled_ends (Some n) sig = tt

-- a call that is no fork begins no task
pub begins_none : (w : World) (version : Ruling) (task : ℕ) (call : TaskCall) → ((pid : Pid) → call ≡ TaskCall.Fork pid → ⊥)
    → BeginsNone (task_left w version task call).change
begins_none w version task (TaskCall.Fork pid) other = absurd (other pid refl)
begins_none w version task (TaskCall.Kill pid sig) other = signalled_begins (live_task w.tasks pid) sig
begins_none w version task call other = tt

-- a call that is no exit ends no task
pub ends_none : (w : World) (version : Ruling) (task : ℕ) (call : TaskCall) → (call ≡ TaskCall.Exit → ⊥)
    → EndsNone (task_left w version task call).change
ends_none w version task TaskCall.Exit other = absurd (other refl)
ends_none w version task (TaskCall.Kill pid sig) other = signalled_ends (live_task w.tasks pid) sig
ends_none w version task call other = tt

pub length_changed : (rows : List TaskRow) (n : ℕ) (f : TaskRow → TaskRow) → length (changed_at rows n f) ≡ length rows
length_changed [] n f = refl
length_changed (r ∷ rs) zero f = refl
length_changed (r ∷ rs) (suc n) f = let h = length_changed rs n f in omega arith

-- where no task begins they are as many
pub length_after : (rows : List TaskRow) (task : ℕ) (change : TaskEffect) → BeginsNone change → length (tasks_after rows task change) ≡ length rows
length_after rows task NoChange none = refl
length_after rows task (NewCreds creds) none = length_changed rows task _
length_after rows task LifeEnds none = length_changed rows task _
length_after rows task (NewChild pid) none = absurd none
length_after rows task (NewSignal n sig) none = length_changed rows n _
length_after rows task SignalTaken none = length_changed rows task _

-- an answer tells of no child
pub answer_childless : (answer : Answer) → child_of (answered answer) ≡ None
answer_childless Answer.Ok = refl
answer_childless (Answer.Signal sig) = refl
answer_childless (Answer.Names count names) = refl

pub change_childless : (rows : List TaskRow) (change : TaskEffect) (answer : Answer) → BeginsNone change → child_of (task_reply rows change answer) ≡ None
change_childless rows (NewChild pid) answer none = absurd none
change_childless rows change answer none = answer_childless answer

-- no call makes a task that is there
change_unmade : (rows : List TaskRow) (k : ℕ) (change : TaskEffect) (answer : Answer) → k < length rows → makes k (task_reply rows change answer) ≡ false
change_unmade rows k (NewChild pid) answer there = ne_eqb (length rows) k (λ same. omega (arith, there, same))
change_unmade rows k change answer there = ap (is_number k) (answer_childless answer)

pub effect_unmade : (w : World) (version : Ruling) (task k : ℕ) (call : Call) → k < length w.tasks → makes k (effect w version task call).reply ≡ false
effect_unmade w version task k (Call.Task call) there =
    let left = task_left w version task call in change_unmade w.tasks k left.change left.answer there
effect_unmade w version task k (Call.Tree call) there = ap (is_number k) (answer_childless (tree_left w version task call).answer)
