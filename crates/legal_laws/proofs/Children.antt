use Rattle.std.proofs.Common.{◌≡◌, ◌<◌, ℕ, Bool, true, false, not, if◌then◌else◌, List, [], ◌∷◌, length, refl, sym, arith, Option, Some, None}
use Rattle.std.specs.Prelude.{nat_le}
use Rattle.smack_base.specs.declared.ids.Pid.{Pid}
use Rattle.rules_spec.specs.declared.Verdict.{Verdict}
use Rattle.rules_spec.specs.Rulings.{Ruling}
use Rattle.world_spec.specs.declared.Why.TheVariants as Why
use Rattle.world_spec.specs.declared.Question.{Question}
use Rattle.world_spec.specs.declared.Part.{Part}
use Rattle.world_spec.specs.declared.Part.TheVariants as Part
use Rattle.world_spec.specs.declared.tasks.TaskCall.TheVariants as TaskCall
use Rattle.world_spec.specs.declared.Call.{Call}
use Rattle.world_spec.specs.declared.Call.TheVariants as Call
use Rattle.world_spec.specs.declared.Reply.{Reply}
use Rattle.world_spec.specs.declared.Reply.TheVariants as Reply
use Rattle.world_spec.specs.Worlds.{World, was_made, is_live, most_tasks}
use Rattle.world_spec.specs.Steps.{asks, Went, went, verdict_of, Effect, effect, stepped, step}
use Rattle.world_spec.specs.Replies.{makes}
use Rattle.world_laws.proofs.Changes.{effect_unmade}

abbrev makes_at_stop : ℕ → Option Reply → Bool
makes_at_stop k None = false
makes_at_stop k (Some reply) = makes k reply

-- a call that is refused or denied makes no task
none_at_stop : (k : ℕ) (verdict : Question → Verdict) (parts : List Part) → makes_at_stop k (went verdict parts).stop ≡ false
none_at_stop k verdict [] = refl
none_at_stop k verdict (Part.Refuses holds why ∷ more) = by holds (none_at_stop k verdict more)
  where
    by : (holds : Bool) → makes_at_stop k (went verdict more).stop ≡ false
        → makes_at_stop k (if◌then◌else◌ {A = Went} holds (record { checks = []; stop = Some (Reply.Refused why) }) (went verdict more)).stop ≡ false
    by true rest = refl
    by false rest = rest
none_at_stop k verdict (Part.Asks question ∷ more) = by (verdict question).allowed (none_at_stop k verdict more)
  where
    by : (allowed : Bool) → makes_at_stop k (went verdict more).stop ≡ false
        → makes_at_stop k (if◌then◌else◌ {A = Went} allowed
        (record { checks = verdict question ∷ (went verdict more).checks; stop = (went verdict more).stop })
        (record { checks = verdict question ∷ []; stop = Some (Reply.Denied (verdict question).case) })).stop ≡ false
    by true rest = rest
    by false rest = refl

stepped_makes : (w : World) (k : ℕ) (e : Effect) (checks : List Verdict) (stop : Option Reply) → makes_at_stop k stop ≡ false
    → makes k e.reply ≡ false → makes k (stepped w e checks stop).reply ≡ false
stepped_makes w k e checks None stops none = none
stepped_makes w k e checks (Some reply) stops none = stops

pub step_makes : (w : World) (version : Ruling) (task k : ℕ) (call : Call) → k < length w.tasks → makes k (step w version task call).reply ≡ false
step_makes w version task k call there =
    let through = went (verdict_of w version) (asks w version task call) in
    stepped_makes w k (effect w version task call) through.checks through.stop (none_at_stop k (verdict_of w version) (asks w version task call))
    (effect_unmade w version task k call there)

same_number : (a b : ℕ) → Reply.Child a ≡ Reply.Child b → a ≡ b
same_number a b is = cc

-- a fork that makes a task gives it the next number
pub fork_number : (w : World) (version : Ruling) (task : ℕ) (pid : Pid) (k : ℕ) → (step w version task (Call.Task (TaskCall.Fork pid))).reply ≡ Reply.Child k
    → k ≡ length w.tasks
fork_number w version task pid k =
    by (not (is_live w.tasks task)) (was_made w.tasks pid) (nat_le most_tasks (length w.tasks))
  where
    by : (dead made full : Bool)
        → (stepped w (effect w version task (Call.Task (TaskCall.Fork pid)))
        (went (verdict_of w version) (Part.Refuses dead Why.NoSuchTask ∷ Part.Refuses made Why.Exists ∷ Part.Refuses full (Why.TasksFull most_tasks) ∷ [])).checks
        (went (verdict_of w version) (Part.Refuses dead Why.NoSuchTask ∷ Part.Refuses made Why.Exists ∷ Part.Refuses full (Why.TasksFull most_tasks) ∷ [])).stop).reply ≡ Reply.Child k
        → k ≡ length w.tasks
    by true made full is = cc
    by false true full is = cc
    by false false true is = cc
    by false false false is = sym (same_number (length w.tasks) k is)

-- it does make one, where the caller is live, the pid is new, and there is room
pub fork_replies : (w : World) (version : Ruling) (task : ℕ) (pid : Pid) → is_live w.tasks task ≡ true → was_made w.tasks pid ≡ false
    → nat_le most_tasks (length w.tasks) ≡ false → (step w version task (Call.Task (TaskCall.Fork pid))).reply ≡ Reply.Child (length w.tasks)
fork_replies w version task pid live new room = rw (live, new, room) refl
