-- No two tasks of a world have one pid.
use Rattle.std.proofs.Common.{◌≡◌, ℕ, zero, suc, ◌==◌, eq-eqb, ◌||◌, Bool, true, false, not, nat_le, List, [], ◌∷◌, length, sym, refl, ap, ◌∙◌, Option, Some, None}
use Rattle.std.specs.List.{list_any}
use Rattle.std.proofs.lemmas.List.Folds.{list_any-append}
use Rattle.smack_base.specs.declared.ids.Pid.{Pid}
use Rattle.rules_spec.specs.declared.Batch.{Batch}
use Rattle.rules_spec.specs.declared.Verdict.{Verdict}
use Rattle.rules_spec.specs.Rulings.{Ruling}
use Rattle.world_spec.specs.declared.Why.TheVariants as Why
use Rattle.world_spec.specs.declared.Part.TheVariants as Part
use Rattle.world_spec.specs.declared.tasks.TaskCall.TheVariants as TaskCall
use Rattle.world_spec.specs.declared.Call.{Call}
use Rattle.world_spec.specs.declared.Reply.{Reply}
use Rattle.world_spec.specs.declared.Entry.{Entry}
use Rattle.world_spec.specs.Worlds.{World, TaskRow, is_of_pid, was_made, is_live, changed_at, creds_in, creds_or_first, creds_of, task_begun, most_tasks}
use Rattle.world_spec.specs.TaskCalls.{TaskEffect, NoChange, NewCreds, LifeEnds, NewChild, NewSignal, SignalTaken, tasks_after, task_left}
use Rattle.world_spec.specs.Steps.{Effect, effect, stepped, went, verdict_of, step}
use Rattle.world_spec.specs.Replays.{AreSteps, version_of, after_entry}
use Rattle.legal_spec.specs.Calls.{Stands, IsForkOf}
use Rattle.run_laws.proofs.Lists.{same_some}

module _ (pid : Pid) where
  made_changed : (rows : List TaskRow) (n : ℕ) (f : TaskRow → TaskRow) → ((r : TaskRow) → (f r).pid ≡ r.pid)
      → was_made (changed_at rows n f) pid ≡ was_made rows pid
  made_changed [] n f same = refl
  made_changed (r ∷ rs) zero f same = ap (λ (p : Pid). (p.0 == pid.0) || list_any (is_of_pid pid) rs) (same r)
  made_changed (r ∷ rs) (suc n) f same = ap (λ b. is_of_pid pid r || b) (made_changed rs n f same)

  change_made : (rows : List TaskRow) (task : ℕ) (change : TaskEffect) → was_made rows pid ≡ true → was_made (tasks_after rows task change) pid ≡ true
  change_made rows task NoChange is = is
  change_made rows task (NewCreds creds) is = made_changed rows task _ (λ r. refl) ∙ is
  change_made rows task LifeEnds is = made_changed rows task _ (λ r. refl) ∙ is
  change_made rows task (NewChild p) is =
      let child = task_begun p (creds_or_first (creds_in rows task)) ∷ [] in
      list_any-append (is_of_pid pid) rows child ∙ ap (λ b. b || list_any (is_of_pid pid) child) is
  change_made rows task (NewSignal n sig) is = made_changed rows n _ (λ r. refl) ∙ is
  change_made rows task SignalTaken is = made_changed rows task _ (λ r. refl) ∙ is

  effect_made : (w : World) (version : Ruling) (task : ℕ) (call : Call) → was_made w.tasks pid ≡ true
      → was_made (effect w version task call).world.tasks pid ≡ true
  effect_made w version task (Call.Task call) is = change_made w.tasks task (task_left w version task call).change is
  effect_made w version task (Call.Tree call) is = is

  stepped_made : (w : World) (e : Effect) (checks : List Verdict) (stop : Option Reply) → was_made w.tasks pid ≡ true
      → was_made e.world.tasks pid ≡ true → was_made (stepped w e checks stop).world.tasks pid ≡ true
  stepped_made w e checks None was is = is
  stepped_made w e checks (Some reply) was is = was

  step_made : (w : World) (version : Ruling) (task : ℕ) (call : Call) → was_made w.tasks pid ≡ true
      → was_made (step w version task call).world.tasks pid ≡ true
  step_made w version task call is = stepped_made w (effect w version task call) _ _ is (effect_made w version task call is)

  or_so : (b : Bool) → (b || true) ≡ true
  or_so true = refl
  or_so false = refl

  -- a fork that makes a task has a pid that no task had, and then one has it
  fork_new : (w : World) (version : Ruling) (task k : ℕ) → (step w version task (Call.Task (TaskCall.Fork pid))).reply ≡ Reply.Child k
      → (was_made w.tasks pid ≡ false) × (was_made (step w version task (Call.Task (TaskCall.Fork pid))).world.tasks pid ≡ true)
  fork_new w version task k = by (not (is_live w.tasks task)) (was_made w.tasks pid) (nat_le most_tasks (length w.tasks)) refl
    where
      by : (dead made full : Bool) → was_made w.tasks pid ≡ made
          → (stepped w (effect w version task (Call.Task (TaskCall.Fork pid)))
          (went (verdict_of w version) (Part.Refuses dead Why.NoSuchTask ∷ Part.Refuses made Why.Exists ∷ Part.Refuses full (Why.TasksFull most_tasks) ∷ [])).checks
          (went (verdict_of w version) (Part.Refuses dead Why.NoSuchTask ∷ Part.Refuses made Why.Exists ∷ Part.Refuses full (Why.TasksFull most_tasks) ∷ [])).stop).reply ≡ Reply.Child k
          → (was_made w.tasks pid ≡ false)
          × (was_made (stepped w (effect w version task (Call.Task (TaskCall.Fork pid)))
          (went (verdict_of w version) (Part.Refuses dead Why.NoSuchTask ∷ Part.Refuses made Why.Exists ∷ Part.Refuses full (Why.TasksFull most_tasks) ∷ [])).checks
          (went (verdict_of w version) (Part.Refuses dead Why.NoSuchTask ∷ Part.Refuses made Why.Exists ∷ Part.Refuses full (Why.TasksFull most_tasks) ∷ [])).stop).world.tasks pid ≡ true)
      by true made full e is = cc
      by false true full e is = cc
      by false false true e is = cc
      by false false false e is = (
        e,
        list_any-append (is_of_pid pid) w.tasks (task_begun pid (creds_of w task) ∷ [])
            ∙ (ap (λ b. list_any (is_of_pid pid) w.tasks || (b || false)) (eq-eqb pid.0 pid.0 refl) ∙ or_so (list_any (is_of_pid pid) w.tasks)),
      )

  true_false : (b : Bool) → b ≡ true → b ≡ false → ⊥
  true_false true is not = cc
  true_false false is not = cc

  fork_step : (j : List Batch) (w : World) (e : Entry) (k : ℕ) → e.reply ≡ (step w (version_of j e.version) e.task e.call).reply
      → IsForkOf e k pid → (was_made w.tasks pid ≡ false) × (was_made (after_entry j w e).tasks pid ≡ true)
  fork_step j w e k replied is =
      let new = fork_new w (version_of j e.version) e.task k
      (ap (λ c. (step w (version_of j e.version) e.task c).reply) (sym is.0) ∙ (sym replied ∙ is.1)) in
      (new.0, ap (λ c. was_made (step w (version_of j e.version) e.task c).world.tasks pid) is.0 ∙ new.1)

  -- no fork makes a task of a pid that a task had
  pub no_fork : (j : List Batch) (w : World) (es : List Entry) (n : ℕ) (e : Entry) (k : ℕ) → AreSteps j w es → was_made w.tasks pid ≡ true
      → Stands es n e → IsForkOf e k pid → ⊥
  no_fork j w [] n e k steps made st is = cc
  no_fork j w (x ∷ es) zero e k steps made st is =
      let same = same_some x e st in
      true_false (was_made w.tasks pid) made
      (fork_step j w x k steps.1 (ap (λ (y : Entry). y.call) same ∙ is.0, ap (λ (y : Entry). y.reply) same ∙ is.1)).0
  no_fork j w (x ∷ es) (suc n) e k steps made st is =
      no_fork j (after_entry j w x) es n e k steps.2 (step_made w (version_of j x.version) x.task x.call made) st is

  -- two forks of one pid are one
  pub one_fork : (j : List Batch) (w : World) (es : List Entry) (n m : ℕ) (e f : Entry) (k i : ℕ) → AreSteps j w es → Stands es n e
      → Stands es m f → IsForkOf e k pid → IsForkOf f i pid → n ≡ m
  one_fork j w [] n m e f k i steps st sf is it = cc
  one_fork j w (x ∷ es) zero zero e f k i steps st sf is it = refl
  one_fork j w (x ∷ es) zero (suc m) e f k i steps st sf is it =
      let same = same_some x e st in
      let made = (fork_step j w x k steps.1 (ap (λ (y : Entry). y.call) same ∙ is.0, ap (λ (y : Entry). y.reply) same ∙ is.1)).1 in
      absurd (no_fork j (after_entry j w x) es m f i steps.2 made sf it)
  one_fork j w (x ∷ es) (suc n) zero e f k i steps st sf is it =
      let same = same_some x f sf in
      let made = (fork_step j w x i steps.1 (ap (λ (y : Entry). y.call) same ∙ it.0, ap (λ (y : Entry). y.reply) same ∙ it.1)).1 in
      absurd (no_fork j (after_entry j w x) es n e k steps.2 made st is)
  one_fork j w (x ∷ es) (suc n) (suc m) e f k i steps st sf is it =
      ap (λ y. suc y) (one_fork j (after_entry j w x) es n m e f k i steps.2 st sf is it)
