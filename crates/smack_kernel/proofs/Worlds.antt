-- What a step does to the number of tasks, and what a replay keeps of a task.
use Rattle.std.proofs.Common.{◌≡◌, ◌≢◌, ℕ, zero, suc, ◌+◌, ◌<◌, ◌≤◌, Bool, true, false, if◌then◌else◌, List, [], ◌∷◌, ◌++◌, length, fold, Option, Some, None, refl, sym, ap, subst, ◌∙◌, arith, length-append, eq-eqb, ne_eqb}
use Rattle.std.proofs.lemmas.Bool.Decides.{nat_tests}
use Rattle.std.proofs.lemmas.List.Sums.{fold-append}
use Rattle.std.specs.Prelude.{nat_le, not}
use Rattle.rules_spec.specs.declared.Batch.{Batch}
use Rattle.rules_spec.specs.declared.Verdict.{Verdict}
use Rattle.rules_spec.specs.Rulings.{Ruling}
use Rattle.rules_spec.specs.Creds.{Creds}
use Rattle.world_spec.specs.declared.Call.{Call}
use Rattle.world_spec.specs.declared.Call.TheVariants as Call
use Rattle.world_spec.specs.declared.tasks.TaskCall.TheVariants as TaskCall
use Rattle.world_spec.specs.declared.Entry.{Entry}
use Rattle.world_spec.specs.declared.Part.{Part}
use Rattle.world_spec.specs.declared.Part.TheVariants as Part
use Rattle.world_spec.specs.declared.Question.{Question}
use Rattle.world_spec.specs.declared.Why.{Why}
use Rattle.world_spec.specs.declared.Why.TheVariants as Why
use Rattle.world_spec.specs.declared.Reply.{Reply}
use Rattle.world_spec.specs.declared.Reply.TheVariants as Reply
use Rattle.world_spec.specs.Worlds.{World, TaskRow, world_first, creds_of, is_live, was_made, task_begun, most_tasks}
use Rattle.world_spec.specs.Steps.{asks, Effect, Went, went, asked, verdict_of, effect, stepped, step}
use Rattle.world_spec.specs.TaskCalls.{task_left}
use Rattle.world_spec.specs.TreeCalls.{tree_left}
use Rattle.world_spec.specs.Replies.{makes}
use Rattle.world_spec.specs.Replays.{AreSteps, StandsOver, version_of, step_of, after_entry, replay_of}
use Rattle.world_laws.proofs.Changes.{begins_none, length_after, answer_childless, change_childless}
use Rattle.world_laws.proofs.Keeping.{others_keep}
use Rattle.world_laws.proofs.Standing.{longer_stands}
use Rattle.live_table.specs.Lists.{Begins}
use Rattle.live_table.specs.Machines.{made, entries_by, makes as counts}
use Rattle.live_table.proofs.Lists.{those-append}
use Rattle.world_spec.specs.Replies.{child_of}
use Rattle.smack_kernel.specs.Histories.{world_means}
use Rattle.smack_kernel.specs.Tasks.{AreSeen}
use Rattle.smack_kernel.specs.Answers.{is_fork_call}

-- a reply that ends a call before its effect
abbrev pub IsStop : Reply → Type 0
IsStop (Reply.Denied case) = Unit {0}
IsStop (Reply.Refused why) = Unit {0}
IsStop reply = ⊥

abbrev pub Stops : Option Reply → Type 0
Stops None = Unit {0}
Stops (Some reply) = IsStop reply

abbrev stop_of : Went → Option Reply
stop_of w = w.stop

either_stops : (b : Bool) (x y : Went) → Stops x.stop → Stops y.stop → Stops (stop_of (if b then x else y))
either_stops true x y p q = p
either_stops false x y p q = q

asked_stops : (v : Verdict) (more : Went) → Stops more.stop → Stops (asked v more).stop
asked_stops v more h = either_stops v.allowed (record { checks = v ∷ more.checks; stop = more.stop })
    (record { checks = v ∷ []; stop = Some (Reply.Denied v.case) }) h tt

pub went_stops : (verdict : Question → Verdict) (parts : List Part) → Stops (went verdict parts).stop
went_stops verdict [] = tt
went_stops verdict (Part.Refuses true why ∷ more) = tt
went_stops verdict (Part.Refuses false why ∷ more) = went_stops verdict more
went_stops verdict (Part.Asks q ∷ more) = asked_stops (verdict q) (went verdict more) (went_stops verdict more)

-- a part that does not refuse
pub through : (verdict : Question → Verdict) (holds : Bool) (why : Why) (more : List Part)
    → (went verdict (Part.Refuses holds why ∷ more)).stop ≡ None → (holds ≡ false) × ((went verdict more).stop ≡ None)
through verdict true why more e = absurd (let e' : ◌≡◌ {A = Option Reply} (Some (Reply.Refused why)) None = e in cc)
through verdict false why more e = (refl, e)

-- The tasks before were n and are m: one more with the next number, where the call is a fork and replies a child, and
-- else as many.
abbrev pub MakesNext : ℕ → Bool → Option ℕ → ℕ → Type 0
MakesNext n fork None m = m ≡ n
MakesNext n fork (Some k) m = (k ≡ n) × (m ≡ n + 1) × (n < 64) × (fork ≡ true)

none_next : (n : ℕ) (fork : Bool) (o : Option ℕ) (m : ℕ) → o ≡ None → m ≡ n → MakesNext n fork o m
none_next n fork None m none same = same
none_next n fork (Some k) m none same = cc

few_tasks : (n : ℕ) → nat_le 64 n ≡ false → n < 64
few_tasks n e = grind (arith, nat_tests)

effect_makes : (w : World) (version : Ruling) (task : ℕ) (call : Call)
    → (went (verdict_of w version) (asks w version task call)).stop ≡ None
    → MakesNext (length w.tasks) (is_fork_call call) (child_of (effect w version task call).reply)
    (length (effect w version task call).world.tasks)
effect_makes w version task (Call.Task (TaskCall.Fork pid)) none =
    let full = Part.Refuses (nat_le most_tasks (length w.tasks)) (Why.TasksFull most_tasks) ∷ [] in
    let a = through (verdict_of w version) (not (is_live w.tasks task)) Why.NoSuchTask
    (Part.Refuses (was_made w.tasks pid) Why.Exists ∷ full) none in
    let b = through (verdict_of w version) (was_made w.tasks pid) Why.Exists full a.1 in
    let c = through (verdict_of w version) (nat_le most_tasks (length w.tasks)) (Why.TasksFull most_tasks) [] b.1 in
    let l = length-append w.tasks (task_begun pid (creds_of w task) ∷ []) in
    (refl, omega arith, few_tasks (length w.tasks) c.0, refl)
effect_makes w version task (Call.Task call) none =
    let change = (task_left w version task call).change in
    let begins = begins_none w version task call (λ pid e. cc) in
    none_next (length w.tasks) false _ _ (change_childless w.tasks change (task_left w version task call).answer begins)
    (length_after w.tasks task change begins)
effect_makes w version task (Call.Tree call) none =
    none_next (length w.tasks) false _ _ (answer_childless (tree_left w version task call).answer) refl

pub stop_child : (reply : Reply) → IsStop reply → child_of reply ≡ None
stop_child (Reply.Child n) s = absurd s
stop_child reply s = refl

stepped_makes : (w : World) (fork : Bool) (e : Effect) (checks : List Verdict) (stop : Option Reply) → Stops stop
    → (stop ≡ None → MakesNext (length w.tasks) fork (child_of e.reply) (length e.world.tasks))
    → MakesNext (length w.tasks) fork (child_of (stepped w e checks stop).reply)
    (length (stepped w e checks stop).world.tasks)
stepped_makes w fork e checks (Some reply) stops makes =
    subst (λ o. MakesNext (length w.tasks) fork o (length w.tasks)) (sym (stop_child reply stops)) refl
stepped_makes w fork e checks None stops makes = makes refl

-- a step makes the next task, or none
pub step_makes : (w : World) (version : Ruling) (task : ℕ) (call : Call)
    → MakesNext (length w.tasks) (is_fork_call call) (child_of (step w version task call).reply)
    (length (step w version task call).world.tasks)
step_makes w version task call =
    let through = went (verdict_of w version) (asks w version task call) in
    stepped_makes w (is_fork_call call) (effect w version task call) through.checks through.stop
    (went_stops (verdict_of w version) (asks w version task call)) (effect_makes w version task call)

next_counts : (n : ℕ) (fork : Bool) (o : Option ℕ) (m : ℕ) → MakesNext n fork o m → m ≡ n + counts world_means o
next_counts n fork None m h = omega (arith, h)
next_counts n fork (Some k) m h = h.1

next_longer : (n : ℕ) (fork : Bool) (o : Option ℕ) (m : ℕ) → MakesNext n fork o m → n ≤ m
next_longer n fork None m h = omega (arith, h)
next_longer n fork (Some k) m h = omega (arith, h.1)

-- no task is made but by a fork
pub next_plain : (n : ℕ) (fork : Bool) (o : Option ℕ) (m : ℕ) → MakesNext n fork o m → fork ≡ false → o ≡ None
next_plain n fork None m h plain = refl
next_plain n fork (Some k) m h plain = absurd (let is = h.3 in let e : true ≡ false = sym is ∙ plain in cc)

unmade : (reply : Reply) (n : ℕ) (fork : Bool) (m k : ℕ) → MakesNext n fork (child_of reply) m → k < n
    → makes k reply ≡ false
unmade (Reply.Child x) n fork m k h l = ne_eqb x k (λ e. let is = h.0 in absurd (omega arith))
unmade reply n fork m k h l = refl

-- a task that a step finds stays
pub step_alive : (w : World) (version : Ruling) (task : ℕ) (call : Call) (k : ℕ) → k < length w.tasks
    → k < length (step w version task call).world.tasks
step_alive w version task call k l =
    let more = next_longer _ _ _ _ (step_makes w version task call) in omega arith

-- there are as many tasks as entries made, and the first
pub replay_made : (journal : List Batch) (w : World) (es : List Entry) → AreSteps journal w es
    → length (fold (after_entry journal) w es).tasks ≡ length w.tasks + made world_means es
replay_made journal w [] steps = omega arith
replay_made journal w (e ∷ es) steps =
    let rest = replay_made journal (after_entry journal w e) es steps.2 in
    let one = next_counts _ _ _ _ (step_makes w (version_of journal e.version) e.task e.call) in
    let same : counts world_means (child_of e.reply) ≡ counts world_means (child_of (step_of journal w e).reply) =
    ap (λ r. counts world_means (child_of r)) steps.1 in
    omega arith

module _ (k : ℕ) where
  other_task : (e : Entry) (es : List Entry) → entries_by world_means k (e ∷ es) ≡ [] → e.task ≢ k
  other_task e es none same = absurd
      (let z : e ∷ entries_by world_means k es ≡ [] = sym (rw (eq-eqb e.task k same)) ∙ none in cc)

  others_left : (e : Entry) (es : List Entry) → entries_by world_means k (e ∷ es) ≡ []
      → entries_by world_means k es ≡ []
  others_left e es none = sym (rw (ne_eqb e.task k (other_task e es none))) ∙ none

  -- the calls of others leave a task its credentials
  fold_keeps : (journal : List Batch) (w : World) (es : List Entry) → AreSteps journal w es → k < length w.tasks
      → entries_by world_means k es ≡ []
      → (k < length (fold (after_entry journal) w es).tasks) × (creds_of (fold (after_entry journal) w es) k ≡ creds_of w k)
  fold_keeps journal w [] steps low none = (low, refl)
  fold_keeps journal w (e ∷ es) steps low none =
      let version = version_of journal e.version in
      let rest = fold_keeps journal (after_entry journal w e) es steps.2 (step_alive w version e.task e.call k low)
      (others_left e es none) in (
        rest.0,
        rest.1 ∙ others_keep w version e.task k e.call (other_task e es none)
            (unmade _ _ _ _ k (step_makes w version e.task e.call) low),
      )

steps_behind : (journal : List Batch) (w : World) (xs ys : List Entry) → AreSteps journal w (xs ++ ys)
    → AreSteps journal (fold (after_entry journal) w xs) ys
steps_behind journal w [] ys steps = steps
steps_behind journal w (x ∷ xs) ys steps = steps_behind journal (after_entry journal w x) xs ys steps.2

no_more : (k : ℕ) (h rest : List Entry) → entries_by world_means k (h ++ rest) ≡ entries_by world_means k h
    → entries_by world_means k rest ≡ []
no_more k h rest same = nothing (entries_by world_means k rest)
    (let all = ap length (sym (those-append (λ (e : Entry). e.task) k h rest) ∙ same) in
    let both = length-append (entries_by world_means k h) (entries_by world_means k rest) in omega arith)
  where
    nothing : (l : List Entry) → length l ≡ 0 → l ≡ []
    nothing [] e = refl
    nothing (x ∷ l) e = absurd (omega arith)

-- a world that stands for a history is the one that it leaves
pub are_seen : {journal : List Batch} {history : List Entry} {w : World} → StandsOver journal history w
    → AreSeen journal history
are_seen s = record { world = refl; steps = s.steps; versions = s.versions }

module _ {j j' : List Batch} {h : List Entry} (b : Begins j' j) (s : AreSeen j h) where
  longer : StandsOver j' h (replay_of j h)
  longer = subst (λ z. StandsOver z h (replay_of j h)) (sym b.is) (longer_stands j b.rest h (replay_of j h) s)

  pub seen_longer : AreSeen j' h
  seen_longer = are_seen longer

  pub replay_longer : replay_of j h ≡ replay_of j' h
  replay_longer = longer.world

-- the task of a number has these credentials
abbrev pub IsLive : World → ℕ → Creds → Type 0
IsLive w k c = (k < length w.tasks) × (c ≡ creds_of w k)

-- what others enter leaves a task its credentials
pub live_kept : {j j' : List Batch} {h h' : List Entry} (k : ℕ) (c : Creds) → AreSeen j h → AreSeen j' h' → Begins j' j
    → Begins h' h → entries_by world_means k h' ≡ entries_by world_means k h → IsLive (replay_of j h) k c
    → IsLive (replay_of j' h') k c
live_kept {j} {j'} {h} {h'} k c seen seen' b more same live =
    let start = subst (λ w. IsLive w k c) (replay_longer b seen) live in
    let steps = steps_behind j' world_first h more.rest (subst (AreSteps j' world_first) more.is seen'.steps) in
    let kept = fold_keeps k j' (replay_of j' h) more.rest steps start.0
    (no_more k h more.rest (ap (entries_by world_means k) (sym more.is) ∙ same)) in
    let all : replay_of j' h' ≡ fold (after_entry j') (replay_of j' h) more.rest =
    ap (replay_of j') more.is ∙ fold-append (after_entry j') world_first h more.rest in
    subst (λ w. IsLive w k c) (sym all) (kept.0, start.1 ∙ sym kept.1)
