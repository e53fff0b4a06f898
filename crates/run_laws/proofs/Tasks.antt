-- The tasks of the world before an entry: which are live, and which pids they have.
use Rattle.std.proofs.Common.{◌≡◌, ◌≢◌, ℕ, zero, suc, ◌<◌, ◌⊎◌, ◌||◌, Bool, true, false, not, nat_le, List, [], ◌∷◌, ◌++◌, length, take, fold, sym, refl, ap, ◌∙◌, subst, arith, Option, Some, None, ⊎_elim, inl, inr, eq-eqb}
use Rattle.std.proofs.lemmas.Bool.{eqb-true}
use Rattle.smack_base.specs.declared.ids.Pid.{Pid}
use Rattle.rules_spec.specs.declared.Batch.{Batch}
use Rattle.rules_spec.specs.declared.Verdict.{Verdict}
use Rattle.rules_spec.specs.Rulings.{Ruling}
use Rattle.world_spec.specs.declared.Why.TheVariants as Why
use Rattle.world_spec.specs.declared.Part.TheVariants as Part
use Rattle.world_spec.specs.declared.tasks.TaskCall.TheVariants as TaskCall
use Rattle.world_spec.specs.declared.Call.{Call}
use Rattle.world_spec.specs.declared.Reply.{Reply}
use Rattle.world_spec.specs.declared.Entry.{Entry}
use Rattle.world_spec.specs.Worlds.{World, TaskRow, is_of_pid, was_made, is_live, changed_at, creds_of, task_begun, most_tasks}
use Rattle.world_spec.specs.TaskCalls.{TaskEffect, NoChange, NewCreds, LifeEnds, NewChild, NewSignal, SignalTaken, tasks_after, task_left}
use Rattle.world_spec.specs.Steps.{Effect, effect, stepped, went, verdict_of, step}
use Rattle.world_spec.specs.Replays.{AreSteps, version_of, after_entry}
use Rattle.world_laws.proofs.Changes.{BeginsNone, EndsNone, begins_none, ends_none}
use Rattle.legal_laws.proofs.Children.{fork_number}
use Rattle.legal_spec.specs.Calls.{Stands, IsForkOf}
use Rattle.live_table.specs.Lists.{Has, here, there}
use Rattle.live_table.proofs.Lists.{has_either}
use Rattle.runs_spec.specs.Runs.{Distinct}
use Rattle.runs_spec.proofs.Runs.{distinct-append}
use Rattle.run_laws.proofs.Lists.{same_some}

-- the world before the entry of a place
abbrev pub world_before : List Batch → World → List Entry → ℕ → World
world_before j w es n = fold (after_entry j) w (take n es)

-- the reply of an entry is that of its call in the world before it
pub replied_at : (j : List Batch) (w : World) (es : List Entry) (n : ℕ) (e : Entry) → AreSteps j w es → Stands es n e
    → e.reply ≡ (step (world_before j w es n) (version_of j e.version) e.task e.call).reply
replied_at j w [] n e steps st = cc
replied_at j w (x ∷ es) zero e steps st =
    subst (λ (y : Entry). y.reply ≡ (step w (version_of j y.version) y.task y.call).reply) (same_some x e st) steps.1
replied_at j w (x ∷ es) (suc n) e steps st = replied_at j (after_entry j w x) es n e steps.2 st

-- Life

changed_live : (rows : List TaskRow) (n k : ℕ) (f : TaskRow → TaskRow) → ((r : TaskRow) → (f r).live ≡ r.live)
    → is_live (changed_at rows n f) k ≡ is_live rows k
changed_live [] n k f same = refl
changed_live (r ∷ rs) zero zero f same = same r
changed_live (r ∷ rs) zero (suc k) f same = refl
changed_live (r ∷ rs) (suc n) zero f same = refl
changed_live (r ∷ rs) (suc n) (suc k) f same = changed_live rs n k f same

other_live : (rows : List TaskRow) (n k : ℕ) (f : TaskRow → TaskRow) → n ≢ k → is_live (changed_at rows n f) k ≡ is_live rows k
other_live [] n k f ne = refl
other_live (r ∷ rs) zero zero f ne = absurd (ne refl)
other_live (r ∷ rs) zero (suc k) f ne = refl
other_live (r ∷ rs) (suc n) zero f ne = refl
other_live (r ∷ rs) (suc n) (suc k) f ne = other_live rs n k f (λ e. ne (ap (λ (x : ℕ). suc x) e))

live_more : (rows more : List TaskRow) (k : ℕ) → is_live rows k ≡ true → is_live (rows ++ more) k ≡ true
live_more [] more k is = cc
live_more (r ∷ rs) more zero is = is
live_more (r ∷ rs) more (suc k) is = live_more rs more k is

live_last : (rows : List TaskRow) (r : TaskRow) → r.live ≡ true → is_live (rows ++ r ∷ []) (length rows) ≡ true
live_last [] r is = is
live_last (x ∷ rs) r is = live_last rs r is

-- a task goes on living where the call is not its exit
module _ (k : ℕ) where
  change_live : (rows : List TaskRow) (task : ℕ) (change : TaskEffect) → (task ≡ k → EndsNone change) → is_live rows k ≡ true
      → is_live (tasks_after rows task change) k ≡ true
  change_live rows task NoChange stays is = is
  change_live rows task (NewCreds creds) stays is = changed_live rows task k _ (λ r. refl) ∙ is
  change_live rows task LifeEnds stays is = other_live rows task k _ stays ∙ is
  change_live rows task (NewChild pid) stays is = live_more rows _ k is
  change_live rows task (NewSignal n sig) stays is = changed_live rows n k _ (λ r. refl) ∙ is
  change_live rows task SignalTaken stays is = changed_live rows task k _ (λ r. refl) ∙ is

  effect_live : (w : World) (version : Ruling) (task : ℕ) (call : Call) → (task ≡ k → call ≡ Call.Task TaskCall.Exit → ⊥) → is_live w.tasks k ≡ true
      → is_live (effect w version task call).world.tasks k ≡ true
  effect_live w version task (Call.Task call) stays is =
      change_live w.tasks task (task_left w version task call).change
      (λ own. ends_none w version task call (λ exits. stays own (ap (λ c. Call.Task c) exits))) is
  effect_live w version task (Call.Tree call) stays is = is

  stepped_live : (w : World) (e : Effect) (checks : List Verdict) (stop : Option Reply) → is_live w.tasks k ≡ true
      → is_live e.world.tasks k ≡ true → is_live (stepped w e checks stop).world.tasks k ≡ true
  stepped_live w e checks None was is = is
  stepped_live w e checks (Some reply) was is = was

  step_live : (w : World) (version : Ruling) (task : ℕ) (call : Call) → (task ≡ k → call ≡ Call.Task TaskCall.Exit → ⊥) → is_live w.tasks k ≡ true
      → is_live (step w version task call).world.tasks k ≡ true
  step_live w version task call stays is =
      stepped_live w (effect w version task call) _ _ is (effect_live w version task call stays is)

  -- no entry before a place is its exit
  abbrev pub NoExit : List Entry → ℕ → Type 0
  NoExit es n = (m : ℕ) (x : Entry) → Stands es m x → m < n → x.task ≡ k → x.call ≡ Call.Task TaskCall.Exit → ⊥

  later_exits : (x : Entry) (es : List Entry) (n : ℕ) → NoExit (x ∷ es) (suc n) → NoExit es n
  later_exits x es n stays m y st lt = stays (suc m) y st (omega (arith, lt))

  pub live_before : (j : List Batch) (w : World) (es : List Entry) (n : ℕ) (e : Entry) → is_live w.tasks k ≡ true → Stands es n e → NoExit es n
      → is_live (world_before j w es n).tasks k ≡ true
  live_before j w [] n e is st stays = cc
  live_before j w (x ∷ es) zero e is st stays = is
  live_before j w (x ∷ es) (suc n) e is st stays =
      live_before j (after_entry j w x) es n e
      (step_live w (version_of j x.version) x.task x.call (λ own exits. stays zero x refl (omega arith) own exits) is) st (later_exits x es n stays)

  -- a fork that makes it makes it live
  fork_live : (w : World) (version : Ruling) (task : ℕ) (pid : Pid) → (step w version task (Call.Task (TaskCall.Fork pid))).reply ≡ Reply.Child k
      → is_live (step w version task (Call.Task (TaskCall.Fork pid))).world.tasks k ≡ true
  fork_live w version task pid replied =
      by (not (is_live w.tasks task)) (was_made w.tasks pid) (nat_le most_tasks (length w.tasks)) (fork_number w version task pid k replied) replied
    where
      by : (dead made full : Bool) → k ≡ length w.tasks
          → (stepped w (effect w version task (Call.Task (TaskCall.Fork pid)))
          (went (verdict_of w version) (Part.Refuses dead Why.NoSuchTask ∷ Part.Refuses made Why.Exists ∷ Part.Refuses full (Why.TasksFull most_tasks) ∷ [])).checks
          (went (verdict_of w version) (Part.Refuses dead Why.NoSuchTask ∷ Part.Refuses made Why.Exists ∷ Part.Refuses full (Why.TasksFull most_tasks) ∷ [])).stop).reply ≡ Reply.Child k
          → is_live (stepped w (effect w version task (Call.Task (TaskCall.Fork pid)))
          (went (verdict_of w version) (Part.Refuses dead Why.NoSuchTask ∷ Part.Refuses made Why.Exists ∷ Part.Refuses full (Why.TasksFull most_tasks) ∷ [])).checks
          (went (verdict_of w version) (Part.Refuses dead Why.NoSuchTask ∷ Part.Refuses made Why.Exists ∷ Part.Refuses full (Why.TasksFull most_tasks) ∷ [])).stop).world.tasks k ≡ true
      by true made full next is = cc
      by false true full next is = cc
      by false false true next is = cc
      by false false false next is =
          subst (λ n. is_live (w.tasks ++ task_begun pid (creds_of w task) ∷ []) n ≡ true) (sym next)
          (live_last w.tasks (task_begun pid (creds_of w task)) refl)

  forked_live : (j : List Batch) (w : World) (f : Entry) (pid : Pid) → f.reply ≡ (step w (version_of j f.version) f.task f.call).reply
      → IsForkOf f k pid → is_live (after_entry j w f).tasks k ≡ true
  forked_live j w f pid replied is =
      subst (λ (c : Call). is_live (step w (version_of j f.version) f.task c).world.tasks k ≡ true) (sym is.0)
      (fork_live w (version_of j f.version) f.task pid
      (ap (λ (c : Call). (step w (version_of j f.version) f.task c).reply) (sym is.0) ∙ (sym replied ∙ is.1)))

  -- so it is live behind its fork
  pub live_behind : (j : List Batch) (w : World) (es : List Entry) (m n : ℕ) (f e : Entry) (pid : Pid) → AreSteps j w es → Stands es m f
      → IsForkOf f k pid → m < n → Stands es n e → NoExit es n → is_live (world_before j w es n).tasks k ≡ true
  live_behind j w [] m n f e pid steps sf is lt st stays = cc
  live_behind j w (x ∷ es) m zero f e pid steps sf is lt st stays = absurd (omega (arith, lt))
  live_behind j w (x ∷ es) zero (suc n) f e pid steps sf is lt st stays =
      let same = same_some x f sf in
      live_before j (after_entry j w x) es n e
      (forked_live j w x pid steps.1 (ap (λ (y : Entry). y.call) same ∙ is.0, ap (λ (y : Entry). y.reply) same ∙ is.1)) st
      (later_exits x es n stays)
  live_behind j w (x ∷ es) (suc m) (suc n) f e pid steps sf is lt st stays =
      live_behind j (after_entry j w x) es m n f e pid steps.2 sf is (omega (arith, lt)) st (later_exits x es n stays)

-- Pids

abbrev pub pids_of : List TaskRow → List ℕ
pids_of [] = []
pids_of (r ∷ rs) = r.pid.0 ∷ pids_of rs

changed_pids : (rows : List TaskRow) (n : ℕ) (f : TaskRow → TaskRow) → ((r : TaskRow) → (f r).pid ≡ r.pid)
    → pids_of (changed_at rows n f) ≡ pids_of rows
changed_pids [] n f same = refl
changed_pids (r ∷ rs) zero f same = ap (λ (p : Pid). p.0 ∷ pids_of rs) (same r)
changed_pids (r ∷ rs) (suc n) f same = ap (λ (ps : List ℕ). r.pid.0 ∷ ps) (changed_pids rs n f same)

pids-append : (rows : List TaskRow) (r : TaskRow) → pids_of (rows ++ r ∷ []) ≡ pids_of rows ++ r.pid.0 ∷ []
pids-append [] r = refl
pids-append (x ∷ rs) r = ap (λ (ps : List ℕ). x.pid.0 ∷ ps) (pids-append rs r)

pub pids_length : (rows : List TaskRow) → length (pids_of rows) ≡ length rows
pids_length [] = refl
pids_length (r ∷ rs) = omega (arith, pids_length rs)

-- a pid is one of theirs exactly where a task of it was made
pub pid_made : (rows : List TaskRow) (pid : Pid) (p : ℕ) → p ≡ pid.0 → was_made rows pid ≡ false → Has p (pids_of rows) → ⊥
pid_made [] pid p is none h = elim h [ ]
pid_made (r ∷ rs) pid p is none here =
    absurd (let x : true ≡ false = sym (ap (λ b. b || was_made rs pid) (eq-eqb r.pid.0 pid.0 is)) ∙ none in cc)
pid_made (r ∷ rs) pid p is none (there h) = pid_made rs pid p is (rest (is_of_pid pid r) (was_made rs pid) none) h
  where
    rest : (b c : Bool) → (b || c) ≡ false → c ≡ false
    rest true c none = cc
    rest false c none = none

pub made_pid : (rows : List TaskRow) (pid : Pid) → was_made rows pid ≡ true → Has pid.0 (pids_of rows)
made_pid [] pid is = cc
made_pid (r ∷ rs) pid is = by (is_of_pid pid r) refl (λ e. made_pid rs pid e) is
  where
    by : (b : Bool) → is_of_pid pid r ≡ b → (was_made rs pid ≡ true → Has pid.0 (pids_of rs)) → (b || was_made rs pid) ≡ true
        → Has pid.0 (pids_of (r ∷ rs))
    by true own rest is = subst (λ p. Has p (pids_of (r ∷ rs))) (eqb-true r.pid.0 pid.0 own) here
    by false other rest is = there (rest is)

-- a call that made a task of a new pid
record MadeOne (w : World) (call : Call) (reply : Reply) (after : List TaskRow) : Type 0 where
  pid : Pid
  forks : call ≡ Call.Task (TaskCall.Fork pid)
  new : was_made w.tasks pid ≡ false
  replied : reply ≡ Reply.Child (length w.tasks)
  pids : pids_of after ≡ pids_of w.tasks ++ pid.0 ∷ []

change_pids : (rows : List TaskRow) (task : ℕ) (change : TaskEffect) → BeginsNone change → pids_of (tasks_after rows task change) ≡ pids_of rows
change_pids rows task NoChange none = refl
change_pids rows task (NewCreds creds) none = changed_pids rows task _ (λ r. refl)
change_pids rows task LifeEnds none = changed_pids rows task _ (λ r. refl)
change_pids rows task (NewChild pid) none = absurd none
change_pids rows task (NewSignal n sig) none = changed_pids rows n _ (λ r. refl)
change_pids rows task SignalTaken none = changed_pids rows task _ (λ r. refl)

effect_pids : (w : World) (version : Ruling) (task : ℕ) (call : Call) → ((pid : Pid) → call ≡ Call.Task (TaskCall.Fork pid) → ⊥)
    → pids_of (effect w version task call).world.tasks ≡ pids_of w.tasks
effect_pids w version task (Call.Task call) other =
    change_pids w.tasks task (task_left w version task call).change
    (begins_none w version task call (λ pid forks. other pid (ap (λ c. Call.Task c) forks)))
effect_pids w version task (Call.Tree call) other = refl

stepped_pids : (w : World) (e : Effect) (checks : List Verdict) (stop : Option Reply) → pids_of e.world.tasks ≡ pids_of w.tasks
    → pids_of (stepped w e checks stop).world.tasks ≡ pids_of w.tasks
stepped_pids w e checks None same = same
stepped_pids w e checks (Some reply) same = refl

-- a call leaves the pids as they are, or it makes a task
abbrev KeepsPids : World → Ruling → ℕ → Call → Type 0
KeepsPids w version task call =
    (pids_of (step w version task call).world.tasks ≡ pids_of w.tasks)
    ⊎ MadeOne w call (step w version task call).reply (step w version task call).world.tasks

other_pids : (w : World) (version : Ruling) (task : ℕ) (call : Call) → ((pid : Pid) → call ≡ Call.Task (TaskCall.Fork pid) → ⊥) → KeepsPids w version task call
other_pids w version task call other =
    inl (stepped_pids w (effect w version task call) _ _ (effect_pids w version task call other))

fork_pids : (w : World) (version : Ruling) (task : ℕ) (pid : Pid) → KeepsPids w version task (Call.Task (TaskCall.Fork pid))
fork_pids w version task pid = by (not (is_live w.tasks task)) (was_made w.tasks pid) (nat_le most_tasks (length w.tasks)) refl
  where
    by : (dead made full : Bool) → was_made w.tasks pid ≡ made
        → (pids_of (stepped w (effect w version task (Call.Task (TaskCall.Fork pid)))
        (went (verdict_of w version) (Part.Refuses dead Why.NoSuchTask ∷ Part.Refuses made Why.Exists ∷ Part.Refuses full (Why.TasksFull most_tasks) ∷ [])).checks
        (went (verdict_of w version) (Part.Refuses dead Why.NoSuchTask ∷ Part.Refuses made Why.Exists ∷ Part.Refuses full (Why.TasksFull most_tasks) ∷ [])).stop).world.tasks ≡ pids_of w.tasks)
        ⊎ MadeOne w (Call.Task (TaskCall.Fork pid)) (stepped w (effect w version task (Call.Task (TaskCall.Fork pid)))
        (went (verdict_of w version) (Part.Refuses dead Why.NoSuchTask ∷ Part.Refuses made Why.Exists ∷ Part.Refuses full (Why.TasksFull most_tasks) ∷ [])).checks
        (went (verdict_of w version) (Part.Refuses dead Why.NoSuchTask ∷ Part.Refuses made Why.Exists ∷ Part.Refuses full (Why.TasksFull most_tasks) ∷ [])).stop).reply
        (stepped w (effect w version task (Call.Task (TaskCall.Fork pid)))
        (went (verdict_of w version) (Part.Refuses dead Why.NoSuchTask ∷ Part.Refuses made Why.Exists ∷ Part.Refuses full (Why.TasksFull most_tasks) ∷ [])).checks
        (went (verdict_of w version) (Part.Refuses dead Why.NoSuchTask ∷ Part.Refuses made Why.Exists ∷ Part.Refuses full (Why.TasksFull most_tasks) ∷ [])).stop).world.tasks
    by true made full e = inl refl
    by false true full e = inl refl
    by false false true e = inl refl
    by false false false e =
        inr (record { pid = pid; forks = refl; new = e; replied = refl; pids = pids-append w.tasks (task_begun pid (creds_of w task)) })

step_pids : (w : World) (version : Ruling) (task : ℕ) (call : Call) → KeepsPids w version task call
step_pids w version task (Call.Task (TaskCall.Fork p)) = fork_pids w version task p
step_pids w version task call = other_pids w version task call (λ p e. cc)

-- the fork that made the task of a pid, before a place
pub record MadeBefore (es : List Entry) (n p : ℕ) : Type 0 where
  pub place : ℕ
  pub fork : Entry
  pub number : ℕ
  pub stands : Stands es place fork
  pub before : place < n
  pub is : IsForkOf fork number (record { 0 = p })

made_later : (x : Entry) (es : List Entry) (n p : ℕ) → MadeBefore es n p → MadeBefore (x ∷ es) (suc n) p
made_later x es n p b = record {
  place = suc b.place;
  fork = b.fork;
  number = b.number;
  stands = b.stands;
  before = omega (arith, b.before);
  is = b.is;
}

pub one_pid : (p q : ℕ) → Has p (q ∷ []) → p ≡ q
one_pid p q here = refl
one_pid p q (there h) = elim h [ ]

pub made_by : (j : List Batch) (w : World) (es : List Entry) (n : ℕ) (e : Entry) (p : ℕ) → AreSteps j w es → Stands es n e
    → Has p (pids_of (world_before j w es n).tasks) → Has p (pids_of w.tasks) ⊎ MadeBefore es n p
made_by j w [] n e p steps st h = cc
made_by j w (x ∷ es) zero e p steps st h = inl h
made_by j w (x ∷ es) (suc n) e p steps st h =
    ⊎_elim (λ old. ⊎_elim (λ same. inl (subst (Has p) same old))
    (λ one. ⊎_elim (λ was. inl was) (λ new. inr (by one (one_pid p one.pid.0 new)))
    (has_either (pids_of w.tasks) (one.pid.0 ∷ []) (subst (Has p) one.pids old)))
    (step_pids w (version_of j x.version) x.task x.call)) (λ b. inr (made_later x es n p b))
    (made_by j (after_entry j w x) es n e p steps.2 st h)
  where
    by : (one : MadeOne w x.call (step w (version_of j x.version) x.task x.call).reply (step w (version_of j x.version) x.task x.call).world.tasks)
        → p ≡ one.pid.0 → MadeBefore (x ∷ es) (suc n) p
    by one is = record {
      place = zero;
      fork = x;
      number = length w.tasks;
      stands = refl;
      before = omega arith;
      is = (one.forks ∙ ap (λ (i : ℕ). Call.Task (TaskCall.Fork (record { 0 = i }))) (sym is), steps.1 ∙ one.replied);
    }

-- no pid stands twice, and each is below a bound
module _ (most : ℕ) where
  pub record FewPids (rows : List TaskRow) : Type 0 where
    pub distinct : Distinct (pids_of rows)
    pub below : (p : ℕ) → Has p (pids_of rows) → p < most

  abbrev pub ForksBelow : List Entry → Type 0
  ForksBelow es = (x : Entry) → Has x es → (pid : Pid) → x.call ≡ Call.Task (TaskCall.Fork pid) → pid.0 < most

  few_step : (w : World) (version : Ruling) (task : ℕ) (call : Call) → ((pid : Pid) → call ≡ Call.Task (TaskCall.Fork pid) → pid.0 < most)
      → FewPids w.tasks → FewPids (step w version task call).world.tasks
  few_step w version task call low few =
      ⊎_elim (λ same. record {
        distinct = subst Distinct (sym same) few.distinct;
        below = λ p h. few.below p (subst (Has p) same h);
      })
      (λ one. record {
        distinct = subst Distinct (sym one.pids) (distinct-append (pids_of w.tasks) (one.pid.0 ∷ []) few.distinct ((λ h. elim h [ ]), tt)
            (λ p h new. pid_made w.tasks one.pid p (one_pid p one.pid.0 new) one.new h));
        below = λ p h. ⊎_elim (λ old. few.below p old) (λ new. subst (λ q. q < most) (sym (one_pid p one.pid.0 new)) (low one.pid one.forks))
            (has_either (pids_of w.tasks) (one.pid.0 ∷ []) (subst (Has p) one.pids h));
      }) (step_pids w version task call)

  pub few_before : (j : List Batch) (w : World) (es : List Entry) (n : ℕ) (e : Entry) → Stands es n e → ForksBelow es → FewPids w.tasks
      → FewPids (world_before j w es n).tasks
  few_before j w [] n e st low few = cc
  few_before j w (x ∷ es) zero e st low few = few
  few_before j w (x ∷ es) (suc n) e st low few =
      few_before j (after_entry j w x) es n e st (λ y h. low y (there h))
      (few_step w (version_of j x.version) x.task x.call (low x here) few)
