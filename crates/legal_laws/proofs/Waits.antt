use Rattle.std.proofs.Common.{◌≡◌, ◌≤◌, ◌<◌, ℕ, Bool, true, false, ◌||◌, ◌==◌, if◌then◌else◌, inl, inr, List, [], ◌∷◌, ◌++◌, length, refl, sym, ap, subst, ◌∙◌, arith}
use Rattle.std.specs.List.{list_any}
use Rattle.std.proofs.lemmas.Bool.{eqb-true, eq-eqb}
use Rattle.std.proofs.lemmas.Option.{slice_get_within}
use Rattle.smack_base.specs.declared.ids.Pid.{Pid}
use Rattle.script_spec.specs.Lines.{ScriptLine}
use Rattle.script_spec.specs.Tasks.{change_of, is_fork, has_wait, calls_by, parents_in, task_names, lineage}
use Rattle.world_spec.specs.declared.Entry.{Entry}
use Rattle.record_spec.specs.declared.AskedLine.{AskedLine}
use Rattle.record_spec.specs.declared.AskedWhat.TheVariants as AskedWhat
use Rattle.replay_spec.specs.declared.Act.TheVariants as Act
use Rattle.replay_spec.proofs.ReadCalls.{act_words}
use Rattle.replay_spec.specs.Plain.{IsNameTable}
use Rattle.replay_spec.specs.Replays.{Run}
use Rattle.legal_spec.specs.Calls.{Stands, Descends, itself, child, entry as entry_call}
use Rattle.legal_spec.specs.Lines.{IsAskedOfLine}
use Rattle.legal_spec.specs.Legal.{HasWaited}
use Rattle.plain_laws.proofs.GoodLines.{IsGoodLine}
use Rattle.legal_laws.proofs.Places.{asked_more}
use Rattle.legal_laws.proofs.Runs.{asked_by, entry_by, IsNext, batch, entry, asked, Replays, first, more}
use Rattle.legal_laws.proofs.Growth.{record_of, CallIn, call_grows, calls_within, tasks_more}
use Rattle.legal_laws.proofs.Lineages.{lineage_own, lineage_child, lineage_kept}
use Rattle.legal_laws.proofs.ForkLines.{parents_more, parents_many}
use Rattle.legal_laws.proofs.Forks.{HasFork, AreForked, longer_fork, forks_are_known}
use Rattle.legal_laws.proofs.Orders.{entry_grows}
use Rattle.legal_laws.proofs.WaitLines.{waited_more, IsWaitLine, wait_line}

-- a task descends from another, by the parents of the lines so far
abbrev pub is_below : List ScriptLine → ℕ → ℕ → Bool
is_below above ancestor task = list_any (λ t. t == ancestor) (lineage (parents_in above) task)

-- what the history says of descent, the lines say too
pub descends : (above : List ScriptLine) (history : List Entry) → AreForked above history → (ancestor task : ℕ) → Descends history ancestor task
    → is_below above ancestor task ≡ true
descends above history forked ancestor task itself =
    lineage_own (λ t. t == ancestor) (parents_in above) ancestor (eq-eqb ancestor ancestor refl)
descends above history forked ancestor task (child i e number pid down at fork) =
    lineage_child (λ t. t == ancestor) (parents_in above) number e.task forked.older (forked.known i e number pid at fork).parent
    (descends above history forked ancestor e.task down)

-- one more line leaves the lineage of the tasks that were there as it was
same_lineage : (above : List ScriptLine) (l : ScriptLine) (task : ℕ) → task < length (task_names above)
    → lineage (parents_in (above ++ l ∷ [])) task ≡ lineage (parents_in above) task
same_lineage above l task there = ap (λ ps. lineage ps task) (parents_more above l) ∙ by (is_fork (change_of l))
  where
    by : (forks : Bool) → lineage (if forks then l.task ∷ parents_in above else parents_in above) task ≡ lineage (parents_in above) task
    by true = lineage_kept l.task (parents_in above) task (omega (arith, there, parents_many above))
    by false = refl

below_before : (above : List ScriptLine) (l : ScriptLine) (ancestor task : ℕ) → task < length (task_names above)
    → is_below (above ++ l ∷ []) ancestor task ≡ true → is_below above ancestor task ≡ true
below_before above l ancestor task there below = ap (list_any (λ t. t == ancestor)) (sym (same_lineage above l task there)) ∙ below

any_same : (test : ℕ → Bool) (ancestor : ℕ) (tasks : List ℕ) → test ancestor ≡ true → list_any (λ t. t == ancestor) tasks ≡ true
    → list_any test tasks ≡ true
any_same test ancestor [] is has = cc
any_same test ancestor (t ∷ ts) is has = by (t == ancestor) refl (any_same test ancestor ts is) has
  where
    by : (here : Bool) → (t == ancestor) ≡ here → (list_any (λ u. u == ancestor) ts ≡ true → list_any test ts ≡ true)
        → (here || list_any (λ u. u == ancestor) ts) ≡ true → (test t || list_any test ts) ≡ true
    by true here rest has = let passes : test t ≡ true = ap test (eqb-true t ancestor here) ∙ is in rw passes refl
    by false here rest has = or_last (test t) (list_any test ts) (rest has)
      where
        or_last : (a b : Bool) → b ≡ true → (a || b) ≡ true
        or_last true b is = refl
        or_last false b is = is

true_is_not_false : (b : Bool) → b ≡ true → b ≡ false → ⊥
true_is_not_false true is not = cc
true_is_not_false false is not = cc

-- a good line is not of a task below one that was waited for
not_below : (above : List ScriptLine) (l : ScriptLine) (ancestor : ℕ) → IsGoodLine above l → has_wait above ancestor ≡ true
    → is_below above ancestor l.task ≡ true → ⊥
not_below above l ancestor good waited below =
    true_is_not_false (list_any (has_wait above) (lineage (parents_in above) l.task))
    (any_same (has_wait above) ancestor (lineage (parents_in above) l.task) waited below) good.kept

module _ (labels names : List (List ℕ)) where
  -- what holds of a waited line in a run: its task waited for its child, and what the child and those below it did
  pub record IsAwaited (above : List ScriptLine) (run : Run) (a : AskedLine) (pid : Pid) : Type 0 where
    pub there : pid.0 < length (task_names above)
    pub waited : has_wait above pid.0 ≡ true
    pub fork : HasFork run.history pid.0 a.task
    pub after : fork.fork.seq < a.seq
    pub told : (task seq needs reaches : ℕ) → CallIn labels names run task seq needs reaches → is_below above pid.0 task ≡ true
        → reaches ≤ a.version
    pub behind : (i k : ℕ) (e f : Entry) → is_below above pid.0 e.task ≡ true → Stands run.history i e → Stands run.history k f
        → f.task ≡ a.task → a.seq < f.seq → i < k

  fork_kept : (run after : Run) (l : ScriptLine) → IsNext labels names run l after → (task parent : ℕ) → HasFork run.history task parent
      → HasFork after.history task parent
  fork_kept run after l (batch ops of may) task parent has = has
  fork_kept run after l (entry call of) task parent has = longer_fork run.history (entry_by run l call) task parent has
  fork_kept run after l (asked what of so) task parent has = has

  same_fork : (run after : Run) (l : ScriptLine) (next : IsNext labels names run l after) (task parent : ℕ) (has : HasFork run.history task parent)
      → (fork_kept run after l next task parent has).fork ≡ has.fork
  unfolding fork_kept
  same_fork run after l (batch ops of may) task parent has = refl
  same_fork run after l (entry call of) task parent has = refl
  same_fork run after l (asked what of so) task parent has = refl

  old_wait : (above : List ScriptLine) (run after : Run) (l : ScriptLine) → Replays labels names above run → IsGoodLine above l
      → IsNext labels names run l after → (a : AskedLine) (pid : Pid) → IsAwaited above run a pid → IsAwaited (above ++ l ∷ []) after a pid
  old_wait above run after l replays good next a pid was =
      let never = not_below above l pid.0 good was.waited in
      record {
        there = omega (arith, was.there, tasks_more above l);
        waited = waited_more above l pid.0 was.there was.waited;
        fork = fork_kept run after l next pid.0 a.task was.fork;
        after =
            subst (λ (e : Entry). e.seq < a.seq) (sym (same_fork run after l next pid.0 a.task was.fork)) was.after;
        told = λ task seq needs reaches c below.
            elim (call_grows labels names run after l next task seq needs reaches c) [
              | inl old ↦
                  let within = calls_within labels names above run replays task seq needs reaches old in
                  was.told task seq needs reaches old (below_before above l pid.0 task within.there below)
              | inr new ↦
                  absurd
                  (never (below_before above l pid.0 l.task good.there
                  (subst (λ (k : ℕ). is_below (above ++ l ∷ []) pid.0 k ≡ true) new.own below)))
            ];
        behind = λ i k e f below at_e at_f own later.
            elim (entry_grows labels names run after l next i e at_e) [
              | inl old_e ↦
                  let within = calls_within labels names above run replays e.task e.seq e.version e.version (entry_call i e old_e) in
                  elim (entry_grows labels names run after l next k f at_f) [
                    | inl old_f ↦ was.behind i k e f (below_before above l pid.0 e.task within.there below) old_e old_f own later
                    | inr new_f ↦ omega (arith, new_f.0, slice_get_within run.history i e old_e)
                  ]
              | inr new_e ↦
                  absurd
                  (never (below_before above l pid.0 l.task good.there
                  (subst (λ (t : ℕ). is_below (above ++ l ∷ []) pid.0 t ≡ true) new_e.1 below)))
            ];
      }

  -- the fork that a good line waits for is of an earlier call
  forked_before : (above : List ScriptLine) (run : Run) (l : ScriptLine) → Replays labels names above run → IsGoodLine above l
      → (a : AskedLine) → a.task ≡ l.task → a.seq ≡ l.seq → (pid : Pid) (has : HasFork run.history pid.0 a.task) → has.fork.seq < a.seq
  forked_before above run l replays good a task seq pid has =
      let e = has.fork in
      let within = calls_within labels names above run replays e.task e.seq e.version e.version (entry_call has.place e has.there) in
      let count : calls_by above e.task ≡ calls_by above l.task = ap (λ t. calls_by above t) (has.own ∙ task) in
      omega (arith, within.to, count, good.seq, seq)

  -- a new one
  new_wait : (above : List ScriptLine) (run : Run) (l : ScriptLine) → Replays labels names above run → IsGoodLine above l
      → AreForked above run.history → (after : Run) → after.history ≡ run.history → Replays labels names (above ++ l ∷ []) after
      → length after.journal ≡ length run.journal → (a : AskedLine) → a.task ≡ l.task → a.seq ≡ l.seq → a.version ≡ length run.journal
      → (pid : Pid) → IsWaitLine above l pid.0 → IsAwaited (above ++ l ∷ []) after a pid
  new_wait above run l replays good forked after same replayed as_long a task seq version pid line = record {
    there = omega (arith, line.there, tasks_more above l);
    waited = line.waited;
    fork = has.0;
    after = has.1;
    told = λ k q n m c below. omega (arith, (calls_within labels names (above ++ l ∷ []) after replayed k q n m c).version, version, as_long);
    behind = λ i k e f below at_e at_f own later.
        let at : Stands run.history k f = subst (λ (h : List Entry). Stands h k f) same at_f in
        let within = calls_within labels names above run replays f.task f.seq f.version f.version (entry_call k f at) in
        let count : calls_by above f.task ≡ calls_by above l.task = ap (λ t. calls_by above t) (own ∙ task) in
        absurd (omega (arith, within.to, count, good.seq, seq, later));
  }
    where
      has : (has : HasFork after.history pid.0 a.task) × (has.fork.seq < a.seq)
      has =
          subst (λ (h : List Entry). (has : HasFork h pid.0 a.task) × (has.fork.seq < a.seq)) (sym same)
          (let old = subst (λ (k : ℕ). HasFork run.history pid.0 k) (sym task) (forked.there pid.0 l.task line.child) in
          (old, forked_before above run l replays good a task seq pid old))

  waits_are_told : IsNameTable names → (above : List ScriptLine) (run : Run) → Replays labels names above run → (i : ℕ) (a : AskedLine) (pid : Pid)
      → Stands run.asked i a → a.what ≡ AskedWhat.Wait pid → IsAwaited above run a pid
  waits_are_told table lines now first i a pid at is = cc
  waits_are_told table lines now (more above l run after replays good in_step rest whole next) i a pid at is =
      by after next (waits_are_told table above run replays) at
    where
      by : (after : Run) → IsNext labels names run l after
          → ((j : ℕ) (x : AskedLine) (p : Pid) → Stands run.asked j x → x.what ≡ AskedWhat.Wait p → IsAwaited above run x p)
          → Stands after.asked i a → IsAwaited (above ++ l ∷ []) after a pid
      by after (batch ops of may) was at = old_wait above run after l replays good (batch ops of may) a pid (was i a pid at is)
      by after (entry call of) was at = old_wait above run after l replays good (entry call of) a pid (was i a pid at is)
      by after (asked what of so) was at =
          let next : IsNext labels names run l after = asked what of so in
          elim (asked_more run.asked (asked_by run l what) i a at) [
            | inl old ↦ old_wait above run after l replays good next a pid (was old.0 a pid old.1 is)
            | inr new ↦
                let what_is : what ≡ AskedWhat.Wait pid = sym (ap (λ x. x.what) new) ∙ is in
                let of_wait : IsAskedOfLine labels names l (AskedWhat.Wait pid) = subst (λ w. IsAskedOfLine labels names l w) what_is of in
                let words = act_words labels names l (Act.Wait pid) of_wait in
                new_wait above run l replays good (forks_are_known labels names table above run replays) after refl
                (more above l run after replays good in_step rest whole next) refl a (ap (λ x. x.task) new) (ap (λ x. x.seq) new)
                (ap (λ x. x.version) new) pid (wait_line above l names rest pid good whole words.0 words.1)
          ]

  -- each task that waited was told
  pub waits_are_fresh : IsNameTable names → (above : List ScriptLine) (run : Run) → Replays labels names above run
      → (i : ℕ) (a : AskedLine) (pid : Pid) → Stands run.asked i a → a.what ≡ AskedWhat.Wait pid → HasWaited (record_of labels names run) a pid
  waits_are_fresh table above run replays i a pid at is =
      let forked = forks_are_known labels names table above run replays in
      let w = waits_are_told table above run replays i a pid at is in
      record {
        number = pid.0;
        place = w.fork.place;
        fork = w.fork.fork;
        there = w.fork.there;
        is = w.fork.is;
        own = w.fork.own;
        after = w.after;
        told = λ task seq needs reaches down c. w.told task seq needs reaches c (descends above run.history forked pid.0 task down);
        behind = λ i k e f down at_e at_f own later.
            w.behind i k e f (descends above run.history forked pid.0 e.task down) at_e at_f own later;
      }
