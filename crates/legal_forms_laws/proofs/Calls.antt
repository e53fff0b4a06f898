-- Each call once and in order.
use Rattle.std.proofs.Common.{◌≡◌, ◌≤◌, ◌<◌, ◌⊎◌, ⊎_elim, inl, inr, ℕ, suc, Bool, true, false, ◌&&◌, ◌==◌, if◌then◌else◌, nat_le, nat_lt, List, [], ◌∷◌, refl, sym, ap, ◌∙◌, subst, arith}
use Rattle.std.specs.Bool.{Decides}
use Rattle.std.specs.List.{list_any}
use Rattle.std.proofs.lemmas.Bool.{cases_lt, lt-leb, eqb-true, eq-eqb, and_parts, and_from}
use Rattle.std.proofs.lemmas.Bool.Decides.{Decides-and, Decides-or, Decides-not, Decides-like, Decides-eqb, Decides-ltb}
use Rattle.smack_base.specs.declared.ids.Pid.{Pid}
use Rattle.world_spec.specs.declared.Entry.{Entry}
use Rattle.record_spec.specs.declared.AskedLine.{AskedLine}
use Rattle.record_spec.specs.declared.RunRecord.{RunRecord}
use Rattle.replay_spec.specs.Laws.{calls_at}
use Rattle.legal_spec.specs.Calls.{Stands, IsForkOf, IsTask, IsCall, entry, IsBefore, call_count}
use Rattle.legal_spec.specs.Legal.{IsEachCallOnce}
use Rattle.legal_forms.specs.MadeCalls.{MadeCall, made_calls, count_of, call_at, forks_of, has_task, task_numbers}
use Rattle.legal_forms.specs.Forms.{all_behind, has_each, are_numbered, with_last, rises_from, comes_before, are_listed, are_of_tasks, was_forked_before, is_each_call_once}
use Rattle.legal_forms.specs.Laws.{CallsAreDecided}
use Rattle.legal_forms_laws.proofs.Quantified.{Each, none_of_each, each_of_both, no_pairs, pairs_of_both, EachPair, EachPairOrSelf, list_all_decides, list_any_decides, all_selves_decide}
use Rattle.legal_forms_laws.proofs.Members.{Has, has_there, place_of_one}
use Rattle.legal_forms_laws.proofs.MadeCalls.{is_made, made_is, count_at, counts_at, counts_of}
use Rattle.legal_forms_laws.proofs.Forks.{has_fork, fork_has, number_decides, task_decides}
use Rattle.legal_forms_laws.proofs.CallsAt.{has_counts}
use Rattle.legal_forms_laws.proofs.Numbered.{IsOnce, numbers_decide, none_once}

before_decides : (a b : AskedLine) → Decides (comes_before a b) (IsBefore a b)
before_decides a b =
    Decides-or (nat_lt a.task b.task) ((a.task == b.task) && nat_lt a.seq b.seq) (Decides-ltb a.task b.task)
    (Decides-and (a.task == b.task) (nat_lt a.seq b.seq) (Decides-eqb a.task b.task) (Decides-ltb a.seq b.seq))

before_both : (a b c : AskedLine) → IsBefore a b → IsBefore b c → IsBefore a c
before_both a b c (inl below) (inl further) = inl (omega (arith, below, further))
before_both a b c (inl below) (inr more) = inl (omega (arith, below, more.0))
before_both a b c (inr same) (inl further) = inl (omega (arith, same.0, further))
before_both a b c (inr same) (inr more) = inr (same.0 ∙ more.0, omega (arith, same.1, more.1))

behind_first : (a : AskedLine) (behind : List AskedLine) → are_listed (a ∷ behind) ≡ true → Each (λ k. IsBefore a) behind
behind_first a [] is = none_of_each (λ k. IsBefore a)
behind_first a (b ∷ rest) is =
    let parts = and_parts (comes_before a b) (are_listed (b ∷ rest)) is in
    let first = (before_decides a b).0 parts.0 in
    each_of_both (λ k. IsBefore a) b rest first (λ k c at. before_both a b c first (behind_first b rest parts.1 k c at))

rest_listed : (a : AskedLine) (behind : List AskedLine) → are_listed (a ∷ behind) ≡ true → are_listed behind ≡ true
rest_listed a [] is = refl
rest_listed a (b ∷ rest) is = (and_parts (comes_before a b) (are_listed (b ∷ rest)) is).1

listed_pairs : (asked : List AskedLine) → are_listed asked ≡ true → EachPair IsBefore asked
listed_pairs [] is = no_pairs IsBefore
listed_pairs (a ∷ behind) is = pairs_of_both IsBefore a behind (behind_first a behind is) (listed_pairs behind (rest_listed a behind is))

pairs_listed : (asked : List AskedLine) → EachPair IsBefore asked → are_listed asked ≡ true
pairs_listed [] pairs = refl
pairs_listed (a ∷ []) pairs = refl
pairs_listed (a ∷ b ∷ rest) pairs =
    and_from (comes_before a b) (are_listed (b ∷ rest)) ((before_decides a b).1 (pairs 0 1 a b refl refl (omega arith)))
    (pairs_listed (b ∷ rest) (λ i k x y at_x at_y less. pairs (suc i) (suc k) x y at_x at_y (omega (arith, less))))

-- a later object call of a task has a greater number
abbrev Rises : Entry → Entry → Type 0
Rises e f = e.task ≡ f.task → e.seq < f.seq

abbrev IsAbove : (ℕ → ℕ) → List Entry → Type 0
IsAbove last es = Each (λ i e. last e.task < e.seq) es × EachPair Rises es

above_more : (last : ℕ → ℕ) (x e : Entry) → last x.task < x.seq → with_last last x e.task < e.seq → (last e.task < e.seq) × Rises x e
above_more last x e first = by (x.task == e.task) refl
  where
    by : (same : Bool) → (x.task == e.task) ≡ same → (if same then x.seq else last e.task) < e.seq → (last e.task < e.seq) × Rises x e
    by true is less =
        let last_is : last x.task ≡ last e.task = ap last (eqb-true x.task e.task is) in
        (omega (arith, first, less, last_is), (λ same. less))
    by false is less = (less, (λ same. absurd (wrong (sym is ∙ eq-eqb x.task e.task same))))
      where
        wrong : false ≡ true → ⊥
        wrong is = cc

above_with : (last : ℕ → ℕ) (x e : Entry) → last e.task < e.seq → Rises x e → with_last last x e.task < e.seq
above_with last x e first rises = by (x.task == e.task) refl
  where
    by : (same : Bool) → (x.task == e.task) ≡ same → (if same then x.seq else last e.task) < e.seq
    by true is = rises (eqb-true x.task e.task is)
    by false is = first

rises_decides : (last : ℕ → ℕ) (es : List Entry) → Decides (rises_from last es) (IsAbove last es)
rises_decides last [] = ((λ e. (none_of_each (λ i x. last x.task < x.seq), no_pairs Rises)), (λ above. refl))
rises_decides last (x ∷ xs) =
    Decides-like (nat_lt (last x.task) x.seq && rises_from (with_last last x) xs)
    (λ both. (
      each_of_both (λ i e. last e.task < e.seq) x xs both.0 (λ i e at. (above_more last x e both.0 (both.1.0 i e at)).0),
      pairs_of_both Rises x xs (λ k e at. (above_more last x e both.0 (both.1.0 k e at)).1) both.1.1,
    ))
    (λ above. (
      above.0 0 x refl,
      (
        (λ i e at. above_with last x e (above.0 (suc i) e at) (above.1 0 (suc i) x e refl at (omega arith))),
        (λ i k e f at_e at_f less. above.1 (suc i) (suc k) e f at_e at_f (omega (arith, less))),
      ),
    )) (Decides-and (nat_lt (last x.task) x.seq) (rises_from (with_last last x) xs) (Decides-ltb (last x.task) x.seq) (rises_decides (with_last last x) xs))

-- the second entry did not make the task of the first
abbrev IsNotForkOf : Entry → Entry → Type 0
IsNotForkOf e f = (pid : Pid) → IsForkOf f e.task pid → ⊥

forked_decides : (e : Entry) (es : List Entry) → Decides (was_forked_before e es) (Each (λ k. IsNotForkOf e) (e ∷ es))
forked_decides e es =
    Decides-like (was_forked_before e es)
    (λ none k f at pid is.
    let place = place_of_one (forks_of (e ∷ es)) _ (has_fork (e ∷ es) k f e.task pid at is) in none (place.0, _, place.1, refl))
    (λ each some.
    let fork = fork_has (e ∷ es) some.1 (has_there (forks_of (e ∷ es)) some.0 some.1 some.2) in
    each fork.place fork.fork fork.there some.1.pid (subst (λ (n : ℕ). IsForkOf fork.fork n some.1.pid) some.3 fork.is))
    (Decides-not (list_any (λ f. f.number == e.task) (forks_of (e ∷ es)))
    (list_any_decides (λ f. f.number == e.task) (λ f. f.number ≡ e.task) (λ f. Decides-eqb f.number e.task) (forks_of (e ∷ es))))

module _ (r : RunRecord) where
  abbrev AreOfTasks : Type 0
  AreOfTasks = (task seq needs reaches : ℕ) → IsCall r task seq needs reaches → IsTask r.history task

  tasks_decide : Decides (are_of_tasks r) AreOfTasks
  tasks_decide =
      Decides-like (are_of_tasks r)
      (λ each task seq needs reaches call.
      let place = place_of_one (made_calls r) _ (is_made r task seq needs reaches call) in each place.0 _ place.1)
      (λ are i c at. are c.task c.seq c.needs c.reaches (made_is r c (has_there (made_calls r) i c at)))
      (list_all_decides (λ c. has_task (task_numbers r.history) c.task) (λ c. IsTask r.history c.task)
      (λ c. task_decides r.history c.task) (made_calls r))

  abbrev AreOnce : Type 0
  AreOnce = (task seq : ℕ) → calls_at r task seq ≡ (if nat_le 1 seq && nat_le seq (call_count r task) then 1 else 0)

  -- what is said of the list is said of the record
  of_list : (task : ℕ) → IsOnce (made_calls r) task → (seq : ℕ)
      → calls_at r task seq ≡ (if nat_le 1 seq && nat_le seq (call_count r task) then 1 else 0)
  of_list task once seq =
      sym (counts_at r task seq) ∙ once seq ∙ ap (λ (n : ℕ). if◌then◌else◌ {A = ℕ} (nat_le 1 seq && nat_le seq n) 1 0) (counts_of r task)

  pub to_list : AreOnce → (task : ℕ) → IsOnce (made_calls r) task
  to_list once task seq =
      counts_at r task seq ∙ once task seq ∙ ap (λ (n : ℕ). if◌then◌else◌ {A = ℕ} (nat_le 1 seq && nat_le seq n) 1 0) (sym (counts_of r task))

  all_once : AreOfTasks → Each (λ i. IsOnce (made_calls r)) (task_numbers r.history) → (task : ℕ) → IsOnce (made_calls r) task
  all_once are each task = by (has_task (task_numbers r.history) task) (number_decides (task_numbers r.history) task) (task_decides r.history task)
    where
      by : (there : Bool) → Decides there (Has (task_numbers r.history) task) → Decides there (IsTask r.history task) → IsOnce (made_calls r) task
      by true has is = let place = place_of_one (task_numbers r.history) task (has.0 refl) in each place.0 task place.1
      by false has is =
          none_once (made_calls r) task (λ c among same.
          let wrong : false ≡ true =
          is.1 (subst (IsTask r.history) same (are c.task c.seq c.needs c.reaches (made_is r c among))) in cc)

  numbered_decides : AreOfTasks → Decides (are_numbered r) AreOnce
  numbered_decides are =
      Decides-like (are_numbered r) (λ each task. of_list task (all_once are each task)) (λ once i task at. to_list once task)
      (list_all_decides (λ task. has_each (call_at (made_calls r) task) 1 (count_of (made_calls r) task)) (IsOnce (made_calls r))
      (numbers_decide (made_calls r)) (task_numbers r.history))

  abbrev AreBehindForks : Type 0
  AreBehindForks = (i k : ℕ) (fork e : Entry) (pid : Pid) → Stands r.history i fork → IsForkOf fork e.task pid → Stands r.history k e → i < k

  behind_forks : EachPairOrSelf IsNotForkOf r.history → AreBehindForks
  behind_forks none i k fork e pid at is at_e =
      ⊎_elim (λ less. less) (λ le. absurd (none k i e fork at_e at le pid is)) (cases_lt i k)

  not_behind : AreBehindForks → EachPairOrSelf IsNotForkOf r.history
  not_behind behind i k e fork at_e at le pid is = omega (arith, le, behind k i fork e pid at is at_e)

  -- the numbers of calls begin with 1
  first_number : AreOnce → (i : ℕ) (e : Entry) → Stands r.history i e → 0 < e.seq
  first_number once i e at =
      let c : MadeCall = record { task = e.task; seq = e.seq; needs = e.version; reaches = e.version } in
      let among = is_made r e.task e.seq e.version e.version (entry i e at) in
      by (cases_lt 0 e.seq) (has_counts e.task e.seq (made_calls r) c among refl refl)
    where
      none : e.seq ≤ 0 → count_at (made_calls r) e.task e.seq ≡ 0
      none le =
          to_list once e.task e.seq
          ∙ ap (λ (b : Bool). if◌then◌else◌ {A = ℕ} (b && nat_le e.seq (count_of (made_calls r) e.task)) 1 0) (lt-leb 1 e.seq (omega (arith, le)))

      by : (0 < e.seq) ⊎ (e.seq ≤ 0) → 1 ≤ count_at (made_calls r) e.task e.seq → 0 < e.seq
      by (inl less) counted = less
      by (inr le) counted = absurd (omega (arith, none le, counted))

  abbrev later : Bool
  later = rises_from (λ task. 0) r.history && (are_listed r.asked && all_behind was_forked_before r.history)

  abbrev AreLater : Type 0
  AreLater = EachPair Rises r.history × (EachPair IsBefore r.asked × EachPairOrSelf IsNotForkOf r.history)

  later_decides : AreOnce → Decides later AreLater
  later_decides once =
      Decides-and (rises_from (λ task. 0) r.history) (are_listed r.asked && all_behind was_forked_before r.history)
      (Decides-like (rises_from (λ task. 0) r.history) (λ above. above.1) (λ rises. (first_number once, rises))
      (rises_decides (λ task. 0) r.history))
      (Decides-and (are_listed r.asked) (all_behind was_forked_before r.history) (listed_pairs r.asked, pairs_listed r.asked)
      (all_selves_decide was_forked_before IsNotForkOf forked_decides r.history))

  once_made : AreOfTasks → AreOnce → AreLater → IsEachCallOnce r
  once_made are once ordered = record {
    once = once;
    rising = ordered.0;
    listed = ordered.1.0;
    of_tasks = are;
    behind_fork = behind_forks ordered.1.1;
  }

-- the first of two tests, and the second where what the first says is so
pub both_decide : {P Q : Type 0} (a b : Bool) → Decides a P → (P → Decides b Q) → Decides (a && b) (P × Q)
both_decide true b first second = Decides-and true b first (second (first.0 refl))
both_decide false b first second = ((λ e. absurd (wrong e)), (λ both. first.1 both.0))
  where
    wrong : false ≡ true → ⊥
    wrong is = cc

pub calls_are_decided : CallsAreDecided
calls_are_decided r =
    Decides-like (is_each_call_once r) (λ all. once_made r all.0 all.1.0 all.1.1)
    (λ is. (is.of_tasks, (is.once, (is.rising, (is.listed, not_behind r is.behind_fork)))))
    (both_decide (are_of_tasks r) (are_numbered r && later r) (tasks_decide r)
    (λ are. both_decide (are_numbered r) (later r) (numbered_decides r are) (later_decides r)))
