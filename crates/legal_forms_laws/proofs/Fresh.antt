-- No call is judged in a version older than its task had seen or been told of.
use Rattle.std.proofs.Common.{◌≡◌, ◌≤◌, ◌<◌, ⊎_elim, inl, inr, ℕ, suc, Bool, true, false, not, ◌&&◌, ◌==◌, cond, if◌then◌else◌, max, nat_le, nat_lt, List, [], ◌∷◌, refl, sym, ap, ◌∙◌, subst, arith}
use Rattle.std.specs.Bool.{Decides}
use Rattle.std.specs.List.{list_all}
use Rattle.std.proofs.lemmas.Bool.{cases_lt, eqb-true, eq-eqb}
use Rattle.std.proofs.lemmas.Bool.Decides.{Decides-and, Decides-not, Decides-like, Decides-eqb, Decides-ltb}
use Rattle.smack_base.specs.declared.ids.Pid.{Pid}
use Rattle.world_spec.specs.declared.Entry.{Entry}
use Rattle.record_spec.specs.declared.AskedLine.{AskedLine}
use Rattle.record_spec.specs.declared.AskedWhat.{AskedWhat}
use Rattle.record_spec.specs.declared.RunRecord.{RunRecord}
use Rattle.legal_spec.specs.Calls.{Stands, IsForkOf, IsCall, batch, entry, asked, Descends}
use Rattle.legal_spec.specs.Legal.{IsEachCallOnce, HasWaited}
use Rattle.legal_forms.specs.MadeCalls.{MadeCall, made_calls, greatest_of, greatest_reached, MadeFork, forks_of, has_task, task_numbers, version_told, descendants}
use Rattle.legal_forms.specs.Forms.{has_fresh_calls, is_after, none_late, is_told, is_awaited, has_waited, is_fresh}
use Rattle.legal_forms.specs.Laws.{FreshnessIsDecided}
use Rattle.legal_forms_laws.proofs.Quantified.{Each, IsSomewhere, EachPairOrSelf, no_selves, selves_of_both, list_all_decides, list_any_decides}
use Rattle.legal_forms_laws.proofs.Members.{Has, has_there, place_of_one}
use Rattle.legal_forms_laws.proofs.MadeCalls.{is_made, made_is}
use Rattle.legal_forms_laws.proofs.Forks.{fork_of_entry, has_fork, fork_has, number_decides, task_decides}
use Rattle.legal_forms_laws.proofs.Entries.{le_decides}
use Rattle.legal_forms_laws.proofs.Calls.{to_list}
use Rattle.legal_forms_laws.proofs.Walked.{IsInOrder, walk_decides}
use Rattle.legal_forms_laws.proofs.Lineages.{descendants_decide}

-- the greatest value is at least that of each element with the key, and no more than what none of theirs is above
module _ {X : Type 0} (key value : X → ℕ) where
  greatest_above : (xs : List X) (y : X) → Has xs y → value y ≤ greatest_of key value xs (key y)
  greatest_above [] y has = absurd has
  greatest_above (x ∷ xs) y (inl is) =
      let here : (key x == key y) ≡ true = eq-eqb (key x) (key y) (ap key is) in
      let same : value x ≡ value y = ap value is in
      rw here (omega (arith, same))
  greatest_above (x ∷ xs) y (inr has) = by (key x == key y) (greatest_above xs y has)
    where
      by : (b : Bool) → value y ≤ greatest_of key value xs (key y)
          → value y ≤ cond b (max (value x) (greatest_of key value xs (key y))) (greatest_of key value xs (key y))
      by true less = omega (arith, less)
      by false less = less

  greatest_below : (xs : List X) (k most : ℕ) → ((y : X) → Has xs y → key y ≡ k → value y ≤ most) → greatest_of key value xs k ≤ most
  greatest_below [] k most each = omega arith
  greatest_below (x ∷ xs) k most each = by (key x == k) refl (greatest_below xs k most (λ y has same. each y (inr has) same))
    where
      by : (b : Bool) → (key x == k) ≡ b → greatest_of key value xs k ≤ most
          → cond b (max (value x) (greatest_of key value xs k)) (greatest_of key value xs k) ≤ most
      by true is less = omega (arith, less, each x (inl refl) (eqb-true (key x) k is))
      by false is less = less

up : (r : RunRecord) (task seq needs reaches : ℕ) → IsCall r task seq needs reaches → needs ≤ reaches
up r task seq needs reaches (batch i b at) = omega arith
up r task seq needs reaches (entry i e at) = omega arith
up r task seq needs reaches (asked i a at) = omega arith

module _ (r : RunRecord) (calls : IsEachCallOnce r) where
  abbrev forks : List MadeFork
  forks = forks_of r.history

  abbrev call_of : (task seq needs reaches : ℕ) → MadeCall
  call_of task seq needs reaches = record { task = task; seq = seq; needs = needs; reaches = reaches }

  -- the calls of a task, with what its forks tell
  abbrev IsFreshTask : ℕ → Type 0
  IsFreshTask task = IsInOrder (made_calls r) task (version_told forks task)

  fresh_decides : (task : ℕ) → Decides (has_fresh_calls r task) (IsFreshTask task)
  fresh_decides task =
      walk_decides (made_calls r) task (version_told forks task) (λ c has. up r c.task c.seq c.needs c.reaches (made_is r c has))

  abbrev AreSeen : Type 0
  AreSeen = (task seq needs reaches seq' needs' reaches' : ℕ) → IsCall r task seq needs reaches → IsCall r task seq' needs' reaches'
      → seq < seq' → reaches ≤ needs'

  abbrev AreForked : Type 0
  AreForked = (i : ℕ) (fork : Entry) (pid : Pid) (task seq needs reaches : ℕ) → Stands r.history i fork → IsForkOf fork task pid
      → IsCall r task seq needs reaches → fork.version ≤ needs

  task_of : (task seq needs reaches : ℕ) → IsCall r task seq needs reaches → (i : ℕ) × Stands (task_numbers r.history) i task
  task_of task seq needs reaches call =
      place_of_one (task_numbers r.history) task
      ((number_decides (task_numbers r.history) task).0 ((task_decides r.history task).1 (calls.of_tasks task seq needs reaches call)))

  each_seen : Each (λ i. IsFreshTask) (task_numbers r.history) → AreSeen
  each_seen each task seq needs reaches seq' needs' reaches' first second less =
      let place = task_of task seq needs reaches first in
      (each place.0 task place.1).seen _ _ (is_made r task seq needs reaches first) (is_made r task seq' needs' reaches' second) refl refl less

  each_forked : Each (λ i. IsFreshTask) (task_numbers r.history) → AreForked
  each_forked each i fork pid task seq needs reaches at is call =
      let place = task_of task seq needs reaches call in
      let least = (each place.0 task place.1).forked _ (is_made r task seq needs reaches call) refl in
      let told = greatest_above (λ (f : MadeFork). f.number) (λ (f : MadeFork). f.version) forks (fork_of_entry fork task pid) (has_fork r.history i fork task pid at is) in
      omega (arith, least, told)

  all_fresh : AreSeen → AreForked → (task : ℕ) → IsFreshTask task
  all_fresh seen forked task = record {
    once = to_list r calls.once task;
    seen = λ c d has has' own own' less.
        let first = made_is r c has in
        let second = made_is r d has' in
        seen task c.seq c.needs c.reaches d.seq d.needs d.reaches (subst (λ (t : ℕ). IsCall r t c.seq c.needs c.reaches) own first)
        (subst (λ (t : ℕ). IsCall r t d.seq d.needs d.reaches) own' second) less;
    forked = λ c has own.
        greatest_below (λ (f : MadeFork). f.number) (λ (f : MadeFork). f.version) forks task c.needs (λ f among same.
        let fork = fork_has r.history f among in
        let version : fork.fork.version ≡ f.version = ap (λ (g : MadeFork). g.version) fork.same in
        let low =
        forked fork.place fork.fork f.pid task c.seq c.needs c.reaches fork.there
        (subst (λ (n : ℕ). IsForkOf fork.fork n f.pid) same fork.is)
        (subst (λ (t : ℕ). IsCall r t c.seq c.needs c.reaches) own (made_is r c has)) in
        omega (arith, version, low));
  }

  seen_decide : Decides (list_all (has_fresh_calls r) (task_numbers r.history)) (AreSeen × AreForked)
  seen_decide =
      Decides-like (list_all (has_fresh_calls r) (task_numbers r.history)) (λ each. (each_seen each, each_forked each))
      (λ fresh i task at. all_fresh fresh.0 fresh.1 task)
      (list_all_decides (has_fresh_calls r) IsFreshTask fresh_decides (task_numbers r.history))

  -- what a wait for a task of this number tells
  module _ (a : AskedLine) (number : ℕ) where
    abbrev below : List ℕ
    below = descendants forks number

    below_decides : (k : ℕ) → Decides (has_task below k) (Descends r.history number k)
    below_decides = descendants_decide r.history number calls.behind_fork

    abbrev IsTold : Type 0
    IsTold = (task seq needs reaches : ℕ) → Descends r.history number task → IsCall r task seq needs reaches → reaches ≤ a.version

    abbrev told : Bool
    told = list_all (λ task. nat_le (greatest_reached (made_calls r) task) a.version) below

    among_below : (task : ℕ) → Descends r.history number task → Has below task
    among_below task down = (number_decides below task).0 ((below_decides task).1 down)

    told_by : Each (λ i task. greatest_reached (made_calls r) task ≤ a.version) below → IsTold
    told_by each task seq needs reaches down call =
        let place = place_of_one below task (among_below task down) in
        let most = each place.0 task place.1 in
        let least = greatest_above (λ (c : MadeCall). c.task) (λ (c : MadeCall). c.reaches) (made_calls r) (call_of task seq needs reaches) (is_made r task seq needs reaches call) in
        omega (arith, most, least)

    told_of : IsTold → Each (λ i task. greatest_reached (made_calls r) task ≤ a.version) below
    told_of is i task at =
        let down = (below_decides task).0 ((number_decides below task).1 (has_there below i task at)) in
        greatest_below (λ (c : MadeCall). c.task) (λ (c : MadeCall). c.reaches) (made_calls r) task a.version
        (λ c has own. is c.task c.seq c.needs c.reaches (subst (Descends r.history number) (sym own) down) (made_is r c has))

    told_decides : Decides told IsTold
    told_decides =
        Decides-like told told_by told_of
        (list_all_decides (λ task. nat_le (greatest_reached (made_calls r) task) a.version)
        (λ task. greatest_reached (made_calls r) task ≤ a.version)
        (λ task. le_decides (greatest_reached (made_calls r) task) a.version) below)

    -- an entry that the waiter makes afterwards, and one that is not of those who are told of
    abbrev IsApart : Entry → Entry → Type 0
    IsApart f e = (f.task ≡ a.task) × (a.seq < f.seq) → Descends r.history number e.task → ⊥

    apart_decides : (xs : List Entry) → Decides (list_all (λ e. not (has_task below e.task)) xs) (Each (λ k e. Descends r.history number e.task → ⊥) xs)
    apart_decides =
        list_all_decides (λ e. not (has_task below e.task)) (λ e. Descends r.history number e.task → ⊥)
        (λ e. Decides-not (has_task below e.task) (below_decides e.task))

    after_decides : (f : Entry) → Decides (is_after a f) ((f.task ≡ a.task) × (a.seq < f.seq))
    after_decides f =
        Decides-and (f.task == a.task) (nat_lt a.seq f.seq) (Decides-eqb f.task a.task) (Decides-ltb a.seq f.seq)

    late_decides : (es : List Entry) → Decides (none_late a below es) (EachPairOrSelf IsApart es)
    late_decides [] = ((λ e. no_selves IsApart), (λ all. refl))
    late_decides (f ∷ es) = by (is_after a f) (after_decides f) (late_decides es)
      where
        by : (b : Bool) → Decides b ((f.task ≡ a.task) × (a.seq < f.seq)) → Decides (none_late a below es) (EachPairOrSelf IsApart es)
            → Decides (if b then list_all (λ e. not (has_task below e.task)) (f ∷ es) else none_late a below es) (EachPairOrSelf IsApart (f ∷ es))
        by true after rest =
            Decides-like (list_all (λ e. not (has_task below e.task)) (f ∷ es)) (λ all i k g e at_g at_e le late down. all k e at_e down)
            (λ all k e at down. all 0 k f e refl at (omega arith) (after.0 refl) down) (apart_decides (f ∷ es))
        by false after rest =
            Decides-like (none_late a below es)
            (λ all. selves_of_both IsApart f es (λ k e at late down. absurd (wrong (after.1 late))) all)
            (λ all i k g e at_g at_e le. all (suc i) (suc k) g e at_g at_e (omega (arith, le))) rest
          where
            wrong : false ≡ true → ⊥
            wrong is = cc

    abbrev IsBehind : Type 0
    IsBehind = (i k : ℕ) (e f : Entry) → Descends r.history number e.task → Stands r.history i e → Stands r.history k f
        → f.task ≡ a.task → a.seq < f.seq → i < k

    behind_decides : Decides (none_late a below r.history) IsBehind
    behind_decides =
        Decides-like (none_late a below r.history)
        (λ apart i k e f down at_e at_f own later.
        ⊎_elim (λ less. less) (λ le. absurd (apart k i f e at_f at_e le (own, later) down)) (cases_lt i k))
        (λ behind k i f e at_f at_e le late down. omega (arith, le, behind i k e f down at_e at_f late.0 late.1))
        (late_decides r.history)

    is_told_decides : Decides (is_told r a below) (IsTold × IsBehind)
    is_told_decides = Decides-and told (none_late a below r.history) told_decides behind_decides

  -- the fork of the awaited task
  abbrev IsAwaited : AskedLine → Pid → MadeFork → Type 0
  IsAwaited a pid f = (f.pid.0 ≡ pid.0) × ((f.parent ≡ a.task) × (f.seq < a.seq))

  abbrev IsWaitFor : AskedLine → Pid → MadeFork → Type 0
  IsWaitFor a pid f = IsAwaited a pid f × (IsTold a f.number × IsBehind a f.number)

  awaited_decides : (a : AskedLine) (pid : Pid) (f : MadeFork)
      → Decides (is_awaited a pid f && is_told r a (descendants forks f.number)) (IsWaitFor a pid f)
  awaited_decides a pid f =
      Decides-and (is_awaited a pid f) (is_told r a (descendants forks f.number))
      (Decides-and (f.pid.0 == pid.0) _ (Decides-eqb f.pid.0 pid.0)
      (Decides-and (f.parent == a.task) (nat_lt f.seq a.seq) (Decides-eqb f.parent a.task) (Decides-ltb f.seq a.seq)))
      (is_told_decides a f.number)

  waited_by : (a : AskedLine) (pid : Pid) → IsSomewhere (IsWaitFor a pid) forks → HasWaited r a pid
  waited_by a pid some =
      let f = some.1 in
      let is = some.3 in
      let fork = fork_has r.history f (has_there forks some.0 f some.2) in
      let seq : fork.fork.seq ≡ f.seq = ap (λ (g : MadeFork). g.seq) fork.same in
      let before : f.seq < a.seq = is.0.1.1 in
      record {
        number = f.number;
        place = fork.place;
        fork = fork.fork;
        there = fork.there;
        is = subst (λ (p : Pid). IsForkOf fork.fork f.number p) (λ i. record { 0 = is.0.0 i }) fork.is;
        own = ap (λ (g : MadeFork). g.parent) fork.same ∙ is.0.1.0;
        after = omega (arith, seq, before);
        told = is.1.0;
        behind = is.1.1;
      }

  waits_for : (a : AskedLine) (pid : Pid) → HasWaited r a pid → IsSomewhere (IsWaitFor a pid) forks
  waits_for a pid w =
      let place = place_of_one forks (fork_of_entry w.fork w.number pid) (has_fork r.history w.place w.fork w.number pid w.there w.is) in
      (place.0, fork_of_entry w.fork w.number pid, place.1, ((refl, (w.own, w.after)), (w.told, w.behind)))

  abbrev IsWaitTold : AskedLine → AskedWhat → Type 0
  IsWaitTold a what = (pid : Pid) → what ≡ AskedWhat.Wait pid → HasWaited r a pid

  no_wait : (a : AskedLine) (what : AskedWhat) → ((pid : Pid) → what ≡ AskedWhat.Wait pid → ⊥) → Decides true (IsWaitTold a what)
  no_wait a what none = ((λ e pid is. absurd (none pid is)), (λ told. refl))

  same_wait : (p q : Pid) → AskedWhat.Wait p ≡ AskedWhat.Wait q → p ≡ q
  same_wait p q is = cc

  waited_decides : (a : AskedLine) (what : AskedWhat) → Decides (has_waited r a what) (IsWaitTold a what)
  waited_decides a (AskedWhat.Ask v) = no_wait a (AskedWhat.Ask v) (λ pid is. cc)
  waited_decides a (AskedWhat.Refused file fault) = no_wait a (AskedWhat.Refused file fault) (λ pid is. cc)
  waited_decides a (AskedWhat.Wait p) =
      Decides-like (has_waited r a (AskedWhat.Wait p)) (λ some pid is. subst (HasWaited r a) (same_wait p pid is) (waited_by a p some))
      (λ told. waits_for a p (told p refl))
      (list_any_decides (λ f. is_awaited a p f && is_told r a (descendants forks f.number)) (IsWaitFor a p) (awaited_decides a p) forks)

pub freshness_is_decided : FreshnessIsDecided
freshness_is_decided r calls =
    Decides-like (is_fresh r)
    (λ both. record { seen = both.0.0; forked = both.0.1; waited = λ i a pid at is. both.1 i a at pid is })
    (λ fresh. ((fresh.seen, fresh.forked), (λ i a at pid is. fresh.waited i a pid at is)))
    (Decides-and (list_all (has_fresh_calls r) (task_numbers r.history)) (list_all (λ a. has_waited r a a.what) r.asked) (seen_decide r calls)
    (list_all_decides (λ a. has_waited r a a.what) (λ a. (pid : Pid) → a.what ≡ AskedWhat.Wait pid → HasWaited r a pid)
    (λ a. waited_decides r calls a a.what) r.asked))
