-- One walk over the numbers of a task's calls decides the clauses of the task.
use Rattle.std.proofs.Common.{◌≡◌, ◌≤◌, ◌<◌, ℕ, suc, ◌+◌, ◌-◌, Bool, true, false, ◌&&◌, cond, if◌then◌else◌, nat_le, List, Option, Some, refl, sym, ap, ◌∙◌, subst, arith}
use Rattle.std.specs.Bool.{Decides}
use Rattle.std.proofs.lemmas.Bool.{and_parts, leb-true, le-leb}
use Rattle.legal_forms.specs.MadeCalls.{MadeCall, count_of, call_at}
use Rattle.legal_forms.specs.Forms.{are_fresh_calls}
use Rattle.legal_forms_laws.proofs.Members.{Has}
use Rattle.legal_forms_laws.proofs.MadeCalls.{count_at}
use Rattle.legal_forms_laws.proofs.Counting.{Filled, once_filled}
use Rattle.legal_forms_laws.proofs.CallsAt.{call_is, call_some, has_counts, only_there}
use Rattle.legal_forms_laws.proofs.Walks.{walked, walked_pair, walks}

-- The clauses for one task, which was told of a version at first.
pub record IsInOrder (calls : List MadeCall) (task told : ℕ) : Type 0 where
  -- the calls of a task are numbered 1, 2, .. up to how many it has, each once
  pub once : (seq : ℕ) → count_at calls task seq ≡ (if nat_le 1 seq && nat_le seq (count_of calls task) then 1 else 0)
  -- seen: what each earlier call of the task reached
  pub seen : (c d : MadeCall) → Has calls c → Has calls d → c.task ≡ task → d.task ≡ task → c.seq < d.seq → c.reaches ≤ d.needs
  -- told by the fork that made the task
  pub forked : (c : MadeCall) → Has calls c → c.task ≡ task → told ≤ c.needs

-- no call reaches less than it needs: a batch reaches one version more, and every other call its own
module _ (calls : List MadeCall) (task told : ℕ) (rises : (c : MadeCall) → Has calls c → c.needs ≤ c.reaches) where
  abbrev n : ℕ
  n = count_of calls task

  abbrev look : ℕ → Option MadeCall
  look q = call_at calls task q

  look_rises : (q : ℕ) (c : MadeCall) → look q ≡ Some c → c.needs ≤ c.reaches
  look_rises q c is = rises c (call_is task q calls c is).has

  -- a number that is counted is in the range
  in_range : (b : Bool) → 1 ≤ cond b 1 0 → b ≡ true
  in_range true least = refl
  in_range false least = absurd (omega (arith, least))

  module _ (is : are_fresh_calls look told 1 n ≡ true) where
    filled : Filled task calls 1 n
    filled i less = let met = walked look look_rises n told 1 i is less in (call_is task (1 + i) calls met.call met.there).counted

    once : (seq : ℕ) → count_at calls task seq ≡ (if nat_le 1 seq && nat_le seq n then 1 else 0)
    once seq = once_filled task calls filled seq

    -- a call of the task stands at its number, which is from 1 to n
    record Place (c : MadeCall) : Type 0 where
      i : ℕ
      seq_is : c.seq ≡ 1 + i
      less : i < n
      there : look (1 + i) ≡ Some c

    place : (c : MadeCall) → Has calls c → c.task ≡ task → Place c
    place c has t =
        let counted = has_counts task c.seq calls c has t refl in
        let told_once = once c.seq in
        let good = in_range (nat_le 1 c.seq && nat_le c.seq n) (omega (arith, counted, told_once)) in
        let parts = and_parts (nat_le 1 c.seq) (nat_le c.seq n) good in
        let low = leb-true 1 c.seq parts.0 in
        let high = leb-true c.seq n parts.1 in
        let one : count_at calls task c.seq ≤ 1 = let is_one : count_at calls task c.seq ≡ 1 = told_once ∙ ap (λ b. cond b 1 0) good in omega (arith, is_one) in
        let same : c.seq ≡ 1 + (c.seq - 1) = omega (arith, low) in
        record {
          i = c.seq - 1;
          seq_is = same;
          less = omega (arith, low, high);
          there = subst (λ q. look q ≡ Some c) same (only_there task c.seq calls c has t refl one);
        }

    ordered : IsInOrder calls task told
    ordered = record {
      once = once;
      seen = λ c d has has' t t' less.
          let p = place c has t in let r = place d has' t' in
          let a = p.seq_is in let b = r.seq_is in
          walked_pair look look_rises n told 1 p.i r.i c d is (omega (arith, a, b, less)) r.less p.there r.there;
      forked = λ c has t.
          let p = place c has t in
          let met = walked look look_rises n told 1 p.i is p.less in
          let same : met.call ≡ c = let both : ◌≡◌ {A = Option MadeCall} (Some met.call) (Some c) = sym met.there ∙ p.there in cc in
          subst (λ (x : MadeCall). told ≤ x.needs) same met.fresh;
    }

  module _ (is : IsInOrder calls task told) where
    each : (i : ℕ) → i < n → (c : MadeCall) × (look (1 + i) ≡ Some c)
    each i less =
        let one : count_at calls task (1 + i) ≡ 1 = is.once (1 + i) ∙ rw (le-leb 1 (1 + i) (omega arith), le-leb (1 + i) n (omega (arith, less))) refl in
        call_some task (1 + i) calls (omega (arith, one))

    passes : are_fresh_calls look told 1 n ≡ true
    passes = walks look look_rises n told 1 each
        (λ c there. let found = call_is task 1 calls c there in is.forked c found.has found.task_is)
        (λ i c d there there'.
        let first = call_is task (1 + i) calls c there in
        let second = call_is task (1 + suc i) calls d there' in
        let a = first.seq_is in let b = second.seq_is in
        is.seen c d first.has second.has first.task_is second.task_is (omega (arith, a, b)))

  -- the walk passes just where the clauses hold
  pub walk_decides : Decides (are_fresh_calls look told 1 n) (IsInOrder calls task told)
  walk_decides = ((λ is. ordered is), (λ is. passes is))
