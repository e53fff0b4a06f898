-- The first call with a number.
use Rattle.std.proofs.Common.{◌≡◌, ◌≤◌, inl, inr, ℕ, ◌+◌, Bool, true, false, ◌==◌, cond, List, [], ◌∷◌, Some, refl, sym, ap, ◌∙◌, arith}
use Rattle.std.proofs.lemmas.Bool.{and_parts, and_from, eqb-true, eq-eqb}
use Rattle.legal_forms.specs.MadeCalls.{MadeCall}
use Rattle.legal_forms.specs.MadeCalls.{call_at}
use Rattle.legal_forms_laws.proofs.Members.{Has}
use Rattle.legal_forms_laws.proofs.MadeCalls.{is_at, count_at, count-cons}

module _ (task q : ℕ) where
  -- what stands there is a call of the list with this number
  pub record IsThere (calls : List MadeCall) (c : MadeCall) : Type 0 where
    pub has : Has calls c
    pub task_is : c.task ≡ task
    pub seq_is : c.seq ≡ q
    pub counted : 1 ≤ count_at calls task q

  pub call_is : (calls : List MadeCall) (c : MadeCall) → call_at calls task q ≡ Some c → IsThere calls c
  call_is [] c is = absurd cc
  call_is (x ∷ xs) c is = by (call_is xs c) (is_at task q x) refl is
    where
      more : count_at (x ∷ xs) task q ≡ cond (is_at task q x) 1 0 + count_at xs task q
      more = count-cons (is_at task q) x xs

      by : (call_at xs task q ≡ Some c → IsThere xs c) → (b : Bool) → is_at task q x ≡ b → cond b (Some x) (call_at xs task q) ≡ Some c → IsThere (x ∷ xs) c
      by again true good is =
          let same : x ≡ c = cc in
          let parts = and_parts (x.task == task) (x.seq == q) good in
          let one : ◌≡◌ {A = ℕ} (cond (is_at task q x) 1 0) 1 = rw good refl in
          record {
            has = inl same;
            task_is = ap (λ (y : MadeCall). y.task) (sym same) ∙ eqb-true x.task task parts.0;
            seq_is = ap (λ (y : MadeCall). y.seq) (sym same) ∙ eqb-true x.seq q parts.1;
            counted = omega (arith, more, one);
          }
      by again false good is =
          let rest = again is in
          let there = rest.counted in
          record { has = inr rest.has; task_is = rest.task_is; seq_is = rest.seq_is; counted = omega (arith, more, there) }

  -- something stands there where one is counted
  pub call_some : (calls : List MadeCall) → 1 ≤ count_at calls task q → (c : MadeCall) × (call_at calls task q ≡ Some c)
  call_some [] counted = absurd (omega (arith, counted))
  call_some (x ∷ xs) counted = by (call_some xs) (is_at task q x) refl
    where
      more : count_at (x ∷ xs) task q ≡ cond (is_at task q x) 1 0 + count_at xs task q
      more = count-cons (is_at task q) x xs

      by : (1 ≤ count_at xs task q → (c : MadeCall) × (call_at xs task q ≡ Some c)) → (b : Bool) → is_at task q x ≡ b → (c : MadeCall) × (cond b (Some x) (call_at xs task q) ≡ Some c)
      by again true good = (x, refl)
      by again false good =
          let none : ◌≡◌ {A = ℕ} (cond (is_at task q x) 1 0) 0 = rw good refl in
          let parts = more in
          again (omega (arith, counted, parts, none))

  -- a call of the list with this number is counted
  pub has_counts : (calls : List MadeCall) (c : MadeCall) → Has calls c → c.task ≡ task → c.seq ≡ q → 1 ≤ count_at calls task q
  has_counts [] c has t s = absurd has
  has_counts (x ∷ xs) c (inl same) t s =
      let more = count-cons (is_at task q) x xs in
      let good : is_at task q x ≡ true = and_from _ _ (eq-eqb x.task task (ap (λ (y : MadeCall). y.task) same ∙ t)) (eq-eqb x.seq q (ap (λ (y : MadeCall). y.seq) same ∙ s)) in
      let one : ◌≡◌ {A = ℕ} (cond (is_at task q x) 1 0) 1 = rw good refl in
      omega (arith, more, one)
  has_counts (x ∷ xs) c (inr has) t s =
      let more = count-cons (is_at task q) x xs in
      let rest = has_counts xs c has t s in
      omega (arith, more, rest)

  -- and where there is just one, it is the one that stands there
  pub only_there : (calls : List MadeCall) (c : MadeCall) → Has calls c → c.task ≡ task → c.seq ≡ q → count_at calls task q ≤ 1 → call_at calls task q ≡ Some c
  only_there [] c has t s one = absurd has
  only_there (x ∷ xs) c has t s one = by (λ there less. only_there xs c there t s less) (is_at task q x) refl has
    where
      more : count_at (x ∷ xs) task q ≡ cond (is_at task q x) 1 0 + count_at xs task q
      more = count-cons (is_at task q) x xs

      by : (Has xs c → count_at xs task q ≤ 1 → call_at xs task q ≡ Some c) → (b : Bool) → is_at task q x ≡ b → Has (x ∷ xs) c → cond b (Some x) (call_at xs task q) ≡ Some c
      by again true good (inl same) = λ i. Some (same i)
      by again true good (inr there) =
          let first : ◌≡◌ {A = ℕ} (cond (is_at task q x) 1 0) 1 = rw good refl in
          let rest = has_counts xs c there t s in
          let parts = more in
          absurd (omega (arith, parts, first, rest, one))
      by again false good (inl same) =
          let yes : is_at task q x ≡ true = and_from _ _ (eq-eqb x.task task (ap (λ (y : MadeCall). y.task) same ∙ t)) (eq-eqb x.seq q (ap (λ (y : MadeCall). y.seq) same ∙ s)) in
          absurd cc
      by again false good (inr there) = let parts = more in again there (omega (arith, parts, one))
