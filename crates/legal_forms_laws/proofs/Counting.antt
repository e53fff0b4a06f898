-- So many calls, and one at least of each of so many numbers: then just one of each, and none of another.
use Rattle.std.proofs.Common.{◌≡◌, ◌≤◌, ◌<◌, ◌⊎◌, inl, inr, ℕ, zero, suc, ◌+◌, ◌-◌, Bool, true, false, ◌&&◌, ◌==◌, cond, if◌then◌else◌, nat_le, List, [], ◌∷◌, refl, sym, subst, arith}
use Rattle.std.specs.List.{count_by}
use Rattle.std.proofs.lemmas.Bool.{cases_order, le-leb, lt-leb, eq-eqb, ne_eqb}
use Rattle.std.proofs.Math.Bool.{and-true}
use Rattle.legal_forms.specs.MadeCalls.{MadeCall, count_of}
use Rattle.legal_forms_laws.proofs.MadeCalls.{is_at, count_at, count-cons}

-- how many calls of a task have this number or a later one
abbrev pub count_from : List MadeCall → ℕ → ℕ → ℕ
count_from calls task q = count_by (λ c. (c.task == task) && nat_le q c.seq) calls

split_one : (t : Bool) (q s : ℕ) → cond (t && nat_le q s) 1 0 ≡ cond (t && (s == q)) 1 0 + cond (t && nat_le (q + 1) s) 1 0
split_one false q s = refl
split_one true q s = by (cases_order q s)
  where
    by : (q ≡ s) ⊎ ((q < s) ⊎ (s < q)) → cond (nat_le q s) 1 0 ≡ cond (s == q) 1 0 + cond (nat_le (q + 1) s) 1 0
    by (inl e) = rw (le-leb q s (omega (arith, e)), eq-eqb s q (sym e), lt-leb (q + 1) s (omega (arith, e))) refl
    by (inr (inl e)) = rw (le-leb q s (omega (arith, e)), ne_eqb s q (λ i. omega (arith, e, i)), le-leb (q + 1) s (omega (arith, e))) refl
    by (inr (inr e)) = rw (lt-leb q s e, ne_eqb s q (λ i. omega (arith, e, i)), lt-leb (q + 1) s (omega (arith, e))) refl

module _ (task : ℕ) where
  pub split : (q : ℕ) (calls : List MadeCall) → count_from calls task q ≡ count_at calls task q + count_from calls task (q + 1)
  split q [] = refl
  split q (c ∷ cs) =
      let a = count-cons (λ x. (x.task == task) && nat_le q x.seq) c cs in
      let b = count-cons (is_at task q) c cs in
      let d = count-cons (λ x. (x.task == task) && nat_le (q + 1) x.seq) c cs in
      let one = split_one (c.task == task) q c.seq in
      let rest = split q cs in
      omega (arith, a, b, d, one, rest)

  pub all_from : (calls : List MadeCall) → count_of calls task ≡ count_from calls task 0
  all_from [] = refl
  all_from (c ∷ cs) =
      let a = count-cons (λ x. x.task == task) c cs in
      let b = count-cons (λ x. (x.task == task) && nat_le 0 x.seq) c cs in
      let one : ◌≡◌ {A = ℕ} (cond (c.task == task) 1 0) (cond ((c.task == task) && nat_le 0 c.seq) 1 0) = rw (le-leb 0 c.seq (omega arith), and-true (c.task == task)) refl in
      let rest = all_from cs in
      omega (arith, a, b, one, rest)

  module _ (calls : List MadeCall) where
    -- one at least of each of so many numbers from this one on
    abbrev pub Filled : ℕ → ℕ → Type 0
    Filled q m = (i : ℕ) → i < m → 1 ≤ count_at calls task (q + i)

    next_filled : (q m : ℕ) → Filled q (suc m) → Filled (q + 1) m
    next_filled q m filled i less =
        let same : q + suc i ≡ (q + 1) + i = omega arith in
        subst (λ k. 1 ≤ count_at calls task k) same (filled (suc i) (omega (arith, less)))

    first_filled : (q m : ℕ) → Filled q (suc m) → 1 ≤ count_at calls task q
    first_filled q m filled =
        let same : q + 0 ≡ q = omega arith in
        subst (λ k. 1 ≤ count_at calls task k) same (filled 0 (omega arith))

    lower : (m q : ℕ) → Filled q m → m ≤ count_from calls task q
    lower zero q filled = omega arith
    lower (suc m) q filled =
        let rest = lower m (q + 1) (next_filled q m filled) in
        let first = first_filled q m filled in
        let parts = split q calls in
        omega (arith, rest, first, parts)

    pub exact : (m q : ℕ) → Filled q m → count_from calls task q ≤ m
        → ((i : ℕ) → i < m → count_at calls task (q + i) ≡ 1) × (count_from calls task (q + m) ≡ 0)
    exact zero q filled most =
        let same : q ≡ q + 0 = omega arith in
        ((λ i less. absurd (omega (arith, less))), subst (λ k. count_from calls task k ≡ 0) same (omega (arith, most)))
    exact (suc m) q filled most =
        let low = lower m (q + 1) (next_filled q m filled) in
        let first = first_filled q m filled in
        let parts = split q calls in
        let one : count_at calls task q ≡ 1 = omega (arith, low, first, parts, most) in
        let rest = exact m (q + 1) (next_filled q m filled) (omega (arith, first, parts, most)) in
        let same : (q + 1) + m ≡ q + suc m = omega arith in
        (by one rest.0, subst (λ k. count_from calls task k ≡ 0) same rest.1)
      where
        by : count_at calls task q ≡ 1 → ((i : ℕ) → i < m → count_at calls task ((q + 1) + i) ≡ 1) → (i : ℕ) → i < suc m → count_at calls task (q + i) ≡ 1
        by one rest zero less = let same : q ≡ q + 0 = omega arith in subst (λ k. count_at calls task k ≡ 1) same one
        by one rest (suc i) less =
            let same : (q + 1) + i ≡ q + suc i = omega arith in
            subst (λ k. count_at calls task k ≡ 1) same (rest i (omega (arith, less)))

  no_more : (t : Bool) (q k s : ℕ) → q ≤ k → cond (t && (s == k)) 1 0 ≤ cond (t && nat_le q s) 1 0
  no_more false q k s less = omega arith
  no_more true q k s less = by (cases_order s k)
    where
      by : (s ≡ k) ⊎ ((s < k) ⊎ (k < s)) → cond (s == k) 1 0 ≤ cond (nat_le q s) 1 0
      by (inl e) = rw (eq-eqb s k e, le-leb q s (omega (arith, e, less))) (omega arith)
      by (inr (inl e)) = rw (ne_eqb s k (λ i. omega (arith, e, i))) (omega arith)
      by (inr (inr e)) = rw (ne_eqb s k (λ i. omega (arith, e, i))) (omega arith)

  -- a number that comes later is counted with those from an earlier one on
  pub later : (q k : ℕ) → q ≤ k → (calls : List MadeCall) → count_at calls task k ≤ count_from calls task q
  later q k less [] = omega arith
  later q k less (c ∷ cs) =
      let a = count-cons (λ x. (x.task == task) && nat_le q x.seq) c cs in
      let b = count-cons (is_at task k) c cs in
      let one = no_more (c.task == task) q k c.seq less in
      let rest = later q k less cs in
      omega (arith, a, b, one, rest)

  -- with one at least of each number from 1 to how many there are, each of them is once, and no other
  pub once_filled : (calls : List MadeCall) → Filled calls 1 (count_of calls task) → (seq : ℕ)
      → count_at calls task seq ≡ (if nat_le 1 seq && nat_le seq (count_of calls task) then 1 else 0)
  once_filled calls filled seq = by (cases_order seq 0) (cases_order seq (count_of calls task))
    where
      n : ℕ
      n = count_of calls task

      most : count_from calls task 1 ≤ n
      most = let parts = split 0 calls in let all = all_from calls in omega (arith, parts, all)

      each : ((i : ℕ) → i < n → count_at calls task (1 + i) ≡ 1) × (count_from calls task (1 + n) ≡ 0)
      each = exact calls n 1 filled most

      none : count_at calls task 0 ≡ 0
      none = let parts = split 0 calls in let all = all_from calls in let low = lower calls n 1 filled in omega (arith, parts, all, low)

      within : (s : ℕ) → 0 < s → s ≤ n → count_at calls task s ≡ (if nat_le 1 s && nat_le s n then 1 else 0)
      within s low high =
          let same : 1 + (s - 1) ≡ s = omega (arith, low) in
          let is = subst (λ k. count_at calls task k ≡ 1) same (each.0 (s - 1) (omega (arith, low, high))) in
          rw (le-leb 1 s (omega (arith, low)), le-leb s n high) is

      by : (seq ≡ 0) ⊎ ((seq < 0) ⊎ (0 < seq)) → (seq ≡ n) ⊎ ((seq < n) ⊎ (n < seq)) → count_at calls task seq ≡ (if nat_le 1 seq && nat_le seq n then 1 else 0)
      by (inl e) place = subst (λ s. count_at calls task s ≡ (if nat_le 1 s && nat_le s n then 1 else 0)) (sym e) none
      by (inr (inl e)) place = absurd (omega (arith, e))
      by (inr (inr e)) (inl f) = within seq e (omega (arith, f))
      by (inr (inr e)) (inr (inl f)) = within seq e (omega (arith, f))
      by (inr (inr e)) (inr (inr f)) =
          let less = later (1 + n) seq (omega (arith, f)) calls in
          let zero_there = each.1 in
          let is : count_at calls task seq ≡ 0 = omega (arith, less, zero_there) in
          rw (le-leb 1 seq (omega (arith, e)), lt-leb seq n f) is
