-- What a walk that passes has met, and what makes a walk pass.
use Rattle.std.proofs.Common.{◌≡◌, ◌≤◌, ◌<◌, ℕ, zero, suc, ◌+◌, true, ◌&&◌, Option, Some, None, refl, sym, ap, ◌∙◌, subst, arith}
use Rattle.std.proofs.lemmas.Bool.{and_parts, and_from, leb-true, le-leb}
use Rattle.legal_forms.specs.MadeCalls.{MadeCall}
use Rattle.legal_forms.specs.Forms.{is_fresh_call, version_reached, are_fresh_calls}

module _ (look : ℕ → Option MadeCall) (rises : (q : ℕ) (c : MadeCall) → look q ≡ Some c → c.needs ≤ c.reaches) where
  pub record Met (told q : ℕ) : Type 0 where
    pub call : MadeCall
    pub there : look q ≡ Some call
    pub fresh : told ≤ call.needs

  first_met : (told q : ℕ) → is_fresh_call told (look q) ≡ true → Met told q
  first_met told q is = by (look q) refl is
    where
      by : (found : Option MadeCall) → look q ≡ found → is_fresh_call told found ≡ true → Met told q
      by None there is = absurd cc
      by (Some c) there is = record { call = c; there = there; fresh = leb-true told c.needs is }

  -- each number that was walked over has a call, which is not older than what was told at first
  pub walked : (n told q i : ℕ) → are_fresh_calls look told q n ≡ true → i < n → Met told (q + i)
  walked zero told q i is less = absurd (omega (arith, less))
  walked (suc n) told q i is less = by (λ reach j. walked n reach (q + 1) j) (first_met told q parts.0) i less
    where
      parts : (is_fresh_call told (look q) ≡ true) × (are_fresh_calls look (version_reached told (look q)) (q + 1) n ≡ true)
      parts = and_parts (is_fresh_call told (look q)) (are_fresh_calls look (version_reached told (look q)) (q + 1) n) is

      by : ((reach j : ℕ) → are_fresh_calls look reach (q + 1) n ≡ true → j < n → Met reach ((q + 1) + j)) → Met told q → (i : ℕ) → i < suc n → Met told (q + i)
      by again met zero less = let same : q ≡ q + 0 = omega arith in subst (Met told) same met
      by again met (suc i) less =
          let next = again met.call.reaches i (ap (λ o. are_fresh_calls look (version_reached told o) (q + 1) n) (sym met.there) ∙ parts.1) (omega (arith, less)) in
          let same : (q + 1) + i ≡ q + suc i = omega arith in
          let least = met.fresh in let up = rises q met.call met.there in let more = next.fresh in
          subst (Met told) same (record { call = next.call; there = next.there; fresh = omega (arith, least, up, more) })

  -- what an earlier one reached is not above what a later one needs
  pub walked_pair : (n told q i k : ℕ) (c d : MadeCall) → are_fresh_calls look told q n ≡ true → i < k → k < n → look (q + i) ≡ Some c → look (q + k) ≡ Some d
      → c.reaches ≤ d.needs
  walked_pair zero told q i k c d is less high there there' = absurd (omega (arith, high))
  walked_pair (suc n) told q i zero c d is less high there there' = absurd (omega (arith, less))
  walked_pair (suc n) told q i (suc k) c d is less high there there' =
      by (λ j. walked_pair n (version_reached told (look q)) (q + 1) j k c d parts.1) (first_met told q parts.0) i less there
    where
      parts : (is_fresh_call told (look q) ≡ true) × (are_fresh_calls look (version_reached told (look q)) (q + 1) n ≡ true)
      parts = and_parts (is_fresh_call told (look q)) (are_fresh_calls look (version_reached told (look q)) (q + 1) n) is

      moved : (j : ℕ) (e : MadeCall) → look (q + suc j) ≡ Some e → look ((q + 1) + j) ≡ Some e
      moved j e is = let same : q + suc j ≡ (q + 1) + j = omega arith in subst (λ x. look x ≡ Some e) same is

      by : ((j : ℕ) → j < k → k < n → look ((q + 1) + j) ≡ Some c → look ((q + 1) + k) ≡ Some d → c.reaches ≤ d.needs)
          → Met told q → (i : ℕ) → i < suc k → look (q + i) ≡ Some c → c.reaches ≤ d.needs
      by again met zero less there =
          let rest = ap (λ o. are_fresh_calls look (version_reached told o) (q + 1) n) (sym met.there) ∙ parts.1 in
          let next = walked n met.call.reaches (q + 1) k rest (omega (arith, high)) in
          let here : look q ≡ Some c = let same : q + 0 ≡ q = omega arith in subst (λ x. look x ≡ Some c) same there in
          let first : met.call ≡ c = let both : ◌≡◌ {A = Option MadeCall} (Some met.call) (Some c) = sym met.there ∙ here in cc in
          let second : next.call ≡ d = let both : ◌≡◌ {A = Option MadeCall} (Some next.call) (Some d) = sym next.there ∙ moved k d there' in cc in
          let fresh = next.fresh in
          subst (λ (x : MadeCall). x.reaches ≤ d.needs) first (subst (λ (y : MadeCall). met.call.reaches ≤ y.needs) second fresh)
      by again met (suc i) less there = again i (omega (arith, less)) (omega (arith, high)) (moved i c there) (moved k d there')

  -- a walk passes where each number has a call, the first is not older than what was told, and none than the one before
  pub walks : (n told q : ℕ) → ((i : ℕ) → i < n → (c : MadeCall) × (look (q + i) ≡ Some c)) → ((c : MadeCall) → look q ≡ Some c → told ≤ c.needs)
      → ((i : ℕ) (c d : MadeCall) → look (q + i) ≡ Some c → look (q + suc i) ≡ Some d → c.reaches ≤ d.needs) → are_fresh_calls look told q n ≡ true
  walks zero told q each first pairs = refl
  walks (suc n) told q each first pairs = by (λ reach. walks n reach (q + 1)) (each 0 (omega arith))
    where
      at_first : (c : MadeCall) → look (q + 0) ≡ Some c → look q ≡ Some c
      at_first c is = let same : q + 0 ≡ q = omega arith in subst (λ x. look x ≡ Some c) same is

      moved : (j : ℕ) (e : MadeCall) → look ((q + 1) + j) ≡ Some e → look (q + suc j) ≡ Some e
      moved j e is = let same : (q + 1) + j ≡ q + suc j = omega arith in subst (λ x. look x ≡ Some e) same is

      moved_back : (j : ℕ) (e : MadeCall) → look (q + suc j) ≡ Some e → look ((q + 1) + j) ≡ Some e
      moved_back j e is = let same : q + suc j ≡ (q + 1) + j = omega arith in subst (λ x. look x ≡ Some e) same is

      by : ((reach : ℕ) → ((i : ℕ) → i < n → (c : MadeCall) × (look ((q + 1) + i) ≡ Some c)) → ((c : MadeCall) → look (q + 1) ≡ Some c → reach ≤ c.needs)
          → ((i : ℕ) (c d : MadeCall) → look ((q + 1) + i) ≡ Some c → look ((q + 1) + suc i) ≡ Some d → c.reaches ≤ d.needs) → are_fresh_calls look reach (q + 1) n ≡ true)
          → (c : MadeCall) × (look (q + 0) ≡ Some c) → (is_fresh_call told (look q) && are_fresh_calls look (version_reached told (look q)) (q + 1) n) ≡ true
      by again (c, there) =
          let here = at_first c there in
          let rest = again c.reaches
          (λ i less. let found = each (suc i) (omega (arith, less)) in (found.0, moved_back i found.0 found.1))
          (λ d is. pairs 0 c d there (let same : q + 1 ≡ q + suc 0 = omega arith in subst (λ x. look x ≡ Some d) same is))
          (λ i x y is is'. pairs (suc i) x y (moved i x is) (moved (suc i) y is')) in
          and_from _ _ (ap (is_fresh_call told) here ∙ le-leb told c.needs (first c here)) (ap (λ o. are_fresh_calls look (version_reached told o) (q + 1) n) here ∙ rest)
