-- Members, places and rising numbers.
use Rattle.std.proofs.Common.{◌≡◌, ℕ, zero, suc, ◌+◌, ◌<◌, ◌≤◌, ◌==◌, nat_lt, if◌then◌else◌, List, [], ◌∷◌, Bool, true, false, sym, refl, ap, ◌∙◌, subst, arith, Option, Some, eq-eqb}
use Rattle.std.proofs.lemmas.Bool.{eqb-true}
use Rattle.std.proofs.lemmas.Bool.Decides.{nat_tests}
use Rattle.legal_spec.specs.Calls.{Stands}
use Rattle.live_table.specs.Lists.{Has, here, there, those_of}

pub same_some : {A : Type 0} (x y : A) → ◌≡◌ {A = Option A} (Some x) (Some y) → x ≡ y
same_some x y is = cc

pub stands_has : {A : Type 0} (xs : List A) (n : ℕ) (x : A) → Stands xs n x → Has x xs
stands_has [] n x s = cc
stands_has (y ∷ ys) zero x s = subst (λ z. Has z (y ∷ ys)) (same_some y x s) here
stands_has (y ∷ ys) (suc n) x s = there (stands_has ys n x s)

pub has_stands : {A : Type 0} (xs : List A) (x : A) → Has x xs → (n : ℕ) × Stands xs n x
has_stands [] x h = elim h [ ]
has_stands (y ∷ ys) x here = (zero, refl)
has_stands (y ∷ ys) x (there h) = let i = has_stands ys x h in (suc i.0, i.1)

pub has_those : {A : Type 0} (number : A → ℕ) (k : ℕ) (xs : List A) (x : A) → number x ≡ k → Has x xs → Has x (those_of number k xs)
has_those number k [] x e h = elim h [ ]
has_those {A} number k (y ∷ xs) x e here =
    let c : those_of number k (x ∷ xs) ≡ x ∷ those_of number k xs = rw (eq-eqb (number x) k e) refl in subst (Has x) (sym c) here
has_those number k (y ∷ xs) x e (there h) =
    let i = has_those number k xs x e h in
    (elim (number y == k) as (λ b. Has x (if b then y ∷ those_of number k xs else those_of number k xs)) [
      | true ↦ there i
      | false ↦ i
    ])

pub those_has : {A : Type 0} (number : A → ℕ) (k : ℕ) (xs : List A) (x : A) → Has x (those_of number k xs) → (number x ≡ k) × Has x xs
those_has number k [] x h = elim h [ ]
those_has {A} number k (y ∷ xs) x h = by (number y == k) refl (those_has number k xs x) h
  where
    head : (Has x (those_of number k xs) → (number x ≡ k) × Has x xs) → (z : A) → y ≡ z → number z ≡ k → Has x (z ∷ those_of number k xs)
        → (number x ≡ k) × Has x (y ∷ xs)
    head rest z same e here = (e, subst (λ u. Has z (u ∷ xs)) (sym same) here)
    head rest z same e (there g) = let i = rest g in (i.0, there i.1)

    by : (b : Bool) → (number y == k) ≡ b → (Has x (those_of number k xs) → (number x ≡ k) × Has x xs)
        → Has x (if b then y ∷ those_of number k xs else those_of number k xs) → (number x ≡ k) × Has x (y ∷ xs)
    by true e rest g = head rest y refl (eqb-true (number y) k e) g
    by false e rest g = let i = rest g in (i.0, there i.1)

-- the numbers of a list rise, and the first is at least q
module _ {A : Type 0} (number seq : A → ℕ) where
  abbrev pub Rising : ℕ → List A → Type 0
  Rising q [] = Unit {0}
  Rising q (x ∷ xs) = (q ≤ seq x) × Rising (seq x + 1) xs

  pub rising_low : (q q' : ℕ) (xs : List A) → q' ≤ q → Rising q xs → Rising q' xs
  rising_low q q' [] l r = tt
  rising_low q q' (x ∷ xs) l r = let y = r.0 in (omega arith, r.1)

  pub rising_has : (q : ℕ) (xs : List A) (x : A) → Rising q xs → Has x xs → q ≤ seq x
  rising_has q [] x r h = elim h [ ]
  rising_has q (y ∷ xs) x r here = r.0
  rising_has q (y ∷ xs) x r (there h) = let i = rising_has (seq y + 1) xs x r.1 h in let z = r.0 in omega arith

  -- of two members with number k the one that stands first has the lower seq
  pub rising_pairs : (k q : ℕ) (xs : List A) → Rising q (those_of number k xs) → (n m : ℕ) (x y : A) → Stands xs n x → Stands xs m y
      → number x ≡ k → number y ≡ k → n < m → seq x < seq y
  rising_pairs k q [] r n m x y s t is it lt = cc
  rising_pairs k q (z ∷ xs) r n zero x y s t is it lt = absurd (omega arith)
  rising_pairs k q (z ∷ xs) r zero (suc m) x y s t is it lt =
      let same = same_some z x s in
      let cons : those_of number k (z ∷ xs) ≡ z ∷ those_of number k xs = rw (eq-eqb (number z) k (ap number same ∙ is)) refl in
      let tail : Rising (seq z + 1) (those_of number k xs) = (subst (Rising q) cons r).1 in
      let low = rising_has (seq z + 1) (those_of number k xs) y tail (has_those number k xs y it (stands_has xs m y t)) in
      let e = ap seq same in omega arith
  rising_pairs k q (z ∷ xs) r (suc n) (suc m) x y s t is it lt =
      let tail = by (number z == k) r in
      rising_pairs k tail.0 xs tail.1 n m x y s t is it (omega arith)
    where
      by : (b : Bool) → Rising q (if b then z ∷ those_of number k xs else those_of number k xs) → (a : ℕ) × Rising a (those_of number k xs)
      by true g = (seq z + 1, g.1)
      by false g = (q, g)

  -- and no member stands twice
  pub one_place : (k q : ℕ) (xs : List A) → Rising q (those_of number k xs) → (n m : ℕ) (x : A) → Stands xs n x → Stands xs m x
      → number x ≡ k → n ≡ m
  one_place k q xs r n m x s t is =
      (elim (nat_lt n m) as (λ b. nat_lt n m ≡ b → n ≡ m) [
        | true ↦ λ e. let l : n < m = grind (arith, nat_tests) in let no_ = rising_pairs k q xs r n m x x s t is is l in absurd (omega arith)
        | false ↦ λ e.
            (elim (nat_lt m n) as (λ b. nat_lt m n ≡ b → n ≡ m) [
              | true ↦ λ e'. let l : m < n = grind (arith, nat_tests) in let no_ = rising_pairs k q xs r m n x x t s is is l in absurd (omega arith)
              | false ↦ λ e'. let a : m ≤ n = grind (arith, nat_tests) in let b : n ≤ m = grind (arith, nat_tests) in omega arith
            ]) refl
      ]) refl
