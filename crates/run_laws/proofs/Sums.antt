-- Members by their keys, and how many there are.
use Rattle.std.proofs.Common.{◌≡◌, ◌≢◌, ℕ, ◌+◌, ◌≤◌, List, [], ◌∷◌, length, sym, refl, subst, arith, eq-eqb, ne_eqb}
use mathlib.Core.Logic.{dite}
use native.Mathlib.Decide.{ℕ_discrete}
use Rattle.live_table.specs.Lists.{Has, here, there, those_of}
use Rattle.runs_spec.specs.Runs.{Distinct}

abbrev pub sum_of : (ℕ → ℕ) → List ℕ → ℕ
sum_of f [] = 0
sum_of f (k ∷ ks) = f k + sum_of f ks

module _ {A : Type 0} (number : A → ℕ) where
  -- how many members have one of these keys, each key counted
  abbrev pub under : List A → List ℕ → ℕ
  under xs = sum_of (λ k. length (those_of number k xs))

  of_key : (x : A) (xs : List A) (k : ℕ) → number x ≡ k → length (those_of number k (x ∷ xs)) ≡ 1 + length (those_of number k xs)
  of_key x xs k e = rw (eq-eqb (number x) k e) (omega arith)

  not_of_key : (x : A) (xs : List A) (k : ℕ) → number x ≢ k → length (those_of number k (x ∷ xs)) ≡ length (those_of number k xs)
  not_of_key x xs k ne = rw (ne_eqb (number x) k ne) refl

  key_grows : (x : A) (xs : List A) (k : ℕ) → length (those_of number k xs) ≤ length (those_of number k (x ∷ xs))
  key_grows x xs k = dite (ℕ_discrete (number x) k) (λ e. omega (arith, of_key x xs k e)) (λ ne. omega (arith, not_of_key x xs k ne))

  under_grows : (x : A) (xs : List A) (ks : List ℕ) → under xs ks ≤ under (x ∷ xs) ks
  under_grows x xs [] = omega arith
  under_grows x xs (k ∷ ks) = omega (arith, key_grows x xs k, under_grows x xs ks)

  one_more : (x : A) (xs : List A) (ks : List ℕ) (m : ℕ) → number x ≡ m → Has m ks → 1 + under xs ks ≤ under (x ∷ xs) ks
  one_more x xs [] m e h = elim h [ ]
  one_more x xs (k ∷ ks) m e here = omega (arith, of_key x xs k e, under_grows x xs ks)
  one_more x xs (k ∷ ks) m e (there h) = omega (arith, key_grows x xs k, one_more x xs ks m e h)

  -- where each member has one of the keys, there are no more members than those under the keys
  pub all_under : (xs : List A) (ks : List ℕ) → ((x : A) → Has x xs → Has (number x) ks) → length xs ≤ under xs ks
  all_under [] ks in_keys = omega arith
  all_under (x ∷ xs) ks in_keys =
      omega (arith, all_under xs ks (λ y h. in_keys y (there h)), one_more x xs ks (number x) refl (in_keys x here))

  none_more : (x : A) (xs : List A) (ks : List ℕ) → (Has (number x) ks → ⊥) → under (x ∷ xs) ks ≡ under xs ks
  none_more x xs [] none = refl
  none_more x xs (k ∷ ks) none =
      omega (
        arith,
        not_of_key x xs k (λ e. none (subst (λ m. Has m (k ∷ ks)) (sym e) here)),
        none_more x xs ks (λ h. none (there h)),
      )

  one_at_most : (x : A) (xs : List A) (ks : List ℕ) → Distinct ks → under (x ∷ xs) ks ≤ 1 + under xs ks
  one_at_most x xs [] d = omega arith
  one_at_most x xs (k ∷ ks) d = dite (ℕ_discrete (number x) k)
      (λ e. omega (arith, of_key x xs k e, none_more x xs ks (λ h. d.0 (subst (λ m. Has m ks) e h))))
      (λ ne. omega (arith, not_of_key x xs k ne, one_at_most x xs ks d.1))

  none_under : (ks : List ℕ) → under [] ks ≡ 0
  none_under [] = refl
  none_under (k ∷ ks) = omega (arith, none_under ks)

  -- where no key stands twice, no more are under the keys than there are
  pub under_distinct : (xs : List A) (ks : List ℕ) → Distinct ks → under xs ks ≤ length xs
  under_distinct [] ks d = omega (arith, none_under ks)
  under_distinct (x ∷ xs) ks d = omega (arith, one_at_most x xs ks d, under_distinct xs ks d)
