-- Tests of all elements of a list, and of some element, decide what is said of the places of the list.
use Rattle.std.proofs.Common.{◌≡◌, ◌≤◌, ◌<◌, ◌⊎◌, inl, inr, ℕ, zero, suc, ◌+◌, Bool, ◌&&◌, ◌||◌, List, [], ◌∷◌, refl, subst, arith}
use Rattle.std.specs.Bool.{Decides}
use Rattle.std.specs.List.{list_all, list_any}
use Rattle.std.proofs.lemmas.Bool.Decides.{Decides-and, Decides-or, Decides-like}
use Rattle.legal_spec.specs.Calls.{Stands}
use Rattle.legal_forms.specs.Forms.{all_from, all_behind}
use Rattle.legal_forms_laws.proofs.Members.{same_some}

module _ {X : Type 0} where
  -- what holds of each place of a list
  abbrev pub Each : (ℕ → X → Type 0) → List X → Type 0
  Each P xs = (i : ℕ) (x : X) → Stands xs i x → P i x

  pub none_of_each : (P : ℕ → X → Type 0) → Each P []
  none_of_each P i x at = cc

  pub each_of_both : (P : ℕ → X → Type 0) (x : X) (xs : List X) → P 0 x → Each (λ i. P (suc i)) xs → Each P (x ∷ xs)
  each_of_both P x xs first rest zero y at = subst (P 0) (same_some x y at) first
  each_of_both P x xs first rest (suc i) y at = rest i y at

  pub all_from_decides : (test : ℕ → X → Bool) (P : ℕ → X → Type 0) → ((i : ℕ) (x : X) → Decides (test i x) (P i x)) → (from : ℕ) (xs : List X)
      → Decides (all_from test from xs) (Each (λ i. P (from + i)) xs)
  all_from_decides test P each from [] = ((λ e. none_of_each (λ i. P (from + i))), (λ h. refl))
  all_from_decides test P each from (x ∷ xs) =
      Decides-like (test from x && all_from test (from + 1) xs)
      (λ both. each_of_both (λ i. P (from + i)) x xs (subst (λ (k : ℕ). P k x) here both.0)
      (λ i y at. subst (λ (k : ℕ). P k y) (there i) (both.1 i y at)))
      (λ all. (subst (λ (k : ℕ). P k x) (sym_here) (all 0 x refl), (λ i y at. subst (λ (k : ℕ). P k y) (back i) (all (suc i) y at))))
      (Decides-and (test from x) (all_from test (from + 1) xs) (each from x) (all_from_decides test P each (from + 1) xs))
    where
      here : from ≡ from + 0
      here = omega arith

      sym_here : from + 0 ≡ from
      sym_here = omega arith

      there : (i : ℕ) → (from + 1) + i ≡ from + suc i
      there i = omega arith

      back : (i : ℕ) → from + suc i ≡ (from + 1) + i
      back i = omega arith

  pub all_at_decides : (test : ℕ → X → Bool) (P : ℕ → X → Type 0) → ((i : ℕ) (x : X) → Decides (test i x) (P i x)) → (xs : List X)
      → Decides (all_from test 0 xs) (Each P xs)
  all_at_decides test P each xs =
      Decides-like (all_from test 0 xs) (λ all i x at. subst (λ (k : ℕ). P k x) (there i) (all i x at))
      (λ all i x at. subst (λ (k : ℕ). P k x) (back i) (all i x at)) (all_from_decides test P each 0 xs)
    where
      there : (i : ℕ) → 0 + i ≡ i
      there i = omega arith

      back : (i : ℕ) → i ≡ 0 + i
      back i = omega arith

  pub list_all_decides : (test : X → Bool) (P : X → Type 0) → ((x : X) → Decides (test x) (P x)) → (xs : List X)
      → Decides (list_all test xs) (Each (λ i x. P x) xs)
  list_all_decides test P each [] = ((λ e. none_of_each (λ i x. P x)), (λ h. refl))
  list_all_decides test P each (x ∷ xs) =
      Decides-like (test x && list_all test xs) (λ both. each_of_both (λ i y. P y) x xs both.0 both.1)
      (λ all. (all 0 x refl, (λ i y at. all (suc i) y at)))
      (Decides-and (test x) (list_all test xs) (each x) (list_all_decides test P each xs))

  -- some element
  abbrev pub IsSomewhere : (X → Type 0) → List X → Type 0
  IsSomewhere P xs = (i : ℕ) × (x : X) × Stands xs i x × P x

  nowhere : (P : X → Type 0) → IsSomewhere P [] → ⊥
  nowhere P is = let at = is.2 in cc

  somewhere_of_either : (P : X → Type 0) (x : X) (xs : List X) → P x ⊎ IsSomewhere P xs → IsSomewhere P (x ∷ xs)
  somewhere_of_either P x xs (inl first) = (0, x, refl, first)
  somewhere_of_either P x xs (inr rest) = (suc rest.0, rest.1, rest.2, rest.3)

  either_of_somewhere : (P : X → Type 0) (x : X) (xs : List X) → IsSomewhere P (x ∷ xs) → P x ⊎ IsSomewhere P xs
  either_of_somewhere P x xs some = by some.0 some.1 some.2 some.3
    where
      by : (i : ℕ) (y : X) → Stands (x ∷ xs) i y → P y → P x ⊎ IsSomewhere P xs
      by zero y at is = inl (subst P (sym_some y at) is)
        where
          sym_some : (y : X) → Stands (x ∷ xs) 0 y → y ≡ x
          sym_some y at = cc
      by (suc i) y at is = inr (i, y, at, is)

  pub list_any_decides : (test : X → Bool) (P : X → Type 0) → ((x : X) → Decides (test x) (P x)) → (xs : List X)
      → Decides (list_any test xs) (IsSomewhere P xs)
  list_any_decides test P each [] = ((λ e. absurd cc), (λ some. absurd (nowhere P some)))
  list_any_decides test P each (x ∷ xs) =
      Decides-like (test x || list_any test xs) (somewhere_of_either P x xs) (either_of_somewhere P x xs)
      (Decides-or (test x) (list_any test xs) (each x) (list_any_decides test P each xs))

  -- what holds of each place of a list and each place behind it
  abbrev pub EachPair : (X → X → Type 0) → List X → Type 0
  EachPair R xs = (i k : ℕ) (x y : X) → Stands xs i x → Stands xs k y → i < k → R x y

  pub no_pairs : (R : X → X → Type 0) → EachPair R []
  no_pairs R i k x y at_x at_y less = cc

  pub pairs_of_both : (R : X → X → Type 0) (x : X) (xs : List X) → Each (λ k. R x) xs → EachPair R xs → EachPair R (x ∷ xs)
  pairs_of_both R x xs first rest i zero y z at_y at_z less = absurd (omega (arith, less))
  pairs_of_both R x xs first rest zero (suc k) y z at_y at_z less = subst (λ v. R v z) (same_some x y at_y) (first k z at_z)
  pairs_of_both R x xs first rest (suc i) (suc k) y z at_y at_z less = rest i k y z at_y at_z (omega (arith, less))

  -- and with itself
  abbrev pub EachPairOrSelf : (X → X → Type 0) → List X → Type 0
  EachPairOrSelf R xs = (i k : ℕ) (x y : X) → Stands xs i x → Stands xs k y → i ≤ k → R x y

  pub no_selves : (R : X → X → Type 0) → EachPairOrSelf R []
  no_selves R i k x y at_x at_y less = cc

  pub selves_of_both : (R : X → X → Type 0) (x : X) (xs : List X) → Each (λ k. R x) (x ∷ xs) → EachPairOrSelf R xs → EachPairOrSelf R (x ∷ xs)
  selves_of_both R x xs first rest zero k y z at_y at_z less = subst (λ v. R v z) (same_some x y at_y) (first k z at_z)
  selves_of_both R x xs first rest (suc i) zero y z at_y at_z less = absurd (omega (arith, less))
  selves_of_both R x xs first rest (suc i) (suc k) y z at_y at_z less = rest i k y z at_y at_z (omega (arith, less))

  pub all_selves_decide : (test : X → List X → Bool) (R : X → X → Type 0)
      → ((x : X) (xs : List X) → Decides (test x xs) (Each (λ k. R x) (x ∷ xs))) → (xs : List X)
      → Decides (all_behind test xs) (EachPairOrSelf R xs)
  all_selves_decide test R each [] = ((λ e. no_selves R), (λ h. refl))
  all_selves_decide test R each (x ∷ xs) =
      Decides-like (test x xs && all_behind test xs) (λ both. selves_of_both R x xs both.0 both.1)
      (λ all. (
        (λ k y at. all 0 k x y refl at (omega arith)),
        (λ i k y z at_y at_z less. all (suc i) (suc k) y z at_y at_z (omega (arith, less))),
      )) (Decides-and (test x xs) (all_behind test xs) (each x xs) (all_selves_decide test R each xs))
