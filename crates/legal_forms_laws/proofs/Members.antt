-- What a list has, and where.
use Rattle.std.proofs.Common.{◌≡◌, ◌⊎◌, ⊎_elim, inl, inr, ℕ, zero, suc, List, [], ◌∷◌, ◌++◌, map, Option, Some, refl, ap, subst}
use Rattle.std.specs.List.{AllByRecursion}
use Rattle.legal_spec.specs.Calls.{Stands}

pub same_some : {X : Type 0} (x y : X) → ◌≡◌ {A = Option X} (Some x) (Some y) → x ≡ y
same_some x y is = cc

pub stands_in : {X : Type 0} (P : X → Type 0) (xs : List X) (i : ℕ) (x : X) → AllByRecursion P xs → Stands xs i x → P x
stands_in P [] i x all at = cc
stands_in P (z ∷ zs) zero x all at = subst P (same_some z x at) all.0
stands_in P (z ∷ zs) (suc i) x all at = stands_in P zs i x all.1 at

pub all_stand : {X : Type 0} (P : X → Type 0) (xs : List X) → ((i : ℕ) (x : X) → Stands xs i x → P x) → AllByRecursion P xs
all_stand P [] each = tt
all_stand P (x ∷ xs) each = (each zero x refl, all_stand P xs (λ i y at. each (suc i) y at))

module _ {X : Type 0} where
  abbrev pub Has : List X → X → Type 0
  Has [] x = ⊥
  Has (y ∷ ys) x = (y ≡ x) ⊎ Has ys x

  pub has_there : (xs : List X) (i : ℕ) (x : X) → Stands xs i x → Has xs x
  has_there [] i x at = absurd (none at)
    where
      none : Stands [] i x → ⊥
      none at = cc
  has_there (y ∷ ys) zero x at = inl (same_some y x at)
  has_there (y ∷ ys) (suc i) x at = inr (has_there ys i x at)

  pub place_of_one : (xs : List X) (x : X) → Has xs x → (i : ℕ) × Stands xs i x
  place_of_one [] x has = absurd has
  place_of_one (y ∷ ys) x (inl same) = (zero, ap (λ z. Some z) same)
  place_of_one (y ∷ ys) x (inr has) = let rest = place_of_one ys x has in (suc rest.0, rest.1)

  pub has_left : (xs ys : List X) (x : X) → Has xs x → Has (xs ++ ys) x
  has_left [] ys x has = absurd has
  has_left (z ∷ zs) ys x (inl same) = inl same
  has_left (z ∷ zs) ys x (inr has) = inr (has_left zs ys x has)

  pub has_right : (xs ys : List X) (x : X) → Has ys x → Has (xs ++ ys) x
  has_right [] ys x has = has
  has_right (z ∷ zs) ys x has = inr (has_right zs ys x has)

  pub has_either : (xs ys : List X) (x : X) → Has (xs ++ ys) x → Has xs x ⊎ Has ys x
  has_either [] ys x has = inr has
  has_either (z ∷ zs) ys x (inl same) = inl (inl same)
  has_either (z ∷ zs) ys x (inr has) = ⊎_elim (λ l. inl (inr l)) (λ r. inr r) (has_either zs ys x has)

module _ {X Y : Type 0} (f : X → Y) where
  pub has_image : (xs : List X) (x : X) → Has xs x → Has (map f xs) (f x)
  has_image [] x has = absurd has
  has_image (z ∷ zs) x (inl same) = inl (ap f same)
  has_image (z ∷ zs) x (inr has) = inr (has_image zs x has)

  pub has_source : (xs : List X) (y : Y) → Has (map f xs) y → (x : X) × Has xs x × (f x ≡ y)
  has_source [] y has = absurd has
  has_source (z ∷ zs) y (inl same) = (z, inl refl, same)
  has_source (z ∷ zs) y (inr has) = let rest = has_source zs y has in (rest.0, inr rest.1, rest.2)
