use Rattle.std.specs.Prelude.{◌≡◌, ℕ, ◌==◌, List, [], ◌∷◌, ◌++◌, if◌then◌else◌}

-- a list begins with another
pub record Begins {A : Type 0} (whole front : List A) : Type 0 where
  pub rest : List A
  pub is : whole ≡ front ++ rest

-- x is a member
pub data Has {A : Type 0} (x : A) : List A → Type 0 where
  here : {xs : List A} → Has x (x ∷ xs)
  there : {y : A} {xs : List A} → Has x xs → Has x (y ∷ xs)

-- the members whose number is k, in order
abbrev pub those_of : {A : Type 0} → (A → ℕ) → ℕ → List A → List A
those_of number k [] = []
those_of number k (x ∷ xs) = if number x == k then x ∷ those_of number k xs else those_of number k xs

-- all but the first member
abbrev pub rest_of : {A : Type 0} → List A → List A
rest_of [] = []
rest_of (x ∷ xs) = xs
