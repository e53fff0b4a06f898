use Rattle.std.proofs.Common.{◌+◌, ℕ, false, suc, ◌∷◌, refl, ◌≡◌, ◌≤◌, Bool, List, arith, length, None, not}
use Rattle.std.proofs.lemmas.List.Sums.{prefix_len-le-length}
use Rattle.std.specs.List.{position, position_or_len}

-- where no element passes, the place is the length
pub no_place : {X : Type 0} (p : X → Bool) (xs : List X) → position p xs ≡ None → length xs ≡ position_or_len p xs
no_place p xs none = grind (arith, prefix_len-le-length (λ x. not (p x)) xs)

-- the place is within the list, or its end
pub place_within : {X : Type 0} (p : X → Bool) (xs : List X) → position_or_len p xs ≤ length xs
place_within p xs = prefix_len-le-length (λ x. not (p x)) xs

-- `1 + n`, as it computes no further
pub one_more : (n : ℕ) → 1 + n ≡ suc n
one_more n = omega arith

-- where the first element fails, the place is one further on
pub place_more : (p : ℕ → Bool) (b : ℕ) (bs : List ℕ) → p b ≡ false → position_or_len p (b ∷ bs) ≡ suc (position_or_len p bs)
place_more p b bs e = simp (e, one_more) refl
