use Rattle.std.proofs.Common.{◌≡◌, ◌≤◌, ◌<◌, ◌+◌, ℕ, Bool, true, false, cond, suc, zero, List, [], ◌∷◌, length, refl, sym, ap, ◌∙◌, arith, Some, None}
use Rattle.std.proofs.Math.ListN.{set}
use Rattle.std.specs.Prelude.{position, nat_le}
use Rattle.std.specs.List.{position_or_len, AllByRecursion}
use Rattle.std.proofs.lemmas.Bool.{and_parts, leb-true, ltb-true, ltb-false, lt-ltb, le-ltb, eq-eqb, ne_eqb}
use Rattle.world_spec.specs.Signals.{is_signal, with_signal}
use Rattle.signal_box.specs.Places.{set_places}

-- a number below all places comes first
before_all : (n m : ℕ) (bs : List Bool) → n < m → with_signal (set_places m bs) n ≡ n ∷ set_places m bs
before_all n m [] h = refl
before_all n m (true ∷ bs) h = simp (lt-ltb n m h) refl
before_all n m (false ∷ bs) h = before_all n (m + 1) bs (omega arith)

beyond : (n sig i : ℕ) → sig ≡ n + suc i → sig ≡ n → ⊥
beyond n sig i is same = omega arith

-- a place that is set is a signal more
pub one_more_set : (n sig i : ℕ) (bs : List Bool) → sig ≡ n + i → i < length bs → set_places n (set bs i true) ≡ with_signal (set_places n bs) sig
one_more_set n sig i [] is within = absurd (omega arith)
one_more_set n sig zero (true ∷ bs) is within = let here : sig ≡ n = omega arith in rw here (simp (le-ltb n n (omega arith), eq-eqb n n refl) refl)
one_more_set n sig zero (false ∷ bs) is within = let here : sig ≡ n = omega arith in rw here (sym (before_all n (n + 1) bs (omega arith)))
one_more_set n sig (suc i) (true ∷ bs) is within =
    simp (le-ltb sig n (omega arith), ne_eqb sig n (beyond n sig i is)) (ap (λ t. n ∷ t) (one_more_set (n + 1) sig i bs (omega arith) (omega arith)))
one_more_set n sig (suc i) (false ∷ bs) is within = one_more_set (n + 1) sig i bs (omega arith) (omega arith)

one_more : (n : ℕ) → 1 + n ≡ suc n
one_more n = omega arith

chosen : (known : Bool) (at place : ℕ) → Some at ≡ cond known (Some place) None → (known ≡ true) × (at ≡ place)
chosen true at place is = (refl, cc)
chosen false at place is = cc

not_chosen : (known : Bool) (place : ℕ) → None ≡ cond known (Some place) None → known ≡ false
not_chosen true place is = cc
not_chosen false place is = refl

first_there : (n sig at : ℕ) (bs : List Bool) → sig ≡ n + at → at ≡ position_or_len (λ b. b) bs → at < length bs
    → set_places n bs ≡ sig ∷ set_places n (set bs at false)
first_there n sig at [] is place within = absurd (omega arith)
first_there n sig at (true ∷ bs) is place within =
    let first : at ≡ 0 = place in let here : sig ≡ n = omega arith in rw (first, here) refl
first_there n sig at (false ∷ bs) is place within =
    let more : at ≡ suc (position_or_len (λ b. b) bs) = place ∙ one_more (position_or_len (λ b. b) bs) in
    rw more (first_there (n + 1) sig (position_or_len (λ b. b) bs) bs (omega arith) refl (omega arith))

none_there : (n : ℕ) (bs : List Bool) → length bs ≤ position_or_len (λ b. b) bs → set_places n bs ≡ []
none_there n [] none = refl
none_there n (true ∷ bs) none = let first : suc (length bs) ≤ 0 = none in absurd (omega arith)
none_there n (false ∷ bs) none =
    let more : suc (length bs) ≤ suc (position_or_len (λ b. b) bs) = rw (← one_more (position_or_len (λ b. b) bs)) none in
    none_there (n + 1) bs (omega arith)

not_below : (low n : ℕ) (bs : List Bool) → low ≤ n → AllByRecursion (λ x. low ≤ x) (set_places n bs)
not_below low n [] h = tt
not_below low n (true ∷ bs) h = (h, not_below low (n + 1) bs (omega arith))
not_below low n (false ∷ bs) h = not_below low (n + 1) bs (omega arith)

least_there : (n sig at : ℕ) (bs : List Bool) → sig ≡ n + at → at ≡ position_or_len (λ b. b) bs → AllByRecursion (λ x. sig ≤ x) (set_places n bs)
least_there n sig at [] is place = tt
least_there n sig at (true ∷ bs) is place =
    let first : at ≡ 0 = place in (omega arith, not_below sig (n + 1) bs (omega arith))
least_there n sig at (false ∷ bs) is place =
    let more : at ≡ suc (position_or_len (λ b. b) bs) = place ∙ one_more (position_or_len (λ b. b) bs) in
    least_there (n + 1) sig (position_or_len (λ b. b) bs) bs (omega arith) refl

-- the first place that is set is the first signal
pub first_signal : (at : ℕ) (bs : List Bool) → Some at ≡ position (λ b. b) bs
    → set_places 1 bs ≡ (at + 1) ∷ set_places 1 (set bs at false)
first_signal at bs is =
    let here = chosen _ at (position_or_len (λ b. b) bs) is in
    let within : position_or_len (λ b. b) bs < length bs = ltb-true _ _ here.0 in
    first_there 1 (at + 1) at bs (omega arith) here.1 (omega arith)

-- no signal is below the first
pub none_below : (at : ℕ) (bs : List Bool) → Some at ≡ position (λ b. b) bs → AllByRecursion (λ x. at + 1 ≤ x) (set_places 1 bs)
none_below at bs is = let here = chosen _ at (position_or_len (λ b. b) bs) is in least_there 1 (at + 1) at bs (omega arith) here.1

-- where no place is set, no signal waits
pub no_signal : (bs : List Bool) → None ≡ position (λ b. b) bs → set_places 1 bs ≡ []
no_signal bs is = none_there 1 bs (ltb-false _ _ (not_chosen _ (position_or_len (λ b. b) bs) is))

-- the number of a signal is from 1 to 31
pub range_of : (sig : ℕ) → is_signal sig ≡ true → (1 ≤ sig) × (sig ≤ 31)
range_of sig is = let both = and_parts (nat_le 1 sig) (nat_le sig 31) is in (leb-true 1 sig both.0, leb-true sig 31 both.1)
