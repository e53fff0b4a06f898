use Rattle.std.proofs.Common.{◌≡◌, ◌<◌, ◌≤◌, ◌+◌, ◌-◌, ◌*◌, ◌/◌, ◌%◌, ◌^◌, ℕ, zero, suc, Bool, true, false, ◌&&◌, ◌==◌, if◌then◌else◌, nat_le, List, [], ◌∷◌, decimal, refl, sym, ap, ◌∙◌, append-nil, arith}
use Rattle.std.specs.List.{list_all}
use Rattle.std.proofs.lemmas.Bool.{eqb-true, eqb-false, and_from, le-leb, eq-eqb, ne_eqb}
use Rattle.std.proofs.lemmas.Fmt.{PrependsLastDigit, decimal_from_prepends, length-decimal-le_succ}
use Rattle.log_spec.specs.Numerals.{numeral_from, numeral, NumeralsTell}

-- the number that these digits make behind the digits of n
abbrev pub value_from : ℕ → List ℕ → ℕ
value_from n [] = n
value_from n (b ∷ bs) = value_from (n * 10 + (b - 48)) bs

-- digits in front of others have the value of the number in front of them
value_in_front : (k n : ℕ) (behind : List ℕ) → n < k → value_from 0 (numeral_from k n behind) ≡ value_from n behind
value_in_front zero n behind room = absurd (omega (arith, room))
value_in_front (suc k) n behind room =
    by (n / 10 == 0) refl (λ some. value_in_front k (n / 10) ((48 + n % 10) ∷ behind) (omega (arith, room, some)))
  where
    by : (last : Bool) → (n / 10 == 0) ≡ last
        → ((n / 10 ≡ 0 → ⊥) → value_from 0 (numeral_from k (n / 10) ((48 + n % 10) ∷ behind)) ≡ value_from (n / 10) ((48 + n % 10) ∷ behind))
        → value_from 0 (if last then (48 + n) ∷ behind else numeral_from k (n / 10) ((48 + n % 10) ∷ behind)) ≡ value_from n behind
    by true is rest = ap (λ v. value_from v behind) (omega arith)
    by false is rest = rest (eqb-false (n / 10) 0 is) ∙ ap (λ v. value_from v behind) (omega arith)

-- a printed number is read back, whatever its size
pub numeral_read : (n : ℕ) → value_from 0 (numeral n) ≡ n
unfolding numeral
numeral_read n = value_in_front (suc n) n [] (omega arith)

pub numeral_injective : NumeralsTell
numeral_injective m n same = sym (numeral_read m) ∙ ap (value_from 0) same ∙ numeral_read n

abbrev pub is_digit : ℕ → Bool
is_digit b = nat_le 48 b && nat_le b 57

-- digits in front of digits are digits
digits_from : (k n : ℕ) (behind : List ℕ) → n < k → list_all is_digit behind ≡ true → list_all is_digit (numeral_from k n behind) ≡ true
digits_from zero n behind room digits = digits
digits_from (suc k) n behind room digits =
    by (n / 10 == 0) refl
    (λ some. digits_from k (n / 10) ((48 + n % 10) ∷ behind) (omega (arith, room, some)) (and_from _ _ (is_digit_of (n % 10) (omega arith)) digits))
  where
    is_digit_of : (d : ℕ) → d < 10 → is_digit (48 + d) ≡ true
    is_digit_of d small = and_from _ _ (le-leb 48 (48 + d) (omega arith)) (le-leb (48 + d) 57 (omega (arith, small)))

    by : (last : Bool) → (n / 10 == 0) ≡ last
        → ((n / 10 ≡ 0 → ⊥) → list_all is_digit (numeral_from k (n / 10) ((48 + n % 10) ∷ behind)) ≡ true)
        → list_all is_digit (if last then (48 + n) ∷ behind else numeral_from k (n / 10) ((48 + n % 10) ∷ behind)) ≡ true
    by true is rest = and_from _ _ (is_digit_of n (omega (arith, eqb-true (n / 10) 0 is))) digits
    by false is rest = rest (eqb-false (n / 10) 0 is)

-- a printed number has digits alone
pub numeral_digits : (n : ℕ) → list_all is_digit (numeral n) ≡ true
unfolding numeral
numeral_digits n = digits_from (suc n) n [] (omega arith) refl

-- The digits of a number above 0 begin with none below 1.
leads_from : (k n : ℕ) (behind : List ℕ) → n < k → 0 < n → (b : ℕ) × (bs : List ℕ) × (numeral_from k n behind ≡ b ∷ bs) × 48 < b
leads_from zero n behind room some = absurd (omega (arith, room))
leads_from (suc k) n behind room some =
    by (n / 10 == 0) refl (λ more. leads_from k (n / 10) ((48 + n % 10) ∷ behind) (omega (arith, room, some)) (omega (arith, more)))
  where
    by : (last : Bool) → (n / 10 == 0) ≡ last
        → ((n / 10 ≡ 0 → ⊥) → (b : ℕ) × (bs : List ℕ) × (numeral_from k (n / 10) ((48 + n % 10) ∷ behind) ≡ b ∷ bs) × 48 < b)
        → (b : ℕ) × (bs : List ℕ) × ((if last then (48 + n) ∷ behind else numeral_from k (n / 10) ((48 + n % 10) ∷ behind)) ≡ b ∷ bs) × 48 < b
    by true is rest = (48 + n, behind, refl, omega (arith, some))
    by false is rest = rest (eqb-false (n / 10) 0 is)

-- a number above 0 is printed without a zero in front
pub numeral_leads : (n : ℕ) → 0 < n → (b : ℕ) × (bs : List ℕ) × (numeral n ≡ b ∷ bs) × 48 < b
unfolding numeral
numeral_leads n some = leads_from (suc n) n [] (omega arith) some

pub numeral_of_zero : numeral 0 ≡ 48 ∷ []
unfolding numeral
numeral_of_zero = refl

prepends : PrependsLastDigit numeral_from
prepends = record { one = one; more = more }
  where
    one : (k n : ℕ) (acc : List ℕ) → n < 10 → numeral_from (suc k) n acc ≡ (48 + n) ∷ acc
    one k n acc small = let last = eq-eqb (n / 10) 0 (omega (arith, small)) in rw last refl

    more : (k n : ℕ) (acc : List ℕ) → 10 ≤ n → numeral_from (suc k) n acc ≡ numeral_from k (n / 10) ((48 + n % 10) ∷ acc)
    more k n acc large = let other = ne_eqb (n / 10) 0 (λ e. omega (arith, large, e)) in rw other refl

-- a number of 64 bits is written as the library writes it
pub numeral_is_decimal : (n : ℕ) → n < 2 ^ 64 → numeral n ≡ decimal n
unfolding numeral
numeral_is_decimal n fits =
    decimal_from_prepends numeral_from prepends (suc n) n [] fits (omega (arith, length-decimal-le_succ n fits)) ∙ append-nil (decimal n)
