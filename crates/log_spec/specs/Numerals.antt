use Rattle.std.specs.Prelude.{◌≡◌, ℕ, zero, suc, ◌+◌, ◌/◌, ◌%◌, ◌==◌, if◌then◌else◌, List, [], ◌∷◌}

-- the digits of a number in front of others; at most so many
abbrev pub numeral_from : ℕ → ℕ → List ℕ → List ℕ
numeral_from zero n behind = behind
numeral_from (suc k) n behind = if n / 10 == 0 then (48 + n) ∷ behind else numeral_from k (n / 10) ((48 + n % 10) ∷ behind)

-- a number in decimal digits, of any size
unfoldable pub numeral : ℕ → List ℕ
numeral n = numeral_from (suc n) n []

-- numbers are equal where their numerals are
abbrev pub NumeralsTell : Type 0
NumeralsTell = (m n : ℕ) → numeral m ≡ numeral n → m ≡ n
