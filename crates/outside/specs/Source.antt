use Rattle.std.specs.Prelude.{◌≡◌, ℕ, ◌+◌, List, [], ◌++◌, Option, Some, None, min}
use Rattle.outside.specs.Calls.{last_number}

-- these bytes were the next of those left, and the rest is left now, where the source tells
abbrev pub Takes : Option (List ℕ) → Option (List ℕ) → List ℕ → Type 0
Takes None after bytes = Unit {0}
Takes (Some before) after bytes = (rest : List ℕ) × (after ≡ Some rest) × (before ≡ bytes ++ rest)

-- one read more was made, where the source counts them: up to the last call that has a number
abbrev pub CountsRead : Option ℕ → Option ℕ → Type 0
CountsRead None after = Unit {0}
CountsRead (Some before) after = after ≡ Some (min (before + 1) last_number)

-- none is left, where the source tells
abbrev pub AtEnd : Option (List ℕ) → Type 0
AtEnd None = Unit {0}
AtEnd (Some left) = left ≡ []
