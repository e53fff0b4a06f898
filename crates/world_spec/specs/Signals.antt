use Rattle.std.specs.Prelude.{ℕ, Bool, ◌&&◌, ◌==◌, if◌then◌else◌, List, [], ◌∷◌, Option, Some, None, nat_le, nat_lt}

-- the numbers of signals
abbrev pub is_signal : ℕ → Bool
is_signal sig = nat_le 1 sig && nat_le sig 31

-- Signals that wait stand in rising order, each once; one more comes to its place.
abbrev pub with_signal : List ℕ → ℕ → List ℕ
with_signal [] sig = sig ∷ []
with_signal (x ∷ xs) sig = if nat_lt sig x then sig ∷ x ∷ xs else (if sig == x then x ∷ xs else x ∷ with_signal xs sig)

-- the least of the signals that wait
abbrev pub least_signal : List ℕ → Option ℕ
least_signal [] = None
least_signal (x ∷ xs) = Some x

-- the signals without the least
abbrev pub without_least : List ℕ → List ℕ
without_least [] = []
without_least (x ∷ xs) = xs
