use Rattle.std.specs.Prelude.{ℕ, ◌+◌, Bool, if◌then◌else◌, List, [], ◌∷◌}

-- the numbers of the places that are set, where the first place has this number
abbrev pub set_places : ℕ → List Bool → List ℕ
set_places n [] = []
set_places n (b ∷ bs) = if b then n ∷ set_places (n + 1) bs else set_places (n + 1) bs
