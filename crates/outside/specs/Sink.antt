use Rattle.std.specs.Prelude.{◌≡◌, ℕ, List, ◌++◌, Option, Some, None}

-- these bytes were taken behind those taken before, where the sink tells
abbrev pub Appends : Option (List ℕ) → Option (List ℕ) → List ℕ → Type 0
Appends None after bytes = Unit {0}
Appends (Some before) after bytes = after ≡ Some (before ++ bytes)

-- a front of these bytes was taken behind those taken before, where the sink tells
abbrev pub AppendsFront : Option (List ℕ) → Option (List ℕ) → List ℕ → Type 0
AppendsFront before after bytes = (front back : List ℕ) × (bytes ≡ front ++ back) × Appends before after front
