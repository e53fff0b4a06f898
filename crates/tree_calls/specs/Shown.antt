use Rattle.std.specs.Prelude.{ℕ, List, map}
use Rattle.std.specs.Borrow.{Bor}

-- the lists that some borrowed lists are
abbrev pub lists_of : List (Bor (List ℕ)) → List (List ℕ)
lists_of names = map (λ n. n.now) names
