use Rattle.std.proofs.Common.{◌≡◌, ℕ, ◌≤◌, List, [], ◌++◌, length, sym, ap, ◌∙◌, arith, Some, None, take, length-take-le, length-append}
use Rattle.std.specs.Prelude.{Option}
use Rattle.std.specs.Io.KnownBytes.{Consumes}

-- a reader that has no byte left gives none
pub nothing_comes : (after : Option (List ℕ)) (into : List ℕ) (n : ℕ) → Consumes (Some []) after (take n into) → n ≤ length into → n ≡ 0
nothing_comes None into n took few = absurd took
nothing_comes (Some rest) into n took few =
    let none : 0 ≡ length (take n into ++ rest) = ap (λ (t : List ℕ). length t) took in
    omega (arith, none, length-append (take n into) rest, length-take-le n into few)
