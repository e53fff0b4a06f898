use Rattle.std.proofs.Common.{◌≡◌, ℕ, Bool, true, false, List, [], ◌∷◌, length, nat_eq, sym, ◌∙◌, arith}
use Rattle.std.proofs.lemmas.Bool.{eqb-true}

-- a test that a list is empty, when it fails
pub not_empty : (bs : List ℕ) (test : Bool) → test ≡ nat_eq (length bs) 0 → test ≡ false → length bs ≡ 0 → ⊥
not_empty [] test is fails none = cc (sym is ∙ fails)
not_empty (b ∷ bs) test is fails none = absurd (omega arith)

-- a test that a list is empty, when it passes
pub is_empty_from : (bs : List ℕ) (test : Bool) → test ≡ nat_eq (length bs) 0 → test ≡ true → length bs ≡ 0
is_empty_from bs test is passes = eqb-true (length bs) 0 (sym is ∙ passes)
