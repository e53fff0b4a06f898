use Rattle.std.proofs.Common.{◌≡◌, ◌≤◌, ◌<◌, ℕ, List, [], ◌∷◌, length, get_or, refl, sym, ap, ◌∙◌, arith, Bool}
use Rattle.std.specs.Prelude.{IsTrue}
use Rattle.std.specs.Str.{bytes_eq}
use Rattle.std.proofs.lemmas.Slice.Eq.{bytes_eq-Decides}

-- a list of one element
pub one_of : {X : Type 0} (xs : List X) (x : X) → 1 ≤ length xs → length xs < 2 → x ≡ get_or xs 0 x → xs ≡ x ∷ []
one_of [] x some few is = absurd (omega arith)
one_of (y ∷ []) x some few is = rw is refl
one_of (y ∷ z ∷ zs) x some few is = absurd (omega arith)

-- the test of the only word
pub decides_one : (test : Bool) (x p : List ℕ) → test ≡ bytes_eq x p → (IsTrue test → x ∷ [] ≡ p ∷ []) × (x ∷ [] ≡ p ∷ [] → IsTrue test)
decides_one test x p is =
    let d = bytes_eq-Decides x p in
    (λ t. ap (λ (y : List ℕ). y ∷ []) (d.0 (sym is ∙ t)), λ e. is ∙ d.1 (cc))
