use Rattle.std.proofs.Common.{◌≡◌, ◌≤◌, ◌+◌, ◌-◌, ◌*◌, ◌<◌, ℕ, List, [], ◌∷◌, arith, drop, get_or, sym, ◌∙◌, ap, length}
use Rattle.std.proofs.lemmas.List.{drop_more}
use Rattle.verb_spec.specs.Words.{value_from}

-- more digits make no smaller number
pub value_from-le : (n : ℕ) (bs : List ℕ) → n ≤ value_from n bs
value_from-le n [] = omega arith
value_from-le n (b ∷ bs) = omega (arith, value_from-le (n * 10 + (b - 48)) bs)

pub too_large : (word : List ℕ) (n i : ℕ) → value_from n (drop i word) ≡ value_from 0 word → i < length word
    → (d m : ℕ) → d ≡ get_or word i 0 - 48 → m ≤ n * 10 + d → m ≤ value_from 0 word
too_large word n i same within d m is large =
    let e : value_from 0 word ≡ value_from (n * 10 + (get_or word i 0 - 48)) (drop (i + 1) word) =
    sym same ∙ ap (λ (t : List ℕ). value_from n t) (drop_more word i 0 within) in
    let least = value_from-le (n * 10 + (get_or word i 0 - 48)) (drop (i + 1) word) in
    rw e (omega (arith, is, large, least))
