use Rattle.std.proofs.Common.{◌≡◌, ℕ, ◌+◌, ◌<◌, List, ◌∷◌, ◌++◌, drop, length, get_or, sym, ap, ◌∙◌}
use Rattle.std.proofs.lemmas.List.{drop_more}
use Rattle.log_spec.specs.Shown.{PrintedLine}
use Rattle.record_spec.specs.Show.{joined, spelled_text, lines_in_turn}
use Rattle.record_spec.proofs.Joined.{text-append}

-- what is left from a place on begins with the item there
rest_at : {X : Type 0} (xs : List X) (i : ℕ) (x : X) → i < length xs → x ≡ get_or xs i x → drop i xs ≡ x ∷ drop (i + 1) xs
rest_at {X} xs i x within is = drop_more xs i x within ∙ ap (λ (y : X). y ∷ drop (i + 1) xs) (sym is)

pub lines_rest : (lines : List (List ℕ)) (i : ℕ) (x : List ℕ) → i < length lines → x ≡ get_or lines i x
    → joined (drop i lines) ≡ x ++ joined (drop (i + 1) lines)
lines_rest lines i x within is = ap joined (rest_at lines i x within is)

pub turns_rest : {X : Type 0} (labels names : List (List ℕ)) (f : ℕ → X → List PrintedLine) (items : List X) (i : ℕ) (x : X)
    → i < length items → x ≡ get_or items i x
    → spelled_text labels names (lines_in_turn f (i + 1) (drop i items))
    ≡ spelled_text labels names (f (i + 1) x) ++ spelled_text labels names (lines_in_turn f (i + 1 + 1) (drop (i + 1) items))
turns_rest {X} labels names f items i x within is =
    ap (λ (t : List X). spelled_text labels names (lines_in_turn f (i + 1) t)) (rest_at items i x within is)
    ∙ text-append labels names (f (i + 1) x) (lines_in_turn f (i + 1 + 1) (drop (i + 1) items))
