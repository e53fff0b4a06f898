use Rattle.std.proofs.Common.{◌≡◌, ℕ, List, [], ◌∷◌, refl}
use Rattle.log_spec.specs.Shown.{plain_words, spelled}

-- plain words are spelled as they are
pub plain_spelled : (labels names texts : List (List ℕ)) → spelled labels names (plain_words texts) ≡ texts
plain_spelled labels names [] = refl
plain_spelled labels names (t ∷ ts) = λ i. t ∷ plain_spelled labels names ts i
