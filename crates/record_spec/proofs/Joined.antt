use Rattle.std.proofs.Common.{◌≡◌, ℕ, List, ◌++◌, ap, ◌∙◌}
use Rattle.std.proofs.lemmas.List.{map-append}
use Rattle.std.proofs.lemmas.Grind.{flat_map-append}
use Rattle.log_spec.specs.Shown.{PrintedLine, spell_line, spell_lines}
use Rattle.record_spec.specs.Show.{joined, spelled_text}

-- the bytes of some lines and of those behind them
pub joined-append : (xs ys : List (List ℕ)) → joined (xs ++ ys) ≡ joined xs ++ joined ys
joined-append xs ys = flat_map-append (λ (l : List ℕ). l) xs ys

pub text-append : (labels names : List (List ℕ)) (xs ys : List PrintedLine)
    → spelled_text labels names (xs ++ ys) ≡ spelled_text labels names xs ++ spelled_text labels names ys
text-append labels names xs ys =
    ap joined (map-append (spell_line labels names) xs ys) ∙ joined-append (spell_lines labels names xs) (spell_lines labels names ys)
