use Rattle.std.proofs.Common.{◌≡◌, List, [], ◌∷◌, refl, Ok, Err, true}
use Rattle.std.specs.Prelude.{Result, is_ok}
use Rattle.text_spec.specs.declared.BadLine.{BadLine}
use Rattle.text_spec.specs.RuleTexts.{all_good, with_first}

-- the answers left end as those of the whole text do: with the same bad line, or with none
pub record EndsAs {A : Type 0} (left whole : Result (List A) BadLine) : Type 0 where
  pub bad : (b : BadLine) → left ≡ Err b → whole ≡ Err b
  pub good : is_ok left ≡ true → is_ok whole ≡ true

good_more : {A : Type 0} (r : A) (more : Result (List A) BadLine) → is_ok more ≡ true → is_ok (with_first (Ok r) more) ≡ true
good_more r (Ok rs) is = refl
good_more r (Err b) is = is

-- behind a good answer of good ones all are good
pub split_good : {A : Type 0} (r : A) (more : Result (List A) BadLine) → is_ok (with_first (Ok r) more) ≡ true → is_ok more ≡ true
split_good r (Ok rs) is = refl
split_good r (Err b) is = is

-- behind a good line
pub ends_more : {A : Type 0} (lines more : List (Result A BadLine)) (r : A) (whole : Result (List A) BadLine)
    → EndsAs (all_good lines) whole → lines ≡ Ok r ∷ more → EndsAs (all_good more) whole
ends_more lines more r whole ends is = record {
  bad = λ b left. ends.bad b (rw (is, left) refl);
  good = λ left. ends.good (rw is (good_more r (all_good more) left));
}

pub ends_bad : {A : Type 0} (lines more : List (Result A BadLine)) (b : BadLine) (whole : Result (List A) BadLine)
    → EndsAs (all_good lines) whole → lines ≡ Err b ∷ more → whole ≡ Err b
ends_bad lines more b whole ends is = ends.bad b (rw is refl)

pub ends_good : {A : Type 0} (lines : List (Result A BadLine)) (whole : Result (List A) BadLine) → EndsAs (all_good lines) whole
    → lines ≡ [] → is_ok whole ≡ true
ends_good lines whole ends is = ends.good (rw is refl)
