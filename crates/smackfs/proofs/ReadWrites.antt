use Rattle.std.proofs.Common.{◌≡◌, List, [], ◌∷◌, ◌++◌, refl, sym, ap, ◌∙◌, Ok, Err, map, append_assoc}
use Rattle.std.specs.Prelude.{Result}
use Rattle.std.proofs.lemmas.List.{append-nil, map-append}
use Rattle.text_spec.specs.declared.BadLine.{BadLine}
use Rattle.text_spec.specs.RuleTexts.{all_good, with_first}

-- what stands in front of all that is good
abbrev pub put_front : {A : Type 0} → List A → Result (List A) BadLine → Result (List A) BadLine
put_front front (Ok xs) = Ok (front ++ xs)
put_front front (Err b) = Err b

one_more : {A : Type 0} (front : List A) (x : A) (more : Result (List A) BadLine) → put_front (front ++ x ∷ []) more ≡ put_front front (with_first (Ok x) more)
one_more front x (Ok xs) = ap (λ t. Ok t) (append_assoc front (x ∷ []) xs)
one_more front x (Err b) = refl

-- with one more answer that is good
pub read_more : {A B : Type 0} (seen : A → B) (ops : List A) (op : A) (answers more : List (Result B BadLine)) (whole : Result (List B) BadLine)
    → put_front (map seen ops) (all_good answers) ≡ whole → answers ≡ Ok (seen op) ∷ more
    → put_front (map seen (ops ++ op ∷ [])) (all_good more) ≡ whole
read_more seen ops op answers more whole so_far is =
    ap (λ front. put_front front (all_good more)) (map-append seen ops (op ∷ [])) ∙ one_more (map seen ops) (seen op) (all_good more)
    ∙ sym (ap (λ a. put_front (map seen ops) (all_good a)) is) ∙ so_far

pub read_all : {A B : Type 0} (seen : A → B) (ops : List A) (answers : List (Result B BadLine)) (whole : Result (List B) BadLine)
    → put_front (map seen ops) (all_good answers) ≡ whole → answers ≡ [] → whole ≡ Ok (map seen ops)
read_all seen ops answers whole so_far is =
    sym so_far ∙ ap (λ a. put_front (map seen ops) (all_good a)) is ∙ ap (λ t. Ok t) (append-nil (map seen ops))

pub read_bad : {A B : Type 0} (seen : A → B) (ops : List A) (b : BadLine) (answers more : List (Result B BadLine)) (whole : Result (List B) BadLine)
    → put_front (map seen ops) (all_good answers) ≡ whole → answers ≡ Err b ∷ more → whole ≡ Err b
read_bad seen ops b answers more whole so_far is = sym so_far ∙ ap (λ a. put_front (map seen ops) (all_good a)) is
