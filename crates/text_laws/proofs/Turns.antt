use Rattle.std.proofs.Common.{◌≡◌, ℕ, ◌+◌, List, [], ◌∷◌, ◌++◌, map, refl, sym, ap, ◌∙◌, append_assoc}
use Rattle.std.specs.List.{AllByRecursion}
use Rattle.log_spec.specs.Words.{line}
use Rattle.log_spec.specs.Shown.{Shown, PrintedLine, Says, spelled, spell_line}
use Rattle.record_spec.specs.Show.{spelled_text, lines_in_turn}
use Rattle.record_spec.proofs.Joined.{text-append}

-- the texts of some items, each by its place
abbrev pub turns : {X : Type 0} → (ℕ → X → List ℕ) → ℕ → List X → List ℕ
turns f place [] = []
turns f place (x ∷ xs) = f place x ++ turns f (place + 1) xs

abbrev pub first_byte : List ℕ → ℕ
first_byte [] = 0
first_byte (b ∷ bs) = b

-- a text does not begin with this byte
abbrev pub BeginsNot : ℕ → List ℕ → Type 0
BeginsNot byte text = first_byte text ≡ byte → ⊥

-- The text of an item tells it, and what stands behind the text: where the item is as P says, and what stands behind
-- is as Ends says.
abbrev pub Tells : {X : Type 0} → (X → Type 0) → (List ℕ → Type 0) → (X → List ℕ) → Type 0
Tells {X} P Ends f = (x y : X) (r s : List ℕ) → P x → P y → Ends r → Ends s → f x ++ r ≡ f y ++ s → (x ≡ y) × (r ≡ s)

-- what holds of the text of each item, with all that stands behind it, and of what stands behind the items
pub turns_end : {X : Type 0} (Ends : List ℕ → Type 0) (f : ℕ → X → List ℕ) (between : (place : ℕ) (x : X) (r : List ℕ) → Ends (f place x ++ r))
    → (place : ℕ) (xs : List X) (r : List ℕ) → Ends r → Ends (turns f place xs ++ r)
turns_end Ends f between place [] r ends = ends
turns_end Ends f between place (x ∷ xs) r ends =
    rw (append_assoc (f place x) (turns f (place + 1) xs) r) (between place x (turns f (place + 1) xs ++ r))

-- items whose texts begin with a byte of their own, with which nothing begins that stands behind them
module _ {X : Type 0} (P : X → Type 0) (Ends : List ℕ → Type 0) (f : ℕ → X → List ℕ) (tag : ℕ) (begins : (place : ℕ) (x : X) (r : List ℕ) → first_byte (f place x ++ r) ≡ tag) (between : (place : ℕ) (x : X) (r : List ℕ) → Ends (f place x ++ r)) (tells : (place : ℕ) → Tells P Ends (f place)) where
  -- the text of an item does not stand where its byte does not
  none_there : (place : ℕ) (x : X) (xs : List X) (r s : List ℕ) → BeginsNot tag r → r ≡ turns f place (x ∷ xs) ++ s → ⊥
  none_there place x xs r s other same =
      other (ap first_byte (same ∙ append_assoc (f place x) (turns f (place + 1) xs) s) ∙ begins place x (turns f (place + 1) xs ++ s))

  -- the texts of some items tell the items, and what stands behind them
  pub turns_tell : (place : ℕ) (xs ys : List X) (r s : List ℕ) → AllByRecursion P xs → AllByRecursion P ys → Ends r → Ends s
      → BeginsNot tag r → BeginsNot tag s → turns f place xs ++ r ≡ turns f place ys ++ s → (xs ≡ ys) × (r ≡ s)
  turns_tell place [] [] r s all all' ends ends' other other' same = (refl, same)
  turns_tell place [] (y ∷ ys) r s all all' ends ends' other other' same = absurd (none_there place y ys r s other same)
  turns_tell place (x ∷ xs) [] r s all all' ends ends' other other' same = absurd (none_there place x xs s r other' (sym same))
  turns_tell place (x ∷ xs) (y ∷ ys) r s all all' ends ends' other other' same =
      let item = tells place x y (turns f (place + 1) xs ++ r) (turns f (place + 1) ys ++ s) all.0 all'.0 (turns_end Ends f between (place + 1) xs r ends) (turns_end Ends f between (place + 1) ys s ends')
      (sym (append_assoc (f place x) (turns f (place + 1) xs) r) ∙ same ∙ append_assoc (f place y) (turns f (place + 1) ys) s) in
      let rest = turns_tell (place + 1) xs ys r s all.1 all'.1 ends ends' other other' item.1 in
      ((λ i. item.0 i ∷ rest.0 i), rest.1)

module _ (labels names : List (List ℕ)) where
  -- items of several lines
  pub lines_are_turns : {X : Type 0} (f : ℕ → X → List PrintedLine) (place : ℕ) (xs : List X)
      → spelled_text labels names (lines_in_turn f place xs) ≡ turns (λ n x. spelled_text labels names (f n x)) place xs
  lines_are_turns f place [] = refl
  lines_are_turns f place (x ∷ xs) =
      text-append labels names (f place x) (lines_in_turn f (place + 1) xs)
      ∙ ap (λ t. spelled_text labels names (f place x) ++ t) (lines_are_turns f (place + 1) xs)

  -- items of one line
  pub each_is_turn : {X : Type 0} (f : X → PrintedLine) (place : ℕ) (xs : List X)
      → spelled_text labels names (map f xs) ≡ turns (λ n x. spell_line labels names (f x)) place xs
  each_is_turn f place [] = refl
  each_is_turn f place (x ∷ xs) = λ i. spell_line labels names (f x) ++ each_is_turn f (place + 1) xs i

  -- items of one line, by the words of the line
  pub words_are_turns : {X : Type 0} (first : List ℕ) (words : X → List Shown) (place : ℕ) (xs : List X)
      → spelled_text labels names (map (λ x. Says first (words x)) xs) ≡ turns (λ n ws. line first ws) place (map (λ x. spelled labels names (words x)) xs)
  words_are_turns first words place [] = refl
  words_are_turns first words place (x ∷ xs) = λ i. line first (spelled labels names (words x)) ++ words_are_turns first words (place + 1) xs i
