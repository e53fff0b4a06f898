use Rattle.std.proofs.Common.{◌≡◌, ◌+◌, ℕ, Some, Result, Ok, Err, List, [], ◌∷◌, inl, inr, map, IfOk, All}
use Rattle.std.proofs.lemmas.Bool.{cases_Bool}
use Rattle.std.proofs.lemmas.List.Elements.{All-nil, All-cons, All-head, All-tail, All-append}
use Rattle.text_spec.specs.declared.BadLine.{BadLine}
use Rattle.text_spec.specs.Texts.{Placed, TextLine, lines_from, is_blank}
use Rattle.text_spec.specs.RuleTexts.{LineWord, line_words, all_words, blank_words, listed_fault, list_word, words_answers, label_answers, only_word, is_dash}
use Rattle.rule_text.specs.Slices.{LiesIn, LiesInALine}
use Rattle.rule_text.proofs.WordSlices.{words_in_lines}
use Rattle.rule_text.proofs.SubjectSlices.{words_in_their_lines, good_has, before_has}

-- what the words of lines have, the labels that are read there have
module _ (P : Placed → Type 0) where
  abbrev WordHas : LineWord → Type 0
  WordHas w = P w.word

  numbered_have : (n : ℕ) (ws : List Placed) → All P ws → All WordHas (map (λ w. record { line = n; word = w }) ws)
  numbered_have n [] have = All-nil WordHas
  numbered_have n (w ∷ ws) have =
      All-cons WordHas (record { line = n; word = w }) (map (λ w. record { line = n; word = w }) ws) (All-head P w ws have)
      (numbered_have n ws (All-tail P w ws have))

  line_words_have : (n : ℕ) (ls : List TextLine) → All (λ l. All P (blank_words l)) ls → All WordHas (line_words n ls)
  line_words_have n [] have = All-nil WordHas
  line_words_have n (l ∷ ls) have =
      All-append WordHas (map (λ w. record { line = n; word = w }) (blank_words l)) (line_words (n + 1) ls)
      (numbered_have n (blank_words l) (All-head (λ l. All P (blank_words l)) l ls have))
      (line_words_have (n + 1) ls (All-tail (λ l. All P (blank_words l)) l ls have))

  answers_have : (ws : List LineWord) → All WordHas ws → All (λ a. IfOk a P) (words_answers ws)
  answers_have [] have = All-nil (λ a. IfOk a P)
  answers_have (w ∷ ws) have =
      before_has P (Some (list_word w)) (words_answers ws) (good_has P w.line (listed_fault w.word) w.word (All-head WordHas w ws have))
      (answers_have ws (All-tail WordHas w ws have))

  label_answers_have : (ws : List LineWord) → All WordHas ws → All (λ a. IfOk a P) (label_answers ws)
  label_answers_have [] have = answers_have [] have
  label_answers_have (w ∷ []) have =
      elim (cases_Bool (is_dash w.word.bytes)) [
        | inl e ↦ simp e (All-nil (λ a. IfOk a P))
        | inr e ↦ simp e (answers_have (w ∷ []) have)
      ]
  label_answers_have (w ∷ v ∷ ws) have = answers_have (w ∷ v ∷ ws) have

  only_has : (ws : List LineWord) → All WordHas ws → IfOk (only_word ws) P
  only_has [] have = tt
  only_has (w ∷ []) have = All-head WordHas w [] have
  only_has (w ∷ v ∷ ws) have = tt

-- each label of a text is its slice
pub labels_lie : (text : List ℕ) → All (λ a. IfOk a (LiesIn 0 text)) (label_answers (all_words text))
labels_lie text =
    label_answers_have (LiesIn 0 text) (all_words text) (line_words_have (LiesIn 0 text) 1 (lines_from 0 text) (words_in_lines is_blank 0 text))

-- the only word of a text is its slice
pub only_lies : (text : List ℕ) → IfOk (only_word (all_words text)) (LiesIn 0 text)
only_lies text = only_has (LiesIn 0 text) (all_words text) (line_words_have (LiesIn 0 text) 1 (lines_from 0 text) (words_in_lines is_blank 0 text))

-- all words of a text, each in a line of it
words_of_lines : (text : List ℕ) → All (λ w. LiesInALine (lines_from 0 text) w.word) (all_words text)
words_of_lines text = line_words_have (LiesInALine (lines_from 0 text)) 1 (lines_from 0 text) (words_in_their_lines (lines_from 0 text))

-- each label of a text, and its only word, lies in a line of it
pub labels_in_lines : (text : List ℕ) (answers : List (Result Placed BadLine)) → answers ≡ label_answers (all_words text)
    → All (λ a. IfOk a (LiesInALine (lines_from 0 text))) answers
labels_in_lines text answers are = rw are (label_answers_have (LiesInALine (lines_from 0 text)) (all_words text) (words_of_lines text))

pub only_in_line : (text : List ℕ) (word : Placed) → Ok word ≡ only_word (all_words text) → LiesInALine (lines_from 0 text) word
only_in_line text word is = by (only_word (all_words text)) (only_has (LiesInALine (lines_from 0 text)) (all_words text) (words_of_lines text)) is
  where
    by : (r : Result Placed BadLine) → IfOk r (LiesInALine (lines_from 0 text)) → Ok word ≡ r → LiesInALine (lines_from 0 text) word
    by (Ok p) lies is = let same : word ≡ p = cc in rw same lies
    by (Err b) lies is = cc
