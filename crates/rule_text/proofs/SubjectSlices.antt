use Rattle.std.proofs.Common.{◌+◌, ℕ, Option, Some, None, Result, Ok, Err, List, [], ◌∷◌, inl, inr, IfOk, All}
use Rattle.std.proofs.lemmas.List.Elements.{All-nil, All-cons, All-head, All-tail, All-weaker}
use Rattle.std.specs.Bool.{⊤}
use Rattle.text_spec.specs.declared.LineFault.{LineFault}
use Rattle.text_spec.specs.declared.BadLine.{BadLine}
use Rattle.text_spec.specs.Texts.{Placed, TextLine, lines_from, is_blank}
use Rattle.text_spec.specs.RuleTexts.{subject_fault, unless_fault, subject_line, subject_answer, subject_answers_from, subject_answers, unless_bare, blank_words, before_more}
use Rattle.rule_text.specs.Slices.{LiesIn, LiesInALine}
use Rattle.rule_text.proofs.WordSlices.{words_are, words_in_lines}

-- the words of lines, each in its own line
pub words_in_their_lines : (ls : List TextLine) → All (λ l. All (LiesInALine ls) (blank_words l)) ls
words_in_their_lines [] = All-nil (λ l. All (LiesInALine []) (blank_words l))
words_in_their_lines (l ∷ ls) =
    All-cons (λ m. All (LiesInALine (l ∷ ls)) (blank_words m)) l ls
    (All-weaker (LiesIn l.at l.bytes) (LiesInALine (l ∷ ls)) (λ p lies. inl lies) (blank_words l) (words_are is_blank l.at l.bytes))
    (All-weaker (λ m. All (LiesInALine ls) (blank_words m)) (λ m. All (LiesInALine (l ∷ ls)) (blank_words m))
    (λ m all. All-weaker (LiesInALine ls) (LiesInALine (l ∷ ls)) (λ p lies. inr lies) (blank_words m) all) ls (words_in_their_lines ls))

-- what the words of lines have, the subjects that are read there have
module _ (P : Placed → Type 0) where
  -- an answer that is there and good has it
  abbrev pub AnswerHas : Option (Result Placed BadLine) → Type 0
  AnswerHas None = ⊤
  AnswerHas (Some a) = IfOk a P

  pub good_has : (n : ℕ) (f : Option LineFault) (s : Placed) → P s → IfOk (unless_fault n f s) P
  good_has n None s has = has
  good_has n (Some f) s has = tt

  line_has : (n : ℕ) (ws : List Placed) → All P ws → IfOk (subject_line n ws) P
  line_has n [] have = tt
  line_has n (s ∷ []) have = good_has n (subject_fault s) s (All-head P s [] have)
  line_has n (s ∷ w ∷ ws) have = tt

  bare_has : (ws : List Placed) (a : Result Placed BadLine) → IfOk a P → AnswerHas (unless_bare ws a)
  bare_has [] a has = tt
  bare_has (w ∷ ws) a has = has

  pub before_has : (a : Option (Result Placed BadLine)) (more : List (Result Placed BadLine)) → AnswerHas a
      → All (λ b. IfOk b P) more → All (λ b. IfOk b P) (before_more a more)
  before_has None more has rest = rest
  before_has (Some (Ok s)) more has rest = All-cons (λ b. IfOk b P) (Ok s) more has rest
  before_has (Some (Err e)) more has rest = All-cons (λ b. IfOk b P) (Err e) [] tt (All-nil (λ b. IfOk b P))

  answers_have : (n : ℕ) (ls : List TextLine) → All (λ l. All P (blank_words l)) ls → All (λ b. IfOk b P) (subject_answers_from n ls)
  answers_have n [] have = All-nil (λ b. IfOk b P)
  answers_have n (l ∷ ls) have =
      before_has (subject_answer n l) (subject_answers_from (n + 1) ls)
      (bare_has (blank_words l) (subject_line n (blank_words l)) (line_has n (blank_words l) (All-head (λ l. All P (blank_words l)) l ls have)))
      (answers_have (n + 1) ls (All-tail (λ l. All P (blank_words l)) l ls have))

-- each subject of a text is its slice
pub subjects_lie : (text : List ℕ) → All (λ b. IfOk b (LiesIn 0 text)) (subject_answers text)
subjects_lie text = answers_have (LiesIn 0 text) 1 (lines_from 0 text) (words_in_lines is_blank 0 text)

-- each subject of a text lies in a line of it
pub subjects_in_lines : (text : List ℕ) → All (λ b. IfOk b (LiesInALine (lines_from 0 text))) (subject_answers text)
subjects_in_lines text = answers_have (LiesInALine (lines_from 0 text)) 1 (lines_from 0 text) (words_in_their_lines (lines_from 0 text))
