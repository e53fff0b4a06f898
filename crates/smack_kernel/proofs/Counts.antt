use Rattle.std.proofs.Common.{◌≡◌, ℕ, ◌+◌, ◌*◌, ◌≤◌, Bool, true, false, List, [], ◌∷◌, length, sym, refl, subst, arith, length-append, Option, Some, None, if◌then◌else◌}
use Rattle.std.specs.Prelude.{Result, Ok, Err, map, not}
use Rattle.std.proofs.lemmas.List.{length-map}
use Rattle.text_spec.specs.declared.BadLine.{BadLine}
use Rattle.text_spec.specs.declared.RuleForm.{RuleForm}
use Rattle.text_spec.specs.declared.RuleForm.TheVariants as RuleForm
use Rattle.text_spec.specs.Texts.{Placed, TextLine, lines_from, words_from, in_first_line, in_first_word, begins_word, is_feed, is_blank}
use Rattle.text_spec.specs.RuleTexts.{RuleWords, LineWord, line_answer, line_answers, rule_answers, subject_answer, subject_answers_from, subject_answers, before_more, line_words, all_words, words_answers, label_answers, list_word, is_dash, blank_words}

-- the bytes of lines, and one more for each
abbrev span : List TextLine → ℕ
span [] = 0
span (l ∷ ls) = length l.bytes + 1 + span ls

first_line_span : (at b : ℕ) (ls : List TextLine) (n : ℕ) → span ls ≤ n + 1 → span (in_first_line at b ls) ≤ n + 2
first_line_span at b [] n h = omega arith
first_line_span at b (l ∷ ls) n h = omega arith

next_line_span : (at b : ℕ) (ls : List TextLine) (n : ℕ) (t : Bool) → span ls ≤ n + 1
    → span (if t then (record { at = at; bytes = []; ended = true }) ∷ ls else in_first_line at b ls) ≤ n + 2
next_line_span at b ls n true h = omega arith
next_line_span at b ls n false h = first_line_span at b ls n h

lines_span : (at : ℕ) (text : List ℕ) → span (lines_from at text) ≤ length text + 1
lines_span at [] = omega arith
lines_span at (b ∷ bs) =
    let h = next_line_span at b (lines_from (at + 1) bs) (length bs) (is_feed b) (lines_span (at + 1) bs) in
    let long : length bs + 2 ≡ length (b ∷ bs) + 1 = omega arith in
    subst (λ n. span (lines_from at (b ∷ bs)) ≤ n) long h

module _ (blank : ℕ → Bool) where
  first_word_few : (at b : ℕ) (ws : List Placed) (n : ℕ) → 2 * length ws ≤ n + 1
      → 2 * length (in_first_word at b ws) ≤ n + 1 + 1
  first_word_few at b [] n h = omega arith
  first_word_few at b (w ∷ ws) n h = omega arith

  next_word_few : (at b : ℕ) (ws : List Placed) (n : ℕ) (t u : Bool) → 2 * length ws ≤ n + 1
      → (u ≡ false → 2 * length ws ≤ n)
      → (2 * length
      (if t then ws else
      (if u then in_first_word at b ws else (record { at = at; bytes = b ∷ [] }) ∷ ws)) ≤ n + 1 + 1)
      × (not t ≡ false
      → 2 * length
      (if t then ws else (if u then in_first_word at b ws else (record { at = at; bytes = b ∷ [] }) ∷ ws)) ≤ n + 1)
  next_word_few at b ws n true u h e = (omega arith, λ i. h)
  next_word_few at b ws n false true h e = (first_word_few at b ws n h, λ i. absurd (let i' : true ≡ false = i in cc))
  next_word_few at b ws n false false h e =
      let a = e refl in (omega arith, λ i. absurd (let i' : true ≡ false = i in cc))

  -- words are parted, so a text has at most half as many as bytes, and one; and none more where it begins with a blank
  -- or is empty
  words_few : (at : ℕ) (bs : List ℕ) → (2 * length (words_from blank at bs) ≤ length bs + 1)
      × (begins_word blank bs ≡ false → 2 * length (words_from blank at bs) ≤ length bs)
  words_few at [] = (omega arith, λ e. omega arith)
  words_few at (b ∷ bs) =
      let h = words_few (at + 1) bs in
      let n = next_word_few at b (words_from blank (at + 1) bs) (length bs) (blank b) (begins_word blank bs) h.0 h.1 in
      let long : length (b ∷ bs) ≡ length bs + 1 = omega arith in (
        subst (λ k. 2 * length (words_from blank at (b ∷ bs)) ≤ k + 1) (sym long) n.0,
        λ i. subst (λ k. 2 * length (words_from blank at (b ∷ bs)) ≤ k) (sym long) (n.1 i),
      )

line_words_few : (n : ℕ) (ls : List TextLine) → 2 * length (line_words n ls) ≤ span ls
line_words_few n [] = omega arith
line_words_few n (l ∷ ls) =
    let word : Placed → LineWord = λ w. record { line = n; word = w } in
    let first : List LineWord = map word (blank_words l) in
    let a : 2 * length (blank_words l) ≤ length l.bytes + 1 = (words_few is_blank l.at l.bytes).0 in
    let b : length first ≡ length (blank_words l) = length-map (blank_words l) word in
    let c = line_words_few (n + 1) ls in
    let d = length-append first (line_words (n + 1) ls) in
    omega arith

more_few : {A : Type 0} (o : Option (Result A BadLine)) (more : List (Result A BadLine))
    → length (before_more o more) ≤ length more + 1
more_few None more = omega arith
more_few (Some (Ok x)) more = omega arith
more_few (Some (Err b)) more = omega arith

-- a line without a byte is skipped
line_few : (form : RuleForm) (n at : ℕ) (bytes : List ℕ) (ended : Bool) (more : List (Result RuleWords BadLine)) (k : ℕ)
    → 2 * length more ≤ k
    → 2 * length
    (before_more
    (line_answer form n (record { at = at; bytes = bytes; ended = ended })) more) ≤ length bytes + 1 + k
line_few RuleForm.Long n at [] ended more k h = omega arith
line_few RuleForm.Change n at [] ended more k h = omega arith
line_few RuleForm.Short n at [] ended more k h = omega arith
line_few form n at (b ∷ bs) ended more k h =
    let a = more_few (line_answer form n (record { at = at; bytes = b ∷ bs; ended = ended })) more in omega arith

line_answers_few : (form : RuleForm) (n : ℕ) (ls : List TextLine) → 2 * length (line_answers form n ls) ≤ span ls
line_answers_few form n [] = omega arith
line_answers_few form n (l ∷ ls) =
    line_few form n l.at l.bytes l.ended (line_answers form (n + 1) ls) (span ls) (line_answers_few form (n + 1) ls)

subject_few : (n at : ℕ) (bytes : List ℕ) (ended : Bool) (more : List (Result Placed BadLine)) (k : ℕ)
    → 2 * length more ≤ k
    → 2 * length
    (before_more (subject_answer n (record { at = at; bytes = bytes; ended = ended })) more) ≤ length bytes + 1 + k
subject_few n at [] ended more k h = omega arith
subject_few n at (b ∷ bs) ended more k h =
    let a = more_few (subject_answer n (record { at = at; bytes = b ∷ bs; ended = ended })) more in omega arith

subject_answers_few : (n : ℕ) (ls : List TextLine) → 2 * length (subject_answers_from n ls) ≤ span ls
subject_answers_few n [] = omega arith
subject_answers_few n (l ∷ ls) = subject_few n l.at l.bytes l.ended (subject_answers_from (n + 1) ls) (span ls)
    (subject_answers_few (n + 1) ls)

words_answers_few : (ws : List LineWord) → length (words_answers ws) ≤ length ws
words_answers_few [] = omega arith
words_answers_few (w ∷ ws) =
    let a = words_answers_few ws in let b = more_few (Some (list_word w)) (words_answers ws) in omega arith

label_answers_few : (ws : List LineWord) → length (label_answers ws) ≤ length ws
label_answers_few [] = omega arith
label_answers_few (w ∷ []) =
    let a = words_answers_few (w ∷ []) in
    elim (is_dash w.word.bytes) as
    (λ t. length (if t then [] else words_answers (w ∷ [])) ≤ length (w ∷ [])) [ true ↦ omega arith | false ↦ a ]
label_answers_few (w ∷ v ∷ ws) = words_answers_few (w ∷ v ∷ ws)

-- what a text says is at most half as much as it has bytes, and one
pub rules_few : (form : RuleForm) (text : List ℕ) → 2 * length (rule_answers form text) ≤ length text + 1
rules_few form text = let a = line_answers_few form 1 (lines_from 0 text) in let b = lines_span 0 text in omega arith

pub subjects_few : (text : List ℕ) → 2 * length (subject_answers text) ≤ length text + 1
subjects_few text = let a = subject_answers_few 1 (lines_from 0 text) in let b = lines_span 0 text in omega arith

pub labels_few : (text : List ℕ) → 2 * length (label_answers (all_words text)) ≤ length text + 1
labels_few text =
    let a = line_words_few 1 (lines_from 0 text) in
    let b = lines_span 0 text in
    let c = label_answers_few (all_words text) in
    omega arith
