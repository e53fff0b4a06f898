use Rattle.std.proofs.Common.{◌≡◌, ◌+◌, ℕ, Bool, List, [], ◌∷◌, arith, map, refl, inl, inr}
use Rattle.std.proofs.lemmas.Bool.{cases_Bool}
use Rattle.text_spec.specs.Texts.{lines_from, in_first_line, words_from, in_first_word, begins_word, is_feed, TextLine, Placed}
use Rattle.rule_text.specs.Slices.{moved_line, moved_word}

-- the byte in front of the first line moves with it
line_moved : (at k next b : ℕ) (ls : List TextLine) → next ≡ at + k → in_first_line next b (map (moved_line k) ls) ≡ map (moved_line k) (in_first_line at b ls)
line_moved at k next b [] there = rw there refl
line_moved at k next b (l ∷ ls) there = rw there refl

-- so many places further on, lines are the same lines, moved
lines_moved_by : (at k next : ℕ) (bs : List ℕ) → next ≡ at + k → lines_from next bs ≡ map (moved_line k) (lines_from at bs)
lines_moved_by at k next [] there = refl
lines_moved_by at k next (b ∷ bs) there =
    let rest = lines_moved_by (at + 1) k (next + 1) bs (omega arith) in
    elim (cases_Bool (is_feed b)) [
      | inl e ↦ simp e (rw (rest, there) refl)
      | inr e ↦ simp e (rw rest (line_moved at k next b (lines_from (at + 1) bs) there))
    ]

-- the lines of a text at a place are its own lines, moved there
pub lines_moved : (at : ℕ) (bs : List ℕ) → lines_from at bs ≡ map (moved_line at) (lines_from 0 bs)
lines_moved at bs = lines_moved_by 0 at at bs (omega arith)

-- the byte in front of the first word moves with it
word_moved : (at k next b : ℕ) (ws : List Placed) → next ≡ at + k → in_first_word next b (map (moved_word k) ws) ≡ map (moved_word k) (in_first_word at b ws)
word_moved at k next b [] there = rw there refl
word_moved at k next b (w ∷ ws) there = rw there refl

-- so many places further on, words are the same words, moved
words_moved_by : (blank : ℕ → Bool) (at k next : ℕ) (bs : List ℕ) → next ≡ at + k → words_from blank next bs ≡ map (moved_word k) (words_from blank at bs)
words_moved_by blank at k next [] there = refl
words_moved_by blank at k next (b ∷ bs) there =
    let rest = words_moved_by blank (at + 1) k (next + 1) bs (omega arith) in
    elim (cases_Bool (blank b)) [
      | inl e ↦ simp e rest
      | inr e ↦
          elim (cases_Bool (begins_word blank bs)) [
            | inl d ↦ simp (e, d) (rw rest (word_moved at k next b (words_from blank (at + 1) bs) there))
            | inr d ↦ simp (e, d) (rw (rest, there) refl)
          ]
    ]

-- the words of a line at a place are its own words, moved there
pub words_moved : (blank : ℕ → Bool) (at : ℕ) (bs : List ℕ) → words_from blank at bs ≡ map (moved_word at) (words_from blank 0 bs)
words_moved blank at bs = words_moved_by blank 0 at at bs (omega arith)
