use Rattle.std.proofs.Common.{◌≡◌, ◌≤◌, ◌+◌, ◌-◌, ℕ, Bool, true, false, List, [], ◌∷◌, arith, length, take, drop, refl, ap, ◌∙◌, sym, subst, inl, inr}
use Rattle.std.proofs.lemmas.Bool.{cases_Bool, not-true}
use Rattle.std.proofs.lemmas.List.{drop-drop, drop-take, take-take}
use Rattle.std.proofs.lemmas.List.Elements.{All-nil, All-cons, All-head, All-tail, All-weaker}
use Rattle.std.specs.List.{All}
use Rattle.text_spec.specs.Texts.{lines_from, words_from, in_first_word, begins_word, Placed}
use Rattle.rule_text.specs.Slices.{LiesIn, line_part, AreApart}
use Rattle.rule_text.proofs.LineSlices.{lies_behind, lies_first, lines_are}

-- the first of some words begins at this place
abbrev BeginsAt : ℕ → List Placed → Type 0
BeginsAt at [] = ⊥
BeginsAt at (w ∷ ws) = w.at ≡ at

-- with a byte in front of it, the first word begins at that byte
in_first_begins : (at b : ℕ) (ws : List Placed) → BeginsAt at (in_first_word at b ws)
in_first_begins at b [] = refl
in_first_begins at b (w ∷ ws) = refl

-- a text that begins with a word begins with its first word
begins_at : (blank : ℕ → Bool) (at : ℕ) (bs : List ℕ) → begins_word blank bs ≡ true → BeginsAt at (words_from blank at bs)
begins_at blank at [] begins = cc
begins_at blank at (b ∷ bs) begins =
    let e : blank b ≡ false = not-true (blank b) begins in
    elim (cases_Bool (begins_word blank bs)) [
      | inl d ↦ simp (e, d) (in_first_begins at b (words_from blank (at + 1) bs))
      | inr d ↦ simp (e, d) refl
    ]

-- what lies in the rest of a line lies in the line
one_behind : (b at : ℕ) (bs : List ℕ) (ws : List Placed) → All (LiesIn (at + 1) bs) ws → All (LiesIn at (b ∷ bs)) ws
one_behind b at bs ws = All-weaker (LiesIn (at + 1) bs) (LiesIn at (b ∷ bs)) (lies_behind (b ∷ []) bs at (at + 1) refl) ws

-- the first word still lies in the text with the byte in front of it
first_more : (b at : ℕ) (bs : List ℕ) (w : Placed) → w.at ≡ at + 1 → LiesIn (at + 1) bs w → LiesIn at (b ∷ bs) (record { at = at; bytes = b ∷ w.bytes })
first_more b at bs w begins lies =
    let none : at - at ≡ 0 = omega arith in
    let next : w.at - (at + 1) ≡ 0 = omega arith in
    let rest : take (length w.bytes) bs ≡ w.bytes = rw next at lies.bytes in
    record {
      from = omega arith;
      within = omega (arith, lies.within);
      bytes = rw none (ap (λ (t : List ℕ). b ∷ t) rest);
    }

-- and so do all words
words_more : (b at : ℕ) (bs : List ℕ) (ws : List Placed) → BeginsAt (at + 1) ws → All (LiesIn (at + 1) bs) ws → All (LiesIn at (b ∷ bs)) (in_first_word at b ws)
words_more b at bs [] begins lie = absurd begins
words_more b at bs (w ∷ ws) begins lie =
    All-cons (LiesIn at (b ∷ bs)) (record { at = at; bytes = b ∷ w.bytes }) ws
    (first_more b at bs w begins (All-head (LiesIn (at + 1) bs) w ws lie)) (one_behind b at bs ws (All-tail (LiesIn (at + 1) bs) w ws lie))

-- each word is the slice of its line at its place
pub words_are : (blank : ℕ → Bool) (at : ℕ) (bs : List ℕ) → All (LiesIn at bs) (words_from blank at bs)
words_are blank at [] = All-nil (LiesIn at [])
words_are blank at (b ∷ bs) =
    let rest = words_are blank (at + 1) bs in
    elim (cases_Bool (blank b)) [
      | inl e ↦ simp e (one_behind b at bs (words_from blank (at + 1) bs) rest)
      | inr e ↦
          elim (cases_Bool (begins_word blank bs)) [
            | inl d ↦ simp (e, d) (words_more b at bs (words_from blank (at + 1) bs) (begins_at blank (at + 1) bs d) rest)
            | inr d ↦
                simp (e, d)
                (All-cons (LiesIn at (b ∷ bs)) (record { at = at; bytes = b ∷ [] }) (words_from blank (at + 1) bs) (lies_first (b ∷ []) bs at at refl)
                (one_behind b at bs (words_from blank (at + 1) bs) rest))
          ]
    ]

-- words that are apart from a place on are so from an earlier place on
apart_sooner : (at next : ℕ) (ws : List Placed) → at ≤ next → AreApart next ws → AreApart at ws
apart_sooner at next [] h apart = tt
apart_sooner at next (w ∷ ws) h apart = (omega (arith, apart.0), apart.1)

-- words are still apart with the byte in front of the first
apart_more : (at b : ℕ) (ws : List Placed) → BeginsAt (at + 1) ws → AreApart (at + 1) ws → AreApart at (in_first_word at b ws)
apart_more at b [] begins apart = absurd begins
apart_more at b (w ∷ ws) begins apart =
    let same : w.at + length w.bytes ≡ at + length (b ∷ w.bytes) = omega arith in
    (omega arith, subst (λ n. AreApart n ws) same apart.1)

-- each word begins behind the one before it
pub words_apart : (blank : ℕ → Bool) (at : ℕ) (bs : List ℕ) → AreApart at (words_from blank at bs)
words_apart blank at [] = tt
words_apart blank at (b ∷ bs) =
    let rest = words_apart blank (at + 1) bs in
    elim (cases_Bool (blank b)) [
      | inl e ↦ simp e (apart_sooner at (at + 1) (words_from blank (at + 1) bs) (omega arith) rest)
      | inr e ↦
          elim (cases_Bool (begins_word blank bs)) [
            | inl d ↦ simp (e, d) (apart_more at b (words_from blank (at + 1) bs) (begins_at blank (at + 1) bs d) rest)
            | inr d ↦ simp (e, d) (omega arith, rest)
          ]
    ]

-- a slice of a slice of a list is a slice of the list
pub slice_of_slice : (text part word : List ℕ) (j k n : ℕ) → n ≡ j + k → take (length part) (drop j text) ≡ part
    → take (length word) (drop k part) ≡ word → k + length word ≤ length part → take (length word) (drop n text) ≡ word
slice_of_slice text part word j k n there outer inner within =
    let size : length part ≡ k + (length part - k) = omega arith in
    let part_from : drop k part ≡ take (length part - k) (drop k (drop j text)) =
    ap (drop k) (sym outer) ∙ ap (λ i. drop k (take i (drop j text))) size ∙ drop-take k (length part - k) (drop j text) in
    ap (λ i. take (length word) (drop i text)) there ∙ ap (take (length word)) (sym (drop-drop k j text))
    ∙ sym (take-take (length word) (length part - k) (drop k (drop j text)) (omega arith))
    ∙ ap (take (length word)) (sym part_from) ∙ inner

-- what lies in a part lies in the text of the part
pub lies_through : (at : ℕ) (text : List ℕ) (p : Placed) → LiesIn at text p → (w : Placed) → LiesIn p.at p.bytes w → LiesIn at text w
lies_through at text p outer w inner =
    record {
      from = omega (arith, outer.from, inner.from);
      within = omega (arith, outer.within, inner.within);
      bytes =
          slice_of_slice text p.bytes w.bytes (p.at - at) (w.at - p.at) (w.at - at) (omega (arith, outer.from, inner.from)) outer.bytes inner.bytes
          (omega (arith, inner.from, inner.within));
    }

-- each word of a line of a text is the slice of the text at its place
pub words_in_lines : (blank : ℕ → Bool) (at : ℕ) (text : List ℕ) → All (λ l. All (LiesIn at text) (words_from blank l.at l.bytes)) (lines_from at text)
words_in_lines blank at text =
    All-weaker (λ l. LiesIn at text (line_part l)) (λ l. All (LiesIn at text) (words_from blank l.at l.bytes))
    (λ l lies. All-weaker (LiesIn l.at l.bytes) (LiesIn at text) (lies_through at text (line_part l) lies) (words_from blank l.at l.bytes)
    (words_are blank l.at l.bytes)) (lines_from at text) (lines_are at text)
