use Rattle.std.proofs.Common.{◌≡◌, ◌≤◌, ◌<◌, ◌+◌, ◌-◌, ℕ, Bool, true, false, suc, List, [], ◌∷◌, arith, length, not, take, drop, refl, ◌∙◌, sym, inl, inr}
use Rattle.std.proofs.lemmas.Bool.{cases_Bool}
use Rattle.std.proofs.lemmas.List.{nil_from_length, length-drop}
use Rattle.std.specs.List.{position_or_len}
use Rattle.text_spec.specs.Texts.{words_from, begins_word}
use Rattle.rule_text.proofs.Places.{one_more, place_more}

-- blanks in front are passed over
pub words_after_blanks : (blank : ℕ → Bool) (at : ℕ) (bs : List ℕ) (n next : ℕ) → n ≡ position_or_len (λ b. not (blank b)) bs → next ≡ at + n
    → words_from blank at bs ≡ words_from blank next (drop n bs)
words_after_blanks blank at [] n next place there = rw place refl
words_after_blanks blank at (b ∷ bs) n next place there =
    elim (cases_Bool (blank b)) [
      | inl e ↦
          let more : n ≡ suc (position_or_len (λ b. not (blank b)) bs) = simp (e, one_more) at place in
          rw more (simp e (words_after_blanks blank (at + 1) bs (position_or_len (λ b. not (blank b)) bs) next refl (omega arith)))
      | inr e ↦
          let none : n ≡ 0 = simp e at place in
          let same : next ≡ at = omega arith in
          rw (none, same) refl
    ]

-- a word gains the byte in front of it
word_more : (blank : ℕ → Bool) (at b next n : ℕ) (bs : List ℕ) → blank b ≡ false → begins_word blank bs ≡ true
    → words_from blank (at + 1) bs ≡ (record { at = at + 1; bytes = take n bs }) ∷ words_from blank next (drop n bs)
    → words_from blank at (b ∷ bs) ≡ (record { at = at; bytes = take (suc n) (b ∷ bs) }) ∷ words_from blank next (drop (suc n) (b ∷ bs))
word_more blank at b next n bs e begins same = simp (e, begins, same) refl

-- a byte before a blank is a word
word_alone : (blank : ℕ → Bool) (at b c : ℕ) (cs : List ℕ) → blank b ≡ false → blank c ≡ true
    → words_from blank at (b ∷ c ∷ cs) ≡ (record { at = at; bytes = b ∷ [] }) ∷ words_from blank (at + 1) (c ∷ cs)
word_alone blank at b c cs e d = simp (e, d) refl

-- a run of bytes that are no blanks is the first word
pub first_word : (blank : ℕ → Bool) (at b : ℕ) (bs : List ℕ) (n next : ℕ) → blank b ≡ false → n ≡ position_or_len blank (b ∷ bs) → next ≡ at + n
    → words_from blank at (b ∷ bs) ≡ (record { at = at; bytes = take n (b ∷ bs) }) ∷ words_from blank next (drop n (b ∷ bs))
first_word blank at b [] n next e place there =
    let one : n ≡ 1 = simp e at place in
    rw one (simp e refl)
first_word blank at b (c ∷ cs) n next e place there =
    let more : n ≡ suc (position_or_len blank (c ∷ cs)) = place ∙ place_more blank b (c ∷ cs) e in
    elim (cases_Bool (blank c)) [
      | inl d ↦
          let one : n ≡ 1 = simp (e, d) at place in
          let behind : next ≡ at + 1 = omega arith in
          rw (one, behind) (word_alone blank at b c cs e d)
      | inr d ↦
          rw more
          (word_more blank at b next (position_or_len blank (c ∷ cs)) (c ∷ cs) e (simp d refl) (first_word blank (at + 1) c cs (position_or_len blank (c ∷ cs)) next d refl (omega arith)))
    ]

-- no blank stands in front
abbrev BeginsBare : (ℕ → Bool) → List ℕ → Type 0
BeginsBare blank [] = Unit {0}
BeginsBare blank (b ∷ bs) = blank b ≡ false

-- behind the blanks in front, none stands in front
bare_after : (blank : ℕ → Bool) (bs : List ℕ) (n : ℕ) → n ≡ position_or_len (λ b. not (blank b)) bs → BeginsBare blank (drop n bs)
bare_after blank [] n place = rw place tt
bare_after blank (b ∷ bs) n place =
    elim (cases_Bool (blank b)) [
      | inl e ↦
          let more : n ≡ suc (position_or_len (λ b. not (blank b)) bs) = simp (e, one_more) at place in
          rw more (bare_after blank bs _ refl)
      | inr e ↦
          let none : n ≡ 0 = simp e at place in
          rw none e
    ]

-- the first word of a text that begins with it
word_of_bare : (blank : ℕ → Bool) (at : ℕ) (bs : List ℕ) (n next : ℕ) → BeginsBare blank bs → (length bs ≡ 0 → ⊥) → n ≡ position_or_len blank bs → next ≡ at + n
    → words_from blank at bs ≡ (record { at = at; bytes = take n bs }) ∷ words_from blank next (drop n bs)
word_of_bare blank at [] n next bare some place there = absurd (some refl)
word_of_bare blank at (b ∷ bs) n next bare some place there = first_word blank at b bs n next bare place there

-- the first word and the rest, as they are cut from the bare text at a blank
pub word_cut : (blank : ℕ → Bool) (at n : ℕ) (line : List ℕ) → n ≡ position_or_len (λ b. not (blank b)) line
    → (bare_at : ℕ) (bare : List ℕ) → bare_at ≡ at + n → bare ≡ drop n line → (length bare ≡ 0 → ⊥)
    → (len : ℕ) → len ≡ position_or_len blank bare
    → (at' next : ℕ) (word rest : List ℕ) → at' ≡ bare_at → word ≡ take len bare → next ≡ bare_at + len → rest ≡ drop len bare
    → words_from blank at line ≡ (record { at = at'; bytes = word }) ∷ words_from blank next rest
word_cut blank at n line place bare_at bare there is some len len_is at' next word rest same front next_is behind =
    let begins : BeginsBare blank bare = rw is (bare_after blank line n place) in
    rw (same, front, behind) (words_after_blanks blank at line n bare_at place there ∙ rw (← is) (word_of_bare blank bare_at bare len next begins some len_is next_is))

-- where all is blank, there is no word
pub no_word : (blank : ℕ → Bool) (at n : ℕ) (line : List ℕ) → n ≡ position_or_len (λ b. not (blank b)) line
    → (bare : List ℕ) → bare ≡ drop n line → length bare ≡ 0 → words_from blank at line ≡ []
no_word blank at n line place bare is none =
    let nothing : drop n line ≡ [] = sym is ∙ nil_from_length bare none in
    words_after_blanks blank at line n (at + n) place refl ∙ rw nothing refl

-- a word that begins a text has a byte
some_of_bare : (blank : ℕ → Bool) (bs : List ℕ) (n : ℕ) → BeginsBare blank bs → (length bs ≡ 0 → ⊥) → n ≡ position_or_len blank bs → 0 < n
some_of_bare blank [] n bare some place = absurd (some refl)
some_of_bare blank (b ∷ bs) n bare some place = omega (arith, place ∙ place_more blank b bs bare)

-- the first word has a byte
pub word_long : (blank : ℕ → Bool) (line bare : List ℕ) (n len : ℕ) → n ≡ position_or_len (λ b. not (blank b)) line
    → bare ≡ drop n line → (length bare ≡ 0 → ⊥) → len ≡ position_or_len blank bare → 0 < len
word_long blank line bare n len place is some len_is =
    let begins : BeginsBare blank bare = rw is (bare_after blank line n place) in
    some_of_bare blank bare len begins some len_is

-- what follows the first word is shorter than the line
pub falls : (line bare rest : List ℕ) (n len : ℕ) → bare ≡ drop n line → rest ≡ drop len bare → 0 < len → len ≤ length bare → length rest < length line
falls line bare rest n len bare_is rest_is long within =
    let bare_len : length bare ≡ length line - n = rw bare_is (length-drop n line) in
    let rest_len : length rest ≡ length bare - len = rw rest_is (length-drop len bare) in
    omega arith
