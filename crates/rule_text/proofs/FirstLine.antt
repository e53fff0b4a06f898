use Rattle.std.proofs.Common.{◌≡◌, ◌≤◌, ◌<◌, ◌+◌, ℕ, true, false, suc, List, [], ◌∷◌, arith, length, take, drop, refl, inl, inr, nat_lt}
use Rattle.std.proofs.lemmas.Bool.{cases_Bool, lt-ltb, le-ltb}
use Rattle.std.proofs.lemmas.List.{length-take-le, drop_all}
use Rattle.std.specs.List.{position_or_len}
use Rattle.text_spec.specs.Texts.{lines_from, is_feed}
use Rattle.rule_text.proofs.Places.{one_more}

-- a line gains the byte in front of it
line_more : (at b next n m : ℕ) (bs : List ℕ) → is_feed b ≡ false
    → lines_from (at + 1) bs ≡ (record { at = at + 1; bytes = take n bs; ended = true }) ∷ lines_from next (drop m bs)
    → lines_from at (b ∷ bs) ≡ (record { at = at; bytes = take (suc n) (b ∷ bs); ended = true }) ∷ lines_from next (drop (suc m) (b ∷ bs))
line_more at b next n m bs e same = simp (e, same) refl

-- the bytes before the first line feed are the first line
pub line_first : (at : ℕ) (bs : List ℕ) (n m next : ℕ) → n ≡ position_or_len is_feed bs → m ≡ n + 1 → next ≡ at + m → n < length bs
    → lines_from at bs ≡ (record { at = at; bytes = take n bs; ended = true }) ∷ lines_from next (drop m bs)
line_first at [] n m next place past there h = absurd (omega arith)
line_first at (b ∷ bs) n m next place past there h =
    elim (cases_Bool (is_feed b)) [
      | inl e ↦
          let none : n ≡ 0 = simp e at place in
          let one : m ≡ 1 = omega arith in
          let behind : next ≡ at + 1 = omega arith in
          rw (none, one, behind) (simp e refl)
      | inr e ↦
          let more : n ≡ suc (position_or_len is_feed bs) = simp (e, one_more) at place in
          let more_past : m ≡ suc (suc (position_or_len is_feed bs)) = omega arith in
          rw (more, more_past)
          (line_more at b next (position_or_len is_feed bs) (suc (position_or_len is_feed bs)) bs e
          (line_first (at + 1) bs (position_or_len is_feed bs) (suc (position_or_len is_feed bs)) next refl (omega arith) (omega arith) (omega arith)))
    ]

-- where no line feed stands, the text is one line
pub line_last : (at b : ℕ) (bs : List ℕ) → length (b ∷ bs) ≤ position_or_len is_feed (b ∷ bs)
    → lines_from at (b ∷ bs) ≡ (record { at = at; bytes = b ∷ bs; ended = false }) ∷ []
line_last at b [] h =
    elim (cases_Bool (is_feed b)) [
      | inl e ↦ absurd (omega (arith, simp e at h))
      | inr e ↦ simp e refl
    ]
line_last at b (c ∷ cs) h =
    elim (cases_Bool (is_feed b)) [
      | inl e ↦ absurd (omega (arith, simp e at h))
      | inr e ↦
          let rest : length (c ∷ cs) ≤ position_or_len is_feed (c ∷ cs) = omega (arith, simp e at h) in
          simp e (rw (line_last (at + 1) c cs rest) refl)
    ]

-- the first line and the rest, as they are cut at a line feed
pub line_cut : (at n : ℕ) (bs : List ℕ) → n ≡ position_or_len is_feed bs → n < length bs
    → (at' next : ℕ) (first rest : List ℕ) → at' ≡ at → first ≡ take n bs → next ≡ at + (n + 1) → rest ≡ drop (n + 1) bs
    → lines_from at bs ≡ (record { at = at'; bytes = first; ended = nat_lt (length first) (length bs) }) ∷ lines_from next rest
line_cut at n bs place within at' next first rest same front there behind =
    let short : length first ≡ n = rw front (length-take-le n bs (omega arith)) in
    let ended : nat_lt (length first) (length bs) ≡ true = lt-ltb _ _ (omega arith) in
    rw (ended, same, front, behind) (line_first at bs n (n + 1) next place refl there within)

-- the whole text as the first line
pub line_whole : (at n : ℕ) (bs : List ℕ) → n ≡ position_or_len is_feed bs → length bs ≤ n → (length bs ≡ 0 → ⊥)
    → (next : ℕ) (rest : List ℕ) → rest ≡ drop (length bs) bs
    → lines_from at bs ≡ (record { at = at; bytes = bs; ended = nat_lt (length bs) (length bs) }) ∷ lines_from next rest
line_whole at n [] place past some next rest behind = absurd (some refl)
line_whole at n (b ∷ bs) place past some next rest behind =
    let ended : nat_lt (length (b ∷ bs)) (length (b ∷ bs)) ≡ false = le-ltb _ _ (omega arith) in
    rw (ended, behind, drop_all (length (b ∷ bs)) (b ∷ bs) (omega arith)) (line_last at b bs (omega arith))
