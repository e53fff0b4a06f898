use Rattle.std.proofs.Common.{◌≡◌, ◌≤◌, ◌<◌, ◌+◌, ◌-◌, ℕ, true, false, zero, suc, List, [], ◌∷◌, ◌++◌, arith, length, take, drop, refl, ap, ◌∙◌, sym, inl, inr, append_assoc}
use Rattle.std.proofs.lemmas.Bool.{cases_Bool, eqb-true}
use Rattle.std.proofs.lemmas.List.{take-append-drop, take_at, drop-drop, length-drop, length-append}
use Rattle.std.proofs.Math.Seq.{take-nil}
use Rattle.text_spec.specs.Texts.{lines_from, in_first_line, whole_line, whole_lines, is_feed, TextLine}

-- the byte in front of the first line is the first byte
whole_more : (at b : ℕ) (ls : List TextLine) → whole_lines (in_first_line at b ls) ≡ b ∷ whole_lines ls
whole_more at b [] = refl
whole_more at b (l ∷ ls) =
    elim (cases_Bool l.ended) [
      | inl e ↦ simp e refl
      | inr e ↦ simp e refl
    ]

-- the lines of a text are all its bytes
pub whole_of_lines : (at : ℕ) (bs : List ℕ) → whole_lines (lines_from at bs) ≡ bs
whole_of_lines at [] = refl
whole_of_lines at (b ∷ bs) =
    elim (cases_Bool (is_feed b)) [
      | inl e ↦ simp e (rw (eqb-true b 10 e) (ap (λ (t : List ℕ). 10 ∷ t) (whole_of_lines (at + 1) bs)))
      | inr e ↦ simp e (whole_more at b (lines_from (at + 1) bs) ∙ ap (λ (t : List ℕ). b ∷ t) (whole_of_lines (at + 1) bs))
    ]

-- the bytes of lines one after the other
whole_append : (ls ms : List TextLine) → whole_lines (ls ++ ms) ≡ whole_lines ls ++ whole_lines ms
whole_append [] ms = refl
whole_append (l ∷ ls) ms = ap (λ (t : List ℕ). whole_line l ++ t) (whole_append ls ms) ∙ sym (append_assoc (whole_line l) (whole_lines ls) (whole_lines ms))

-- the byte in front stays in front of the first lines
take_in_first : (at b n : ℕ) (ls : List TextLine) → take (suc n) (in_first_line at b ls) ≡ in_first_line at b (take (suc n) ls)
take_in_first at b n [] = ap (λ (t : List TextLine). (record { at = at; bytes = b ∷ []; ended = false }) ∷ t) (take-nil n)
take_in_first at b n (l ∷ ls) = refl

-- a byte that is no line feed goes in front of the first line
lines_more : (at b : ℕ) (bs : List ℕ) → is_feed b ≡ false → lines_from at (b ∷ bs) ≡ in_first_line at b (lines_from (at + 1) bs)
lines_more at b bs e = simp e refl

-- the bytes of the first lines have these lines
pub front_lines : (n at : ℕ) (bs : List ℕ) → lines_from at (whole_lines (take n (lines_from at bs))) ≡ take n (lines_from at bs)
front_lines zero at bs = refl
front_lines (suc n) at [] = refl
front_lines (suc n) at (b ∷ bs) =
    elim (cases_Bool (is_feed b)) [
      | inl e ↦ simp e (ap (λ (t : List TextLine). (record { at = at; bytes = []; ended = true }) ∷ t) (front_lines n (at + 1) bs))
      | inr e ↦
          rw (lines_more at b bs e, take_in_first at b n (lines_from (at + 1) bs), whole_more at b (take (suc n) (lines_from (at + 1) bs)))
          (lines_more at b (whole_lines (take (suc n) (lines_from (at + 1) bs))) e ∙ ap (in_first_line at b) (front_lines (suc n) (at + 1) bs))
    ]

-- what stands in front of the lines from the n-th on
before_lines : (n at next : ℕ) (bs rest : List ℕ) → lines_from next rest ≡ drop n (lines_from at bs)
    → take (length bs - length rest) bs ≡ whole_lines (take n (lines_from at bs))
before_lines n at next bs rest behind =
    let back : whole_lines (drop n (lines_from at bs)) ≡ rest = rw (← behind) (whole_of_lines next rest) in
    let all : whole_lines (take n (lines_from at bs)) ++ rest ≡ bs =
    ap (λ (t : List ℕ). whole_lines (take n (lines_from at bs)) ++ t) (sym back)
    ∙ sym (whole_append (take n (lines_from at bs)) (drop n (lines_from at bs)))
    ∙ ap whole_lines (take-append-drop n (lines_from at bs)) ∙ whole_of_lines at bs in
    let size : length (whole_lines (take n (lines_from at bs))) + length rest ≡ length bs =
    sym (length-append (whole_lines (take n (lines_from at bs))) rest) ∙ ap (λ (t : List ℕ). length t) all in
    ap (λ (t : List ℕ). take (length bs - length rest) t) (sym all) ∙ take_at (whole_lines (take n (lines_from at bs))) rest _ (omega arith)

-- the front of a text, as it is cut before the lines from the n-th on, is the first n lines
pub front_bytes : (n i at next : ℕ) (bs rest front : List ℕ) → n ≡ i → lines_from next rest ≡ drop i (lines_from at bs)
    → front ≡ take (length bs - length rest) bs → front ≡ whole_lines (take n (lines_from at bs))
front_bytes n i at next bs rest front same behind cut = cut ∙ rw same (before_lines i at next bs rest behind)

-- and has these lines
pub front_from : (n i at next : ℕ) (bs rest : List ℕ) (at' : ℕ) (front : List ℕ) → n ≡ i → lines_from next rest ≡ drop i (lines_from at bs)
    → at' ≡ at → front ≡ take (length bs - length rest) bs → lines_from at' front ≡ take n (lines_from at bs)
front_from n i at next bs rest at' front same behind there cut =
    rw (there, front_bytes n i at next bs rest front same behind cut) (front_lines n at bs)

-- one more line is passed
pub lines_behind : (i : ℕ) (lines rest after : List TextLine) (l : TextLine) → rest ≡ drop i lines → rest ≡ l ∷ after → after ≡ drop (i + 1) lines
lines_behind i lines rest after l behind first =
    ap (λ (t : List TextLine). drop 1 t) (sym first ∙ behind) ∙ drop-drop 1 i lines

-- there was one more line
pub one_behind : (i : ℕ) (lines rest after : List TextLine) (l : TextLine) → rest ≡ drop i lines → rest ≡ l ∷ after → i < length lines
one_behind i lines rest after l behind first =
    omega (arith, sym (length-drop i lines) ∙ ap (λ (t : List TextLine). length t) (sym behind ∙ first))

-- there was no more line
pub none_behind : (i : ℕ) (lines rest : List TextLine) → rest ≡ drop i lines → rest ≡ [] → length lines ≤ i
none_behind i lines rest behind none =
    omega (arith, sym (length-drop i lines) ∙ ap (λ (t : List TextLine). length t) (sym behind ∙ none))
