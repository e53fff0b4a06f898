use Rattle.std.proofs.Common.{◌≡◌, ◌+◌, ◌-◌, ℕ, true, false, List, [], ◌∷◌, ◌++◌, arith, length, take, drop, refl, ap, ◌∙◌, sym, subst, inl, inr, append_assoc}
use Rattle.std.proofs.lemmas.Bool.{cases_Bool}
use Rattle.std.proofs.lemmas.List.{drop-drop, drop_at, take_at, length-append}
use Rattle.std.proofs.lemmas.List.Elements.{All-nil, All-cons, All-head, All-tail, All-weaker}
use Rattle.std.specs.List.{All, list_any}
use Rattle.text_spec.specs.Texts.{lines_from, in_first_line, whole_line, whole_lines, is_feed, TextLine, Placed}
use Rattle.rule_text.specs.Slices.{LiesIn, line_part, Adjoin}
use Rattle.rule_text.proofs.WholeLines.{whole_of_lines}

-- behind the front of a text stands its back
drop_past : (front rest : List ℕ) (k n : ℕ) → n ≡ length front + k → drop n (front ++ rest) ≡ drop k rest
drop_past front rest k n e = rw e (sym (drop-drop k (length front) (front ++ rest)) ∙ ap (drop k) (drop_at front rest (length front) refl))

-- what lies in the back of a text lies in the text
pub lies_behind : (front rest : List ℕ) (at next : ℕ) → next ≡ at + length front → (p : Placed) → LiesIn next rest p → LiesIn at (front ++ rest) p
lies_behind front rest at next there p lies = record {
  from = omega (arith, lies.from);
  within = omega (arith, lies.within, length-append front rest);
  bytes = ap (take (length p.bytes)) (drop_past front rest (p.at - next) (p.at - at) (omega (arith, lies.from))) ∙ lies.bytes;
}

-- what begins a text lies in it
pub lies_first : (front rest : List ℕ) (at at' : ℕ) → at' ≡ at → LiesIn at (front ++ rest) (record { at = at'; bytes = front })
lies_first front rest at at' same = record {
  from = omega arith;
  within = omega (arith, length-append front rest);
  bytes = ap (λ n. take (length front) (drop n (front ++ rest))) (let none : at' - at ≡ 0 = omega arith in none) ∙ take_at front rest (length front) refl;
}

-- lines still adjoin with the byte in front of the first
adjoin_more : (at b : ℕ) (ls : List TextLine) → Adjoin (at + 1) ls → Adjoin at (in_first_line at b ls)
adjoin_more at b [] h = (refl, tt)
adjoin_more at b (l ∷ ls) h =
    let more : at + 1 + length (whole_line l) ≡ at + length (whole_line (record { at = at; bytes = b ∷ l.bytes; ended = l.ended })) =
    elim (cases_Bool l.ended) [
      | inl e ↦ simp e (omega arith)
      | inr e ↦ simp e (omega arith)
    ] in
    (refl, subst (λ n. Adjoin n ls) more h.1)

-- each line begins where the one before it ends
pub lines_adjoin : (at : ℕ) (bs : List ℕ) → Adjoin at (lines_from at bs)
lines_adjoin at [] = tt
lines_adjoin at (b ∷ bs) =
    elim (cases_Bool (is_feed b)) [
      | inl e ↦ simp e (refl, lines_adjoin (at + 1) bs)
      | inr e ↦ simp e (adjoin_more at b (lines_from (at + 1) bs) (lines_adjoin (at + 1) bs))
    ]

-- a line lies at the front of its text
line_first_lies : (at : ℕ) (l : TextLine) (rest : List ℕ) → l.at ≡ at → LiesIn at (whole_line l ++ rest) (line_part l)
line_first_lies at l rest same =
    elim (cases_Bool l.ended) [
      | inl e ↦ simp (e, append_assoc) (lies_first l.bytes (10 ∷ rest) at l.at same)
      | inr e ↦ simp e (lies_first l.bytes rest at l.at same)
    ]

-- lines that adjoin lie in the text that they make
lines_lie : (at : ℕ) (ls : List TextLine) → Adjoin at ls → All (λ l. LiesIn at (whole_lines ls) (line_part l)) ls
lines_lie at [] h = All-nil (λ l. LiesIn at [] (line_part l))
lines_lie at (l ∷ ls) h =
    All-cons (λ m. LiesIn at (whole_line l ++ whole_lines ls) (line_part m)) l ls (line_first_lies at l (whole_lines ls) h.0)
    (All-weaker (λ m. LiesIn (at + length (whole_line l)) (whole_lines ls) (line_part m)) (λ m. LiesIn at (whole_line l ++ whole_lines ls) (line_part m))
    (λ m. lies_behind (whole_line l) (whole_lines ls) at (at + length (whole_line l)) refl (line_part m)) ls (lines_lie (at + length (whole_line l)) ls h.1))

-- each line is the slice of the text at its place
pub lines_are : (at : ℕ) (bs : List ℕ) → All (λ l. LiesIn at bs (line_part l)) (lines_from at bs)
lines_are at bs =
    subst (λ t. All (λ l. LiesIn at t (line_part l)) (lines_from at bs)) (whole_of_lines at bs) (lines_lie at (lines_from at bs) (lines_adjoin at bs))

feeds_more : (at b : ℕ) (ls : List TextLine) → is_feed b ≡ false → All (λ l. list_any is_feed l.bytes ≡ false) ls
    → All (λ l. list_any is_feed l.bytes ≡ false) (in_first_line at b ls)
feeds_more at b [] e none =
    All-cons (λ l. list_any is_feed l.bytes ≡ false) (record { at = at; bytes = b ∷ []; ended = false }) [] (simp e refl) (All-nil (λ l. list_any is_feed l.bytes ≡ false))
feeds_more at b (l ∷ ls) e none =
    All-cons (λ l. list_any is_feed l.bytes ≡ false) (record { at = at; bytes = b ∷ l.bytes; ended = l.ended }) ls
    (simp e (All-head (λ l. list_any is_feed l.bytes ≡ false) l ls none)) (All-tail (λ l. list_any is_feed l.bytes ≡ false) l ls none)

-- no line has a line feed in it
pub no_feeds : (at : ℕ) (bs : List ℕ) → All (λ l. list_any is_feed l.bytes ≡ false) (lines_from at bs)
no_feeds at [] = All-nil (λ l. list_any is_feed l.bytes ≡ false)
no_feeds at (b ∷ bs) =
    elim (cases_Bool (is_feed b)) [
      | inl e ↦
          simp e
          (All-cons (λ l. list_any is_feed l.bytes ≡ false) (record { at = at; bytes = []; ended = true }) (lines_from (at + 1) bs) refl (no_feeds (at + 1) bs))
      | inr e ↦ simp e (feeds_more at b (lines_from (at + 1) bs) e (no_feeds (at + 1) bs))
    ]
