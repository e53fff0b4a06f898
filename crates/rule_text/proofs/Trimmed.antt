use Rattle.std.proofs.Common.{◌≡◌, ◌≤◌, ◌+◌, ◌-◌, ℕ, List, ◌++◌, arith, length, None, not, reverse, take, drop, refl, ap, ◌∙◌, sym}
use Rattle.std.proofs.lemmas.List.{length-reverse, length-take-le, length-drop, reverse-append, reverse-reverse, take-append-drop, drop_at}
use Rattle.std.specs.List.{position}
use Rattle.text_spec.specs.Texts.{Placed, is_space}
use Rattle.text_spec.specs.RuleTexts.{front_spaces, trimmed}
use Rattle.rule_text.specs.Slices.{LiesIn}
use Rattle.rule_text.proofs.Places.{no_place, place_within}

-- where all is space, all is space at the end
pub no_place_behind : (bs : List ℕ) → position (λ b. not (is_space b)) (reverse bs) ≡ None → length bs ≡ front_spaces (reverse bs)
no_place_behind bs none = sym (length-reverse bs) ∙ no_place (λ b. not (is_space b)) (reverse bs) none

-- at most all bytes are spaces at the end
pub spaces_within : (bs : List ℕ) → front_spaces (reverse bs) ≤ length bs
spaces_within bs = rw (← length-reverse bs) (place_within (λ b. not (is_space b)) (reverse bs))

-- without so many bytes at the end, from the end and from the front
without_end : (bs : List ℕ) (n : ℕ) → n ≤ length bs → reverse (drop n (reverse bs)) ≡ take (length bs - n) bs
without_end bs n h =
    let split : reverse bs ≡ reverse (drop (length bs - n) bs) ++ reverse (take (length bs - n) bs) =
    ap reverse (sym (take-append-drop (length bs - n) bs)) ∙ reverse-append (take (length bs - n) bs) (drop (length bs - n) bs) in
    let size : length (reverse (drop (length bs - n) bs)) ≡ n =
    omega (arith, length-reverse (drop (length bs - n) bs), length-drop (length bs - n) bs) in
    ap (λ (t : List ℕ). reverse (drop n t)) split
    ∙ ap reverse (drop_at (reverse (drop (length bs - n) bs)) (reverse (take (length bs - n) bs)) n size)
    ∙ reverse-reverse (take (length bs - n) bs)

-- a field as it is cut: behind the spaces in front, before those at the end
pub trimmed_cut : (at n : ℕ) (text : List ℕ) → n ≡ front_spaces text → (bare : List ℕ) → bare ≡ drop n text
    → (k : ℕ) → k ≡ front_spaces (reverse bare) → k ≤ length bare → (front : List ℕ) → front ≡ take (length bare - k) bare
    → (bare_at at' : ℕ) → bare_at ≡ at + n → at' ≡ bare_at
    → (let cut : Placed = record { at = at'; bytes = front } in cut) ≡ trimmed (record { at = at; bytes = text })
trimmed_cut at n text place bare is k end within front front_is bare_at at' there same =
    rw (same, there, front_is, ← without_end bare k within, end, is, place) refl

-- a field cut at both ends lies in the field
trimmed_from : (p : Placed) (n k : ℕ) → n ≤ length p.bytes → k ≤ length (drop n p.bytes)
    → LiesIn p.at p.bytes (record { at = p.at + n; bytes = reverse (drop k (reverse (drop n p.bytes))) })
trimmed_from p n k front back =
    let size : length (take (length (drop n p.bytes) - k) (drop n p.bytes)) ≡ length (drop n p.bytes) - k =
    length-take-le (length (drop n p.bytes) - k) (drop n p.bytes) (omega arith) in
    let behind : p.at + n - p.at ≡ n = omega arith in
    rw (without_end (drop n p.bytes) k back)
    (record {
      from = omega arith;
      within = omega (arith, size, length-drop n p.bytes);
      bytes = ap (λ i. take i (drop (p.at + n - p.at) p.bytes)) size ∙ ap (λ i. take (length (drop n p.bytes) - k) (drop i p.bytes)) behind;
    })

-- a trimmed field lies in the field
pub trimmed_lies : (p : Placed) → LiesIn p.at p.bytes (trimmed p)
trimmed_lies p =
    trimmed_from p (front_spaces p.bytes) (front_spaces (reverse (drop (front_spaces p.bytes) p.bytes)))
    (place_within (λ b. not (is_space b)) p.bytes) (spaces_within (drop (front_spaces p.bytes) p.bytes))
