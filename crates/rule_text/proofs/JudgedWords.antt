use Rattle.std.proofs.Common.{◌≡◌, ◌≤◌, ◌<◌, ◌==◌, nat_lt, ℕ, Bool, true, false, zero, suc, List, [], ◌∷◌, None, not, length, take, drop, arith, refl, ap, sym, ◌∙◌, inl, inr}
use Rattle.std.proofs.lemmas.Bool.{cases_Bool, ne_eqb, le-ltb}
use Rattle.std.proofs.lemmas.Bool.Decides.{nat_tests}
use Rattle.std.proofs.lemmas.List.{length-take}
use Rattle.std.specs.List.{position_or_len}
use Rattle.smack_base.specs.Labels.{is_label_byte, begins_with_dash, label_fault}
use Rattle.text_spec.specs.Texts.{is_blank, begins_word}
use Rattle.rule_text.proofs.Places.{one_more, place_more, place_within}

abbrev pub is_foreign : ℕ → Bool
is_foreign b = not (is_label_byte b)

-- a byte of a label is no blank
no_blank : (b : ℕ) → is_label_byte b ≡ true → is_blank b ≡ false
no_blank b e = grind (arith, nat_tests)

-- bytes of labels up to a blank or the end are the first word
pub run_is_word : (bs : List ℕ) (n : ℕ) → n ≡ position_or_len is_foreign bs → false ≡ begins_word is_blank (drop n bs) → n ≡ position_or_len is_blank bs
run_is_word [] n place ends = place
run_is_word (b ∷ bs) n place ends =
    elim (cases_Bool (is_label_byte b)) [
      | inl e ↦
          let more : n ≡ suc (position_or_len is_foreign bs) = simp (e, one_more) at place in
          more ∙ ap suc (run_is_word bs (position_or_len is_foreign bs) refl (rw more at ends)) ∙ sym (place_more is_blank b bs (no_blank b e))
      | inr e ↦
          let none : n ≡ 0 = simp e at place in
          elim (cases_Bool (is_blank b)) [
            | inl d ↦ rw none (simp d refl)
            | inr d ↦ cc
          ]
    ]

-- up to the first byte that passes, none does
none_before : (p : ℕ → Bool) (bs : List ℕ) → position_or_len p (take (position_or_len p bs) bs) ≡ position_or_len p bs
none_before p [] = refl
none_before p (b ∷ bs) =
    elim (cases_Bool (p b)) [
      | inl e ↦ simp e refl
      | inr e ↦ rw (place_more p b bs e) (place_more p b (take (position_or_len p bs) bs) e ∙ ap suc (none_before p bs))
    ]

same_dash : (bs : List ℕ) (n : ℕ) → 0 < n → begins_with_dash (take n bs) ≡ begins_with_dash bs
same_dash bs zero some = absurd (omega (arith, some))
same_dash [] (suc n) some = refl
same_dash (b ∷ bs) (suc n) some = refl

good_text : (text : List ℕ) → 0 < length text → length text ≤ 255 → begins_with_dash text ≡ false → position_or_len is_foreign text ≡ length text → label_fault text ≡ None
good_text text some few dash all =
    let there : (length text == 0) ≡ false = ne_eqb (length text) 0 (λ e. omega (arith, e, some)) in
    let short : nat_lt 255 (length text) ≡ false = le-ltb _ _ few in
    let none : nat_lt (length text) (length text) ≡ false = le-ltb _ _ (omega arith) in
    simp (there, short, dash, all, none) refl

-- a run of bytes of labels is a label, if it is not empty, not too long, and begins with no dash
pub run_is_label : (bs : List ℕ) (n : ℕ) → n ≡ position_or_len is_foreign bs → 0 < n → n ≤ 255 → begins_with_dash bs ≡ false → label_fault (take n bs) ≡ None
run_is_label bs n place some few dash =
    let within = place_within is_foreign bs in
    let long : length (take n bs) ≡ n = omega (arith, length-take n bs, within, place) in
    let all : position_or_len is_foreign (take n bs) ≡ length (take n bs) = rw place (none_before is_foreign bs) ∙ sym place ∙ sym long in
    good_text (take n bs) (omega (arith, long, some)) (omega (arith, long, few)) (same_dash bs n some ∙ dash) all
