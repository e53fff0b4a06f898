use Rattle.std.proofs.Common.{◌≡◌, ◌≤◌, ◌+◌, ℕ, suc, Bool, true, false, ◌&&◌, not, ◌==◌, cond, nat_lt, nat_le, is_none, length, List, [], ◌∷◌, ◌++◌, Option, Some, None, position, option_map, fold, refl, ap, ◌∙◌, arith}
use Rattle.std.specs.List.{list_all, position_or_len, zip}
use Rattle.std.proofs.lemmas.Bool.{and_parts, and_from, ltb-false, le-leb, leb-true}
use Rattle.std.proofs.lemmas.List.Folds.{list_all-append}
use Rattle.smack_base.specs.declared.modes.Modes.{Modes}
use Rattle.smack_base.specs.declared.label.LabelFault.TheVariants as LabelFault
use Rattle.smack_base.specs.declared.path.PathFault.TheVariants as PathFault
use Rattle.smack_base.specs.Labels.{is_label, is_label_byte, begins_with_dash}
use Rattle.smack_base.specs.Modes.{mode_letters, flags_of, letters_of, when, or_dash}
use Rattle.smack_base.specs.Paths.{PathName, is_name_byte, is_dots, name_fault}
use Rattle.log_spec.specs.Numerals.{numeral}
use Rattle.log_spec.proofs.Numerals.{is_digit, numeral_digits}

-- what passes a test passes a weaker one
pub all_weaker : {X : Type 0} (p q : X → Bool) → ((x : X) → p x ≡ true → q x ≡ true) → (xs : List X) → list_all p xs ≡ true → list_all q xs ≡ true
all_weaker p q weaker [] all = refl
all_weaker p q weaker (x ∷ xs) all =
    let parts = and_parts (p x) (list_all p xs) all in
    and_from (q x) (list_all q xs) (weaker x parts.0) (all_weaker p q weaker xs parts.1)

-- where the first that fails a test comes behind all, all pass it
none_fails : {X : Type 0} (p : X → Bool) (xs : List X) → length xs ≤ position_or_len (λ x. not (p x)) xs → list_all p xs ≡ true
none_fails p [] past = refl
none_fails p (x ∷ xs) past = by (p x) past (none_fails p xs)
  where
    by : (b : Bool) → suc (length xs) ≤ cond (not (not b)) (1 + position_or_len (λ x. not (p x)) xs) 0
        → (length xs ≤ position_or_len (λ x. not (p x)) xs → list_all p xs ≡ true) → (b && list_all p xs) ≡ true
    by true past rest = rest (omega (arith, past))
    by false past rest = absurd (omega (arith, past))

-- where a place is not told, it is not within
no_place : (within : Bool) (at : ℕ) → is_none (cond within (Some at) None) ≡ true → within ≡ false
no_place true at none = cc
no_place false at none = refl

-- where nothing is told that fails a test, all pass it
all_pass : {X : Type 0} (p : X → Bool) (xs : List X) → is_none (position (λ x. not (p x)) xs) ≡ true → list_all p xs ≡ true
all_pass p xs none =
    none_fails p xs (ltb-false (position_or_len (λ x. not (p x)) xs) (length xs) (no_place (nat_lt (position_or_len (λ x. not (p x)) xs) (length xs)) _ none))

-- where a text has no fault, it has none of those that come later
no_first_fault : {F : Type 0} (bad : Bool) (fault : F) (other : Option F) → is_none (cond bad (Some fault) other) ≡ true → is_none other ≡ true
no_first_fault true fault other none = cc
no_first_fault false fault other none = none

no_mapped : {A B : Type 0} (f : A → B) (o : Option A) → is_none (option_map f o) ≡ true → is_none o ≡ true
no_mapped f None none = refl
no_mapped f (Some a) none = none

label_byte : (b : ℕ) → is_label_byte b ≡ true → is_name_byte b ≡ true
label_byte b is = (and_parts _ _ (and_parts _ _ (and_parts _ _ (and_parts _ _ is).0).0).0).0

-- the bytes of a label are from ! to ~
pub label_bytes : (text : List ℕ) → is_label text ≡ true → list_all is_name_byte text ≡ true
label_bytes text is =
    all_weaker is_label_byte is_name_byte label_byte text
    (all_pass is_label_byte text (no_mapped (λ at. LabelFault.BadByte at) (position (λ b. not (is_label_byte b)) text)
    (no_first_fault (begins_with_dash text) LabelFault.LeadingDash _ (no_first_fault (nat_lt 255 (length text)) LabelFault.TooLong _
    (no_first_fault (length text == 0) LabelFault.Empty _ is)))))

-- the bytes of a name of a path are from ! to ~
pub name_bytes : (n : PathName) → name_fault n ≡ None → list_all is_name_byte n.bytes ≡ true
name_bytes n none =
    all_pass is_name_byte n.bytes (no_mapped (λ i. PathFault.BadByte (n.at + i)) _
    (no_first_fault (is_dots n.bytes) (PathFault.DotName n.at) _ (no_first_fault (nat_lt 64 (length n.bytes)) (PathFault.NameTooLong n.at) _
    (no_first_fault (length n.bytes == 0) (PathFault.EmptyName n.at) _ (ap is_none none)))))

-- what the letters of the modes pass, and the dash, the text of a mode set passes
module _ (test : ℕ → Bool) (dash_passes : test 45 ≡ true) where
  of_letter : (on : Bool) (letter : ℕ) → test letter ≡ true → list_all test (when on letter) ≡ true
  of_letter true letter is = and_from _ _ is refl
  of_letter false letter is = refl

  of_or_dash : (text : List ℕ) → list_all test text ≡ true → list_all test (or_dash text) ≡ true
  of_or_dash [] all = and_from _ _ dash_passes refl
  of_or_dash (b ∷ bs) all = all

  -- letters that stand behind a text, each where its flag is set
  of_letters : (letters : List ℕ) (flags : List Bool) (text : List ℕ) → list_all test letters ≡ true → list_all test text ≡ true
      → list_all test (fold (λ text p. text ++ when p.1 p.0) text (zip letters flags)) ≡ true
  of_letters [] flags text are all = all
  of_letters (l ∷ ls) [] text are all = all
  of_letters (l ∷ ls) (b ∷ bs) text are all =
      let parts = and_parts (test l) (list_all test ls) are in
      of_letters ls bs (text ++ when b l) parts.1 (list_all-append test text (when b l) ∙ and_from _ _ all (of_letter b l parts.0))

  pub letters_pass : list_all test mode_letters ≡ true → (m : Modes) → list_all test (letters_of m) ≡ true
  letters_pass are m =
      of_or_dash (fold (λ text p. text ++ when p.1 p.0) [] (zip mode_letters (flags_of m))) (of_letters mode_letters (flags_of m) [] are refl)

-- the letters of a mode set, and the dash, are from ! to ~
pub letter_bytes : (m : Modes) → list_all is_name_byte (letters_of m) ≡ true
letter_bytes m = letters_pass is_name_byte refl refl m

digit_byte : (b : ℕ) → is_digit b ≡ true → is_name_byte b ≡ true
digit_byte b is =
    let parts = and_parts (nat_le 48 b) (nat_le b 57) is in
    and_from _ _ (le-leb 33 b (omega (arith, leb-true 48 b parts.0))) (le-leb b 126 (omega (arith, leb-true b 57 parts.1)))

-- the digits of a number are from ! to ~
pub numeral_bytes : (n : ℕ) → list_all is_name_byte (numeral n) ≡ true
numeral_bytes n = all_weaker is_digit is_name_byte digit_byte (numeral n) (numeral_digits n)
