use Rattle.std.proofs.Common.{◌≡◌, ℕ, ◌+◌, Bool, true, false, ◌&&◌, ◌||◌, List, [], ◌∷◌, ◌++◌, Some, None, refl, sym, ap, ◌∙◌}
use Rattle.std.specs.Prelude.{fold, is_none}
use Rattle.std.specs.List.{zip, list_all, position_from}
use Rattle.std.proofs.lemmas.Bool.{and_parts}
use Rattle.std.proofs.lemmas.List.Folds.{list_any-append}
use Rattle.smack_base.specs.declared.modes.Modes.{Modes}
use Rattle.smack_base.specs.Modes.{letter_r, letter_w, letter_x, letter_a, letter_t, letter_b, mode_letters, flags_of, is_either_case, has_letter, modes_of, is_letter, is_modes, when, or_dash, letters_of}
use Rattle.smack_base.proofs.ModeLetters.{is_bad, bad_first}
use Rattle.log_spec.proofs.PrintedBytes.{letter_bytes, letters_pass}
use Rattle.verb_spec.specs.Values.{modes_in}
use Rattle.text_laws.proofs.Clean.{is_clean, name_bytes_clean}

-- what adding nothing to a test, and joining it with a known one, leaves of it
or_nothing : (b : Bool) → (b || false) ≡ b
or_nothing true = refl
or_nothing false = refl

and_yes : (b : Bool) → (b && true) ≡ b
and_yes true = refl
and_yes false = refl

and_no : (b : Bool) → (b && false) ≡ false
and_no true = refl
and_no false = refl

-- whether a letter stands in the text of one mode, and behind the texts of others
letter_alone : (small letter : ℕ) (on : Bool) → has_letter small (when on letter) ≡ (on && is_either_case small letter)
letter_alone small letter true = or_nothing (is_either_case small letter)
letter_alone small letter false = refl

letter_added : (small letter : ℕ) (text : List ℕ) (on : Bool) → has_letter small (text ++ when on letter) ≡ (has_letter small text || (on && is_either_case small letter))
letter_added small letter text on = list_any-append (is_either_case small) text (when on letter) ∙ ap (λ b. has_letter small text || b) (letter_alone small letter on)

-- the dash is no letter
beside_dash : (small : ℕ) (text : List ℕ) → is_either_case small 45 ≡ false → has_letter small (or_dash text) ≡ has_letter small text
beside_dash small [] other = ap (λ b. b || false) other
beside_dash small (b ∷ bs) other = refl

-- whether a letter is one of these whose flags are set, or stands in front of them
abbrev any_letter : ℕ → List ℕ → List Bool → Bool → Bool
any_letter small letters flags front = fold (λ any p. any || (p.1 && is_either_case small p.0)) front (zip letters flags)

-- a letter that stands in a text, with letters behind it, each where its flag is set
letter_behind : (small : ℕ) (letters : List ℕ) (flags : List Bool) (text : List ℕ)
    → has_letter small (fold (λ text p. text ++ when p.1 p.0) text (zip letters flags)) ≡ any_letter small letters flags (has_letter small text)
letter_behind small [] flags text = refl
letter_behind small (l ∷ ls) [] text = refl
letter_behind small (l ∷ ls) (b ∷ bs) text =
    letter_behind small ls bs (text ++ when b l) ∙ ap (any_letter small ls bs) (letter_added small l text b)

-- the letters of a printed set are those of its modes
letter_stands : (small : ℕ) (m : Modes) → is_either_case small 45 ≡ false
    → has_letter small (letters_of m) ≡ any_letter small mode_letters (flags_of m) false
letter_stands small m other = beside_dash small (fold (λ text p. text ++ when p.1 p.0) [] (zip mode_letters (flags_of m))) other ∙ letter_behind small mode_letters (flags_of m) []

-- a printed mode set tells the set
pub modes_read : (m : Modes) → modes_of (letters_of m) ≡ m
modes_read m = λ i. record {
  read = here letter_r m.read refl (simp (and_yes, and_no, or_nothing) refl) i;
  write = here letter_w m.write refl (simp (and_yes, and_no, or_nothing) refl) i;
  execute = here letter_x m.execute refl (simp (and_yes, and_no, or_nothing) refl) i;
  append = here letter_a m.append refl (simp (and_yes, and_no, or_nothing) refl) i;
  transmute = here letter_t m.transmute refl (simp (and_yes, and_no, or_nothing) refl) i;
  bring_up = here letter_b m.bring_up refl (simp (and_yes, and_no, or_nothing) refl) i;
}
  where
    here : (small : ℕ) (on : Bool) → is_either_case small 45 ≡ false → any_letter small mode_letters (flags_of m) false ≡ on → has_letter small (letters_of m) ≡ on
    here small on other is = letter_stands small m other ∙ is

-- the letters and the dash are neither spaces nor line feeds
pub modes_clean : (m : Modes) → is_clean (letters_of m) ≡ true
modes_clean m = name_bytes_clean (letters_of m) (letter_bytes m)

-- where all bytes of a text are letters, none is the first that is not
no_bad_letter : (from : ℕ) (text : List ℕ) → list_all is_letter text ≡ true → position_from is_bad from text ≡ None
no_bad_letter from [] all = refl
no_bad_letter from (b ∷ bs) all =
    let parts = and_parts (is_letter b) (list_all is_letter bs) all in rw (parts.0) (no_bad_letter (from + 1) bs parts.1)

-- the text of a mode set is one, and is read as the set
pub modes_again : (m : Modes) → modes_in (letters_of m) ≡ Some m
modes_again m =
    let good : is_modes (letters_of m) ≡ true =
    ap is_none (sym (bad_first (letters_of m)) ∙ no_bad_letter 0 (letters_of m) (letters_pass is_letter refl refl m)) in
    rw good (ap (λ modes. Some modes) (modes_read m))
