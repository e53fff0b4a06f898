use Rattle.std.proofs.Common.{◌≡◌, ◌<◌, ◌≤◌, ◌+◌, ℕ, Bool, true, false, ◌||◌, cond, not, List, [], ◌∷◌, length, take, drop, get_or, map, refl, sym, ap, ◌∙◌, Some, None}
use Rattle.std.specs.List.{position_from}
use Rattle.std.proofs.lemmas.List.{take_all, at_drop_more, at_drop_all}
use Rattle.std.proofs.lemmas.List.Folds.{list_any_more}
use Rattle.std.proofs.lemmas.Iterator.Adapters.{position_from-zero}
use Rattle.smack_base.specs.declared.modes.Modes.{Modes}
use Rattle.smack_base.specs.Modes.{mode_letters, modes_by, is_letter, is_either_case, has_letter, bad_letter, modes_of, union}

or_nothing : (b : Bool) → (b || false) ≡ b
or_nothing true = refl
or_nothing false = refl

-- one more letter
pub letters_more : (text : List ℕ) (n : ℕ) (m : Modes) → n < length text → m ≡ modes_of (take n text)
    → union m (modes_of (get_or text n 0 ∷ [])) ≡ modes_of (take (n + 1) text)
letters_more text n m within is = ap (λ (m : Modes). union m (modes_of (get_or text n 0 ∷ []))) is ∙ (λ i. modes_by (map (λ small. more small i) mode_letters))
  where
    more : (small : ℕ) → (has_letter small (take n text) || has_letter small (get_or text n 0 ∷ [])) ≡ has_letter small (take (n + 1) text)
    more small =
        ap (λ b. has_letter small (take n text) || b) (or_nothing (is_either_case small (get_or text n 0)))
        ∙ sym (list_any_more (is_either_case small) text n 0 within)

pub letters_all : (text : List ℕ) (n : ℕ) (m : Modes) → length text ≤ n → m ≡ modes_of (take n text) → m ≡ modes_of text
letters_all text n m end is = is ∙ ap (λ (t : List ℕ). modes_of t) (take_all n text end)

abbrev pub is_bad : ℕ → Bool
is_bad b = not (is_letter b)

-- the first bad letter of a text is that of what is left of it
pub bad_first : (text : List ℕ) → position_from is_bad 0 text ≡ bad_letter text
bad_first text = sym (position_from-zero is_bad text)

pub bad_here : (text : List ℕ) (n : ℕ) → n < length text → is_letter (get_or text n 0) ≡ false
    → position_from is_bad n (drop n text) ≡ bad_letter text → bad_letter text ≡ Some n
bad_here text n within is left = sym left ∙ at_drop_more (position_from is_bad n) text n 0 within
    ∙ ap (λ b. cond (not b) (Some n) (position_from is_bad (n + 1) (drop (n + 1) text))) is

pub bad_later : (text : List ℕ) (n : ℕ) → n < length text → is_letter (get_or text n 0) ≡ true
    → position_from is_bad n (drop n text) ≡ bad_letter text → position_from is_bad (n + 1) (drop (n + 1) text) ≡ bad_letter text
bad_later text n within is left =
    sym (at_drop_more (position_from is_bad n) text n 0 within
    ∙ ap (λ b. cond (not b) (Some n) (position_from is_bad (n + 1) (drop (n + 1) text))) is) ∙ left

pub bad_none : (text : List ℕ) (n : ℕ) → length text ≤ n → position_from is_bad n (drop n text) ≡ bad_letter text → bad_letter text ≡ None
bad_none text n end left = sym left ∙ at_drop_all (position_from is_bad n) text n end
