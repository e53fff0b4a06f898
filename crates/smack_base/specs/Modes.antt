use Rattle.std.specs.Prelude.{◌+◌, ℕ, Bool, true, false, ◌||◌, ◌&&◌, not, ◌==◌, if◌then◌else◌, List, [], ◌∷◌, ◌++◌, Option, position, is_none, fold, map, slice_index_or}
use Rattle.std.specs.List.{list_any, zip}
use Rattle.smack_base.specs.declared.modes.Modes.{Modes}

-- the small letters of the modes, and the dash that stands for none
abbrev pub letter_r : ℕ
letter_r = 114

abbrev pub letter_w : ℕ
letter_w = 119

abbrev pub letter_x : ℕ
letter_x = 120

abbrev pub letter_a : ℕ
letter_a = 97

abbrev pub letter_t : ℕ
letter_t = 116

abbrev pub letter_b : ℕ
letter_b = 98

abbrev pub dash : ℕ
dash = 45

-- The modes as a table: their letters in the order in which they are printed, and the flags of a set in that order; the
-- set with these flags, where those that lack are not set.
abbrev pub mode_letters : List ℕ
mode_letters = letter_r ∷ letter_w ∷ letter_x ∷ letter_a ∷ letter_t ∷ letter_b ∷ []

abbrev pub flags_of : Modes → List Bool
flags_of m = m.read ∷ m.write ∷ m.execute ∷ m.append ∷ m.transmute ∷ m.bring_up ∷ []

abbrev pub modes_by : List Bool → Modes
modes_by flags = record {
  read = slice_index_or flags 0 false;
  write = slice_index_or flags 1 false;
  execute = slice_index_or flags 2 false;
  append = slice_index_or flags 3 false;
  transmute = slice_index_or flags 4 false;
  bring_up = slice_index_or flags 5 false;
}

-- the byte is this small letter, in either case
abbrev pub is_either_case : ℕ → ℕ → Bool
is_either_case small b = (b == small) || (b + 32 == small)

-- a mode letter or the dash
abbrev pub is_letter : ℕ → Bool
is_letter b = fold (λ any small. any || is_either_case small b) false mode_letters || (b == dash)

-- whether a letter stands in a text, in either case
abbrev pub has_letter : ℕ → List ℕ → Bool
has_letter small text = list_any (is_either_case small) text

-- the place of the first byte that is no letter and no dash
abbrev pub bad_letter : List ℕ → Option ℕ
bad_letter text = position (λ b. not (is_letter b)) text

-- whether a text is a mode set
abbrev pub is_modes : List ℕ → Bool
is_modes text = is_none (bad_letter text)

-- the set of the letters that stand in a text
abbrev pub modes_of : List ℕ → Modes
modes_of text = modes_by (map (λ small. has_letter small text) mode_letters)

-- no access
abbrev pub no_modes : Modes
no_modes = modes_by []

-- read and execute
abbrev pub read_execute : Modes
read_execute = record no_modes { read = true; execute = true }

-- the answer to a question on each mode, asked of two sets
abbrev pub mode_by_mode : (Bool → Bool → Bool) → Modes → Modes → List Bool
mode_by_mode f m n = map (λ p. f p.0 p.1) (zip (flags_of m) (flags_of n))

-- m has every mode of n
abbrev pub holds : Modes → Modes → Bool
holds m n = fold (λ all held. all && held) true (mode_by_mode (λ a b. not b || a) m n)

-- the modes of m or n
abbrev pub union : Modes → Modes → Modes
union m n = modes_by (mode_by_mode (λ a b. a || b) m n)

-- the modes of m that are not in n
abbrev pub without : Modes → Modes → Modes
without m n = modes_by (mode_by_mode (λ a b. a && not b) m n)

-- the letter, where it is wanted
abbrev pub when : Bool → ℕ → List ℕ
when b letter = if b then letter ∷ [] else []

-- the text, or a dash for none
abbrev pub or_dash : List ℕ → List ℕ
or_dash [] = dash ∷ []
or_dash (b ∷ bs) = b ∷ bs

-- the letters of a set in the order rwxatb, or a dash
abbrev pub letters_of : Modes → List ℕ
letters_of m = or_dash (fold (λ text p. text ++ when p.1 p.0) [] (zip mode_letters (flags_of m)))
