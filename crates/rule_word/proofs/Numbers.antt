use Rattle.std.proofs.Common.{◌≡◌, ℕ, ◌+◌, ◌*◌, ◌/◌, ◌%◌, ◌<◌, ◌==◌, Bool, true, false, List, [], ◌∷◌, length, refl, ap, ap₂, ◌∙◌, arith}
use Rattle.smack_base.specs.declared.modes.Modes.{Modes}
use Rattle.smack_base.specs.Modes.{flags_of, modes_by}
use Rattle.rule_word.specs.Layout.{worth, flags_number, modes_number}
use Rattle.rule_word.specs.Fields.{flags_in, modes_of_number}

-- the lowest bit of a number is its first flag, and what is left of it is the number of the others
first_back : (flag : Bool) (n : ℕ) → ((worth flag 1 + 2 * n) % 2 == 1) ≡ flag
first_back true n = let odd : (1 + 2 * n) % 2 ≡ 1 = omega arith in ap (λ x. x == 1) odd
first_back false n = let even : (0 + 2 * n) % 2 ≡ 0 = omega arith in ap (λ x. x == 1) even

rest_back : (flag : Bool) (n : ℕ) → (worth flag 1 + 2 * n) / 2 ≡ n
rest_back true n = omega arith
rest_back false n = omega arith

-- the flags of the number of some flags are these
flags_back : (flags : List Bool) → flags_in (length flags) (flags_number flags) ≡ flags
flags_back [] = refl
flags_back (f ∷ fs) =
    ap₂ (λ (b : Bool) n. b ∷ flags_in (length fs) n) (first_back f (flags_number fs)) (rest_back f (flags_number fs))
    ∙ ap (λ (bs : List Bool). f ∷ bs) (flags_back fs)

most_one : (flag : Bool) → worth flag 1 < 2
most_one true = omega arith
most_one false = omega arith

-- how many numbers these flags can make, and that theirs is below it
abbrev counted : List Bool → ℕ
counted [] = 1
counted (f ∷ fs) = 2 * counted fs

flags_few : (flags : List Bool) → flags_number flags < counted flags
flags_few [] = omega arith
flags_few (f ∷ fs) = let first = most_one f in let rest = flags_few fs in omega (arith, first, rest)

pub modes_few : (m : Modes) → modes_number m < 64
modes_few m = flags_few (flags_of m)

-- the modes of the number of a set are the set
pub modes_back : (m : Modes) → modes_of_number (modes_number m) ≡ m
modes_back m = ap modes_by (flags_back (flags_of m))
