use Rattle.std.proofs.Common.{◌≡◌, ℕ, Bool, true, false, ◌==◌, if◌then◌else◌, List, [], ◌∷◌, length, refl, subst, arith, Option, Some, None, Ok, Err, nat_le, nat_lt}
use Rattle.std.specs.Prelude.{map}
use Rattle.std.specs.List.{AllByRecursion, list_all}
use Rattle.std.specs.Option.{IfSome}
use Rattle.std.specs.Result.{result_ok}
use Rattle.std.proofs.lemmas.Bool.{le-leb, eqb-false, and_from}
use Rattle.smack_base.specs.declared.path.PathFault.{PathFault}
use Rattle.smack_base.specs.declared.path.PathFault.TheVariants as PathFault
use Rattle.smack_base.specs.Paths.{PathName, is_slash, is_name_byte, names_from, name_fault, first_path_fault, unless_bad_name, names_of}
use Rattle.log_spec.proofs.PrintedBytes.{name_bytes}
use Rattle.log_spec.specs.Audits.{is_word}
use Rattle.verb_spec.specs.Values.{path_in}

-- texts that are words
abbrev pub AreWords : List (List ℕ) → Type 0
AreWords names = AllByRecursion (λ name. is_word name ≡ true) names

-- a name without a fault is not empty
not_empty : (bad : Bool) (fault : PathFault) (more : Option PathFault) → (if bad then Some fault else more) ≡ None → bad ≡ false
not_empty true fault more none = cc
not_empty false fault more none = refl

-- a name without a fault is a word
name_is_word : (n : PathName) → name_fault n ≡ None → is_word n.bytes ≡ true
name_is_word n none =
    and_from
    (nat_le 1 (length n.bytes))
    (list_all is_name_byte n.bytes)
    (le-leb 1 (length n.bytes) (omega (arith, eqb-false (length n.bytes) 0 (not_empty (length n.bytes == 0) _ _ none))))
    (name_bytes n none)

-- where some have no first fault, none of them is one
no_first_fault : (first : Option PathFault) (more : List (Option PathFault)) → first_path_fault (first ∷ more) ≡ None
    → (first ≡ None) × (first_path_fault more ≡ None)
no_first_fault None more none = (refl, none)
no_first_fault (Some f) more none = cc

-- names without a fault are words
names_are_words : (names : List PathName) → first_path_fault (map name_fault names) ≡ None → AreWords (map (λ n. n.bytes) names)
names_are_words [] none = tt
names_are_words (n ∷ ns) none =
    let good = no_first_fault (name_fault n) (map name_fault ns) none in
    (name_is_word n good.0, names_are_words ns good.1)

-- the names of a path, or none for its first fault
named_are_words : (fault : Option PathFault) (names : List PathName) → (fault ≡ None → AreWords (map (λ n. n.bytes) names))
    → IfSome (result_ok (unless_bad_name fault names)) AreWords
named_are_words (Some f) names words = tt
named_are_words None names words = by (nat_lt 32 (length names))
  where
    by : (deep : Bool) → IfSome (result_ok (if deep then Err PathFault.TooDeep else Ok (map (λ n. n.bytes) names))) AreWords
    by true = tt
    by false = words refl

behind_slash_are_words : (bytes : List ℕ) → IfSome (result_ok (names_of bytes)) AreWords
behind_slash_are_words [] = tt
behind_slash_are_words (b ∷ bs) =
    let names = names_from 1 (b ∷ bs) in
    named_are_words (first_path_fault (map name_fault names)) names (names_are_words names)

word_has_words : (word : List ℕ) → IfSome (path_in word) AreWords
word_has_words [] = tt
word_has_words (b ∷ bs) = by (is_slash b)
  where
    by : (absolute : Bool) → IfSome (result_ok (if absolute then names_of bs else Err PathFault.NotAbsolute)) AreWords
    by true = behind_slash_are_words bs
    by false = tt

-- the names of a path that a word is are words
pub path_has_words : (word : List ℕ) (path : List (List ℕ)) → path_in word ≡ Some path → AreWords path
path_has_words word path is = subst (λ told. IfSome told AreWords) is (word_has_words word)
