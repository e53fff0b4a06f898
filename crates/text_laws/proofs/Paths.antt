use Rattle.std.proofs.Common.{◌≡◌, ℕ, ◌+◌, Bool, true, false, cond, nat_lt, length, map, codes, List, [], ◌∷◌, ◌++◌, Option, Some, None, Result, Ok, Err, refl, sym, ap, ◌∙◌}
use Rattle.std.specs.List.{flat_map}
use Rattle.std.specs.Result.{result_ok}
use Rattle.std.proofs.lemmas.Bool.{eqb-true}
use Rattle.smack_base.specs.declared.path.PathFault.{PathFault}
use Rattle.smack_base.specs.Paths.{PathName, is_slash, in_first_name, names_from, name_fault, first_path_fault, unless_bad_name, names_of, path_of}
use Rattle.verb_spec.specs.Values.{path_text}
use Rattle.verb_spec.specs.Values.{path_in}
use Rattle.replay_spec.proofs.ReadValues.{IsReadBy}
use Rattle.log_spec.proofs.PrintedBytes.{name_bytes}
use Rattle.text_laws.proofs.Clean.{is_clean, name_bytes_clean, clean_behind}
use Rattle.text_laws.proofs.Cut.{same_parts}

-- names, each behind a slash
abbrev slashed : List (List ℕ) → List ℕ
slashed names = flat_map (λ name. codes "/" ++ name) names

abbrev texts_of : List PathName → List (List ℕ)
texts_of names = map (λ n. n.bytes) names

-- a byte that goes in front of the first name
with_first : (at b : ℕ) (bs : List ℕ) (names : List PathName) → slashed (texts_of names) ≡ 47 ∷ bs
    → slashed (texts_of (in_first_name at b names)) ≡ 47 ∷ b ∷ bs
with_first at b bs [] same = cc
with_first at b bs (n ∷ ns) same = λ i. 47 ∷ b ∷ (same_parts 47 47 (n.bytes ++ slashed (texts_of ns)) bs same).1 i

-- the names between the slashes of a text, printed, are the text
names_printed : (at : ℕ) (bs : List ℕ) → slashed (texts_of (names_from at bs)) ≡ 47 ∷ bs
names_printed at [] = refl
names_printed at (b ∷ bs) = by (is_slash b) refl (names_printed (at + 1) bs)
  where
    by : (slash : Bool) → is_slash b ≡ slash → slashed (texts_of (names_from (at + 1) bs)) ≡ 47 ∷ bs
        → slashed (texts_of (cond slash ((record { at = at; bytes = [] }) ∷ names_from (at + 1) bs) (in_first_name at b (names_from (at + 1) bs)))) ≡ 47 ∷ b ∷ bs
    by true is rest = (λ i. 47 ∷ rest i) ∙ ap (λ c. 47 ∷ c ∷ bs) (sym (eqb-true b 47 is))
    by false is rest = with_first at b bs (names_from (at + 1) bs) rest

-- names that have no fault
name_clean : (n : PathName) → name_fault n ≡ None → is_clean n.bytes ≡ true
name_clean n none =
    name_bytes_clean n.bytes (name_bytes n none)

names_clean : (names : List PathName) → first_path_fault (map name_fault names) ≡ None → is_clean (slashed (texts_of names)) ≡ true
names_clean [] none = refl
names_clean (n ∷ ns) none = by (name_fault n) refl none (names_clean ns)
  where
    by : (fault : Option PathFault) → name_fault n ≡ fault → first_path_fault (fault ∷ map name_fault ns) ≡ None
        → (first_path_fault (map name_fault ns) ≡ None → is_clean (slashed (texts_of ns)) ≡ true) → is_clean (slashed (texts_of (n ∷ ns))) ≡ true
    by None is none rest = clean_behind n.bytes (slashed (texts_of ns)) (name_clean n is) (rest none)
    by (Some f) is none rest = cc

-- a path as it is printed is this text, which is a word
abbrev IsPrinted : List ℕ → List (List ℕ) → Type 0
IsPrinted text path = (path_text path ≡ text) × (is_clean text ≡ true)

-- a text that names print is that of their path
not_root : (path : List (List ℕ)) (bs : List ℕ) → slashed path ≡ 47 ∷ bs → path_text path ≡ 47 ∷ bs
not_root [] bs same = cc
not_root (n ∷ ns) bs same = same

-- a path that is read from a text is printed as that text
printed_names : (names : List PathName) (fault : Option PathFault) (path : List (List ℕ)) (bs : List ℕ) → first_path_fault (map name_fault names) ≡ fault
    → slashed (texts_of names) ≡ 47 ∷ bs → unless_bad_name fault names ≡ Ok path → IsPrinted (47 ∷ bs) path
printed_names names (Some f) path bs faults printed is = cc
printed_names names None path bs faults printed is = by (nat_lt 32 (length names)) is
  where
    by : (deep : Bool) → cond deep (Err PathFault.TooDeep) (Ok (texts_of names)) ≡ Ok path → IsPrinted (47 ∷ bs) path
    by true is = cc
    by false is =
        let same : texts_of names ≡ path = cc in
        (not_root path bs (ap slashed (sym same) ∙ printed), ap is_clean (sym printed) ∙ names_clean names faults)

printed_behind : (bs : List ℕ) (path : List (List ℕ)) → names_of bs ≡ Ok path → IsPrinted (47 ∷ bs) path
printed_behind [] path is = let root : [] ≡ path = cc in (ap path_text (sym root), refl)
printed_behind (b ∷ bs) path is = printed_names (names_from 1 (b ∷ bs)) (first_path_fault (map name_fault (names_from 1 (b ∷ bs)))) path (b ∷ bs) refl (names_printed 1 (b ∷ bs)) is

printed_path : (text : List ℕ) (path : List (List ℕ)) → path_of text ≡ Ok path → IsPrinted text path
printed_path [] path is = cc
printed_path (b ∷ bs) path is = by (is_slash b) refl is
  where
    by : (slash : Bool) → is_slash b ≡ slash → cond slash (names_of bs) (Err PathFault.NotAbsolute) ≡ Ok path → IsPrinted (b ∷ bs) path
    by true slash is = rw (eqb-true b 47 slash) (printed_behind bs path is)
    by false slash is = cc

path_word : (text : List ℕ) (path : List (List ℕ)) → path_in text ≡ Some path → path_of text ≡ Ok path
path_word text path is = by (path_of text) is
  where
    by : {F : Type 0} (r : Result (List (List ℕ)) F) → result_ok r ≡ Some path → r ≡ Ok path
    by (Ok names) same = let is : names ≡ path = cc in ap (λ n. Ok n) is
    by (Err f) same = cc

-- a path that a word is, printed, is read again
pub path_again : (path : List (List ℕ)) → IsReadBy path_in path → path_in (path_text path) ≡ Some path
path_again path read = ap path_in (printed_path read.0 path (path_word read.0 path read.1)).0 ∙ read.1

pub path_clean : (path : List (List ℕ)) → IsReadBy path_in path → is_clean (path_text path) ≡ true
path_clean path read =
    let printed = printed_path read.0 path (path_word read.0 path read.1) in ap is_clean printed.0 ∙ printed.1
