use Rattle.std.proofs.Common.{◌≡◌, ℕ, ◌+◌, Bool, true, false, ◌||◌, not, cond, suc, nat_lt, List, [], ◌∷◌, ◌++◌, length, refl, sym, ◌∙◌, arith, inl, inr}
use Rattle.std.specs.List.{AllByRecursion, list_any, position_or_len}
use Rattle.std.specs.Str.{bytes_eq}
use Rattle.std.proofs.lemmas.Bool.{cases_Bool, lt-ltb}
use Rattle.std.proofs.lemmas.Bool.Decides.{nat_tests}
use Rattle.std.proofs.lemmas.List.Folds.{list_any-append}
use Rattle.std.proofs.lemmas.Slice.Eq.{bytes_eq-Decides}
use Rattle.text_spec.specs.Names.{has_name, with_name, with_names}

one_more : (a b : ℕ) → nat_lt a b ≡ nat_lt (1 + a) (suc b)
one_more a b = grind (arith, nat_tests)

-- a test passes somewhere exactly where its first place is a place
any_place : {X : Type 0} (p : X → Bool) (xs : List X) → nat_lt (position_or_len p xs) (length xs) ≡ list_any p xs
any_place p [] = refl
any_place p (x ∷ xs) = by (p x) (any_place p xs)
  where
    by : (b : Bool) → nat_lt (position_or_len p xs) (length xs) ≡ list_any p xs
        → nat_lt (cond (not b) (1 + position_or_len p xs) 0) (suc (length xs)) ≡ (b || list_any p xs)
    by true rest = lt-ltb 0 (suc (length xs)) (omega arith)
    by false rest = sym (one_more (position_or_len p xs) (length xs)) ∙ rest

-- a table has a name where one of its names is this one
pub has_is_any : (table : List (List ℕ)) (name : List ℕ) → has_name table name ≡ list_any (λ t. bytes_eq t name) table
has_is_any table name = any_place (λ t. bytes_eq t name) table

either : (a b : Bool) → a ≡ true → (a || b) ≡ true
either true b is = refl
either false b is = cc

or_else : (a b : Bool) → b ≡ true → (a || b) ≡ true
or_else true b is = refl
or_else false b is = is

-- a table with more names has those that it had, and the last of them
pub has_before : (front back : List (List ℕ)) (name : List ℕ) → has_name front name ≡ true → has_name (front ++ back) name ≡ true
has_before front back name has =
    let p = λ (t : List ℕ). bytes_eq t name in
    has_is_any (front ++ back) name ∙ list_any-append p front back ∙ either (list_any p front) (list_any p back) (sym (has_is_any front name) ∙ has)

pub has_last : (table : List (List ℕ)) (name : List ℕ) → has_name (table ++ name ∷ []) name ≡ true
has_last table name =
    let p = λ (t : List ℕ). bytes_eq t name in
    has_is_any (table ++ name ∷ []) name ∙ list_any-append p table (name ∷ [])
    ∙ or_else (list_any p table) (list_any p (name ∷ [])) (either (bytes_eq name name) false ((bytes_eq-Decides name name).1 refl))

keeps_name : (table : List (List ℕ)) (more name : List ℕ) → has_name table name ≡ true → has_name (with_name table more) name ≡ true
keeps_name table more name has =
    elim (cases_Bool (has_name table more)) [
      | inl known ↦ rw known has
      | inr new ↦ rw new (has_before table (more ∷ []) name has)
    ]

has_added : (table : List (List ℕ)) (name : List ℕ) → has_name (with_name table name) name ≡ true
has_added table name =
    elim (cases_Bool (has_name table name)) [
      | inl known ↦ rw known known
      | inr new ↦ rw new (has_last table name)
    ]

pub keeps_names : (table more : List (List ℕ)) (name : List ℕ) → has_name table name ≡ true → has_name (with_names table more) name ≡ true
keeps_names table [] name has = has
keeps_names table (n ∷ ns) name has = keeps_names (with_name table n) ns name (keeps_name table n name has)

-- names of which a table has each
abbrev pub HasNames : List (List ℕ) → List (List ℕ) → Type 0
HasNames table names = AllByRecursion (λ name. has_name table name ≡ true) names

-- a table has each name that was added to it
pub has_names : (table names : List (List ℕ)) → HasNames (with_names table names) names
has_names table [] = tt
has_names table (n ∷ ns) = (keeps_names (with_name table n) ns n (has_added table n), has_names (with_name table n) ns)

pub still_names : (table more names : List (List ℕ)) → HasNames table names → HasNames (with_names table more) names
still_names table more [] has = tt
still_names table more (n ∷ ns) has = (keeps_names table more n has.0, still_names table more ns has.1)

-- of the names of two lists in a row it has those of each
pub both_names : (table front back : List (List ℕ)) → HasNames table (front ++ back) → HasNames table front × HasNames table back
both_names table [] back has = (tt, has)
both_names table (n ∷ ns) back has = let rest = both_names table ns back has.1 in ((has.0, rest.0), rest.1)
