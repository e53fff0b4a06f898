use Rattle.std.proofs.Common.{◌≡◌, ◌≤◌, ◌<◌, ◌+◌, ◌*◌, ℕ, Bool, true, false, if◌then◌else◌, suc, List, [], ◌∷◌, length, refl, ◌∙◌, arith, inl, inr, Option, Some, None, Result, Ok, Err, nat_lt}
use Rattle.std.specs.Prelude.{map, nat_eq, is_ok}
use Rattle.std.specs.Result.{result_err}
use Rattle.std.proofs.lemmas.Bool.{cases_Bool, ltb-false}
use Rattle.smack_base.specs.declared.path.PathFault.{PathFault}
use Rattle.smack_base.specs.declared.path.PathFault.TheVariants as PathFault
use Rattle.smack_base.specs.Paths.{PathName, is_slash, names_from, in_first_name, name_fault, first_path_fault, path_of}
use Rattle.smack_base.specs.PathNames.{path_names, begins_with_slash, or_too_deep, names_fault}
use Rattle.smack_base.proofs.NamesOfPaths.{fault_of_path, not_absolute}

-- how many bytes some names have, each with its slash
abbrev total : List PathName → ℕ
total [] = 0
total (n ∷ ns) = (length n.bytes + 1) + total ns

total_in_first : (at b : ℕ) (names : List PathName) (n : ℕ) → n ≤ total names → suc n ≤ total (in_first_name at b names)
total_in_first at b [] n h = omega arith
total_in_first at b (x ∷ xs) n h = omega arith

total_from : (at : ℕ) (bs : List ℕ) → length bs + 1 ≤ total (names_from at bs)
total_from at [] = omega arith
total_from at (b ∷ bs) =
    elim (cases_Bool (is_slash b)) [
      | inl e ↦ simp e (omega (arith, total_from (at + 1) bs))
      | inr e ↦
          let more : suc (length bs + 1) ≤ total (in_first_name at b (names_from (at + 1) bs)) =
          total_in_first at b (names_from (at + 1) bs) (length bs + 1) (total_from (at + 1) bs) in
          simp e (omega (arith, more))
    ]

total_of_path : (path : List ℕ) → 1 < length path → length path ≤ total (path_names path)
total_of_path [] h = absurd (omega arith)
total_of_path (b ∷ []) h = absurd (omega arith)
total_of_path (b ∷ c ∷ bs) h = omega (arith, total_from 1 (c ∷ bs))

neither : (a b : Bool) (x y : PathFault) (z : Option PathFault) → (if a then Some x else (if b then Some y else z)) ≡ None → b ≡ false
neither true b x y z none = cc
neither false true x y z none = cc
neither false false x y z none = refl

short_name : (n : PathName) → name_fault n ≡ None → length n.bytes ≤ 64
short_name n none = ltb-false 64 (length n.bytes) (neither (nat_eq (length n.bytes) 0) (nat_lt 64 (length n.bytes)) _ _ _ none)

none_first : (f : Option PathFault) (more : List (Option PathFault)) → first_path_fault (f ∷ more) ≡ None → (f ≡ None) × (first_path_fault more ≡ None)
none_first None more none = (refl, none)
none_first (Some f) more none = cc

short_names : (names : List PathName) → first_path_fault (map name_fault names) ≡ None → total names ≤ 65 * length names
short_names [] none = omega arith
short_names (n ∷ ns) none =
    let each = none_first (name_fault n) (map name_fault ns) none in
    omega (arith, short_name n each.0, short_names ns each.1)

not_deep : (f : Option PathFault) (names : List PathName) → or_too_deep f names ≡ None → (f ≡ None) × (length names ≤ 32)
not_deep (Some f) names none = cc
not_deep None names none = (refl, ltb-false 32 (length names) (by (nat_lt 32 (length names)) none))
  where
    by : (b : Bool) → (if b then Some PathFault.TooDeep else None) ≡ None → b ≡ false
    by true none = cc
    by false none = refl

short_path : (path : List ℕ) → 1 < length path → names_fault (path_names path) ≡ None → length path ≤ 2080
short_path path some none =
    let both = not_deep (first_path_fault (map name_fault (path_names path))) (path_names path) none in
    omega (arith, both.1, short_names (path_names path) both.0, total_of_path path some)

longest : (path : List ℕ) → 2080 < length path → result_err (path_of path) ≡ None → ⊥
longest path long none =
    elim (cases_Bool (begins_with_slash path)) [
      | inl e ↦ absurd (omega (arith, short_path path (omega arith) (fault_of_path path e ∙ none)))
      | inr e ↦ cc (not_absolute path e, none)
    ]

-- no text with more than 32 names of 64 bytes, each behind a slash, is a path
pub too_long : (path : List ℕ) → 2080 < length path → false ≡ is_ok (path_of path)
too_long path long = by (path_of path) (longest path long)
  where
    by : (r : Result (List (List ℕ)) PathFault) → (result_err r ≡ None → ⊥) → false ≡ is_ok r
    by (Ok names) never = absurd (never refl)
    by (Err f) never = refl
