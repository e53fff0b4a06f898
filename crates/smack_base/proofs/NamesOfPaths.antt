use Rattle.std.proofs.Common.{◌≡◌, ◌≤◌, ◌+◌, ◌-◌, ℕ, Bool, true, false, if◌then◌else◌, suc, List, [], ◌∷◌, length, take, drop, refl, sym, ap, ◌∙◌, arith, inl, inr, Option, Some, None, Ok, Err, nat_lt}
use Rattle.std.specs.Prelude.{map, nat_eq}
use Rattle.std.specs.List.{position_or_len}
use Rattle.std.specs.Result.{result_err}
use Rattle.std.proofs.lemmas.Bool.{cases_Bool}
use Rattle.std.proofs.lemmas.List.{take_rest}
use Rattle.smack_base.specs.declared.path.PathFault.{PathFault}
use Rattle.smack_base.specs.declared.path.PathFault.TheVariants as PathFault
use Rattle.smack_base.specs.Paths.{PathName, is_slash, names_from, in_first_name, name_fault, first_path_fault, unless_bad_name, named, path_of}
use Rattle.smack_base.specs.PathNames.{path_name, names_left, path_names, begins_with_slash, or_too_deep, names_fault}

one_more : (n : ℕ) → 1 + n ≡ suc n
one_more n = omega arith

name_more : (at b next n : ℕ) (bs : List ℕ) → is_slash b ≡ false
    → names_from (at + 1) bs ≡ path_name (at + 1) (take n bs) ∷ names_left next (drop n bs)
    → names_from at (b ∷ bs) ≡ path_name at (take (suc n) (b ∷ bs)) ∷ names_left next (drop (suc n) (b ∷ bs))
name_more at b next n bs e same = simp (e, same) refl

-- the bytes before the first slash are the first name
first_name : (at : ℕ) (bs : List ℕ) (n next : ℕ) → n ≡ position_or_len is_slash bs → next ≡ at + n
    → names_from at bs ≡ path_name at (take n bs) ∷ names_left next (drop n bs)
first_name at [] n next place there = rw place refl
first_name at (b ∷ bs) n next place there =
    elim (cases_Bool (is_slash b)) [
      | inl e ↦
          let none : n ≡ 0 = simp e at place in
          let here : next ≡ at = omega arith in
          rw (none, here) (simp e refl)
      | inr e ↦
          let more : n ≡ suc (position_or_len is_slash bs) = simp (e, one_more) at place in
          rw more
          (name_more at b next (position_or_len is_slash bs) bs e
          (first_name (at + 1) bs (position_or_len is_slash bs) next refl (omega arith)))
    ]

-- a text that fails the test for an empty one has a byte
pub is_some : (bs : List ℕ) (test : Bool) → test ≡ nat_eq (length bs) 0 → test ≡ false → length bs ≡ 0 → ⊥
is_some [] test is fails none = cc (sym is ∙ fails)
is_some (b ∷ bs) test is fails none = absurd (omega arith)

-- the next of the names that are left
pub next_name : (at len : ℕ) (rest behind name after : List ℕ) → (length rest ≡ 0 → ⊥) → behind ≡ take (length rest - 1) (drop 1 rest)
    → len ≡ position_or_len is_slash behind → name ≡ take len behind → after ≡ take (length behind - len) (drop len behind)
    → names_left at rest ≡ path_name (at + 1) name ∷ names_left (at + 1 + len) after
next_name at len [] behind name after some behind_is len_is name_is after_is = absurd (some refl)
next_name at len (b ∷ bs) behind name after some behind_is len_is name_is after_is =
    let all : behind ≡ bs = behind_is ∙ take_rest (b ∷ bs) 1 in
    rw (name_is, after_is, take_rest behind len, all) (first_name (at + 1) bs len (at + 1 + len) (len_is ∙ ap (position_or_len is_slash) all) refl)

fewer_from : (at : ℕ) (bs : List ℕ) → length (names_from at bs) ≤ length bs + 1
fewer_from at [] = omega arith
fewer_from at (b ∷ bs) =
    elim (cases_Bool (is_slash b)) [
      | inl e ↦ simp e (omega (arith, fewer_from (at + 1) bs))
      | inr e ↦ simp e (fewer_in_first at b (names_from (at + 1) bs) (length bs) (fewer_from (at + 1) bs))
    ]
  where
    fewer_in_first : (at b : ℕ) (names : List PathName) (n : ℕ) → length names ≤ n + 1 → length (in_first_name at b names) ≤ suc n + 1
    fewer_in_first at b [] n h = omega arith
    fewer_in_first at b (x ∷ xs) n h = omega arith

-- a path has no more names than bytes
pub fewer_names : (path : List ℕ) → length (path_names path) ≤ length path
fewer_names [] = omega arith
fewer_names (b ∷ []) = omega arith
fewer_names (b ∷ c ∷ bs) = omega (arith, fewer_from 1 (c ∷ bs))

-- a path behind its first slash is its names
is_named : (path : List ℕ) → begins_with_slash path ≡ true → path_of path ≡ named (path_names path)
is_named [] e = cc
is_named (b ∷ []) e = simp e refl
is_named (b ∷ c ∷ bs) e = simp e refl

fault_of_named : (fault : Option PathFault) (names : List PathName) → or_too_deep fault names ≡ result_err (unless_bad_name fault names)
fault_of_named (Some f) names = refl
fault_of_named None names = by (nat_lt 32 (length names))
  where
    by : (b : Bool) → (if b then Some PathFault.TooDeep else None) ≡ result_err (if b then Err PathFault.TooDeep else Ok (map (λ n. n.bytes) names))
    by true = refl
    by false = refl

-- the fault of a text that begins with a slash is that of its names
pub fault_of_path : (path : List ℕ) → begins_with_slash path ≡ true → names_fault (path_names path) ≡ result_err (path_of path)
fault_of_path path e = fault_of_named (first_path_fault (map name_fault (path_names path))) (path_names path) ∙ ap result_err (sym (is_named path e))

-- any other text is not absolute
pub not_absolute : (path : List ℕ) → begins_with_slash path ≡ false → Some PathFault.NotAbsolute ≡ result_err (path_of path)
not_absolute [] e = refl
not_absolute (b ∷ bs) e = simp e refl

named_without_fault : (fault : Option PathFault) (names : List PathName) → result_err (unless_bad_name fault names) ≡ None
    → unless_bad_name fault names ≡ Ok (map (λ n. n.bytes) names)
named_without_fault (Some f) names none = cc
named_without_fault None names none = by (nat_lt 32 (length names)) none
  where
    by : (b : Bool) → result_err (if b then Err PathFault.TooDeep else Ok (map (λ n. n.bytes) names)) ≡ None
        → (if b then Err PathFault.TooDeep else Ok (map (λ n. n.bytes) names)) ≡ Ok (map (λ n. n.bytes) names)
    by true none = cc
    by false none = refl

-- a text without a fault is the path of its names
pub path_without_fault : (path : List ℕ) → result_err (path_of path) ≡ None → path_of path ≡ Ok (map (λ n. n.bytes) (path_names path))
path_without_fault path none =
    elim (cases_Bool (begins_with_slash path)) [
      | inl e ↦
          is_named path e
          ∙ named_without_fault (first_path_fault (map name_fault (path_names path))) (path_names path) (ap result_err (sym (is_named path e)) ∙ none)
      | inr e ↦ cc (not_absolute path e, none)
    ]
