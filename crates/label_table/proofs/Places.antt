use Rattle.std.proofs.Common.{◌≡◌, ℕ, ◌+◌, ◌<◌, Bool, true, false, cond, not, ◌||◌, suc, nat_lt, List, [], ◌∷◌, ◌++◌, length, get_or, refl, sym, ap, ◌∙◌, subst, arith, Option, Some, None}
use Rattle.std.specs.Prelude.{map, position}
use Rattle.std.specs.List.{position_or_len, list_any, IsDistinct, AllZip}
use Rattle.std.specs.Option.{option_map}
use Rattle.std.specs.Str.{bytes_eq}
use Rattle.std.proofs.lemmas.List.{length-map, map-append}
use Rattle.std.proofs.lemmas.Bool.{ltb-true, ltb-false, lt-ltb, eq-eqb}
use Rattle.std.proofs.lemmas.Bool.Decides.{same_from_decides, nat_tests}
use Rattle.std.proofs.lemmas.List.Folds.{position_or_len_push}
use Rattle.std.proofs.lemmas.List.Sums.{position_or_len_is, passes_at_first, prefix_len-le-length}
use Rattle.std.proofs.lemmas.Map.Keys.{apart_from_distinct}
use Rattle.std.proofs.lemmas.Slice.Eq.{bytes_eq-Decides}
use Rattle.indexmap.specs.IndexSet.{insert_key}
use Rattle.smack_base.specs.declared.ids.LabelId.{LabelId}
use Rattle.text_spec.specs.Names.{place_of, has_name, with_name, id_of}

bytes_eq-comm : (a b : List ℕ) → bytes_eq a b ≡ bytes_eq b a
bytes_eq-comm a b =
    let there = bytes_eq-Decides b a in
    same_from_decides (bytes_eq a b) (bytes_eq b a) (bytes_eq-Decides a b) ((λ e. sym (there.0 e)), (λ e. there.1 (sym e)))

bytes_eq-refl : (a : List ℕ) → bytes_eq a a ≡ true
bytes_eq-refl a = (bytes_eq-Decides a a).1 refl

-- a name that a table has stands at its place
named : (table : List (List ℕ)) (name : List ℕ) → has_name table name ≡ true
    → (place_of table name < length table) × (get_or table (place_of table name) [] ≡ name)
named table name known =
    let within : place_of table name < length table = ltb-true _ _ known in
    (within, (bytes_eq-Decides _ name).0 (passes_at_first (λ (t : List ℕ). bytes_eq t name) table [] within))

abbrev pub label_id : ℕ → LabelId
label_id n = record { 0 = n }

id_where : (known : Bool) (at place : ℕ) → cond known (Some (label_id at)) None ≡ Some (label_id place) → (known ≡ true) × (at ≡ place)
id_where true at place is = let same : label_id at ≡ label_id place = cc in (refl, ap (λ (l : LabelId). l.0) same)
id_where false at place is = cc

no_id_where : (known : Bool) (at : ℕ) → cond known (Some (label_id at)) None ≡ None → known ≡ false
no_id_where true at is = cc
no_id_where false at is = refl

-- an id leads to the name that it was asked for
pub id_is_named : (table : List (List ℕ)) (name : List ℕ) (place : ℕ) → Some (label_id place) ≡ id_of table name
    → (place < length table) × (get_or table place [] ≡ name)
id_is_named table name place is =
    let at = id_where (has_name table name) (place_of table name) place (sym is) in
    subst (λ (n : ℕ). (n < length table) × (get_or table n [] ≡ name)) at.1 (named table name at.0)

-- a name with no id does not stand
no_id_is_new : (table : List (List ℕ)) (name : List ℕ) → None ≡ id_of table name → has_name table name ≡ false
no_id_is_new table name is = no_id_where (has_name table name) (place_of table name) (sym is)

-- a new name goes last, and has its place there
with_new : (table : List (List ℕ)) (name : List ℕ) → has_name table name ≡ false → with_name table name ≡ table ++ name ∷ []
with_new table name new = ap (λ b. cond b table (table ++ name ∷ [])) new

place_of_new : (table : List (List ℕ)) (name : List ℕ) → has_name table name ≡ false
    → place_of (table ++ name ∷ []) name ≡ length table
place_of_new table name new =
    let most = prefix_len-le-length (λ (t : List ℕ). not (bytes_eq t name)) table in
    let all : place_of table name ≡ length table = omega (arith, most, ltb-false _ _ new) in
    rw (position_or_len_push (λ (t : List ℕ). bytes_eq t name) table name, all, eq-eqb (length table) (length table) refl, bytes_eq-refl name) (omega arith)

-- a table of texts by key: what a look-up by hash finds is the place in the list of texts
module _ {K : Type 0} (text : K → List ℕ) (name : List ℕ) where
  abbrev is_key : K → Bool
  is_key k = bytes_eq name (text k)

  place_among_keys : (keys : List K) → position_or_len is_key keys ≡ place_of (map text keys) name
  place_among_keys [] = refl
  place_among_keys (k ∷ ks) = λ i. cond (not (bytes_eq-comm name (text k) i)) (1 + place_among_keys ks i) 0

  found : (at n : ℕ) → option_map label_id (cond (nat_lt at n) (Some at) None) ≡ cond (nat_lt at n) (Some (label_id at)) None
  found at n = by (nat_lt at n)
    where
      by : (b : Bool) → option_map label_id (cond b (Some at) None) ≡ cond b (Some (label_id at)) None
      by true = refl
      by false = refl

  pub position_is_id : (keys : List K) (at : Option ℕ) → at ≡ position is_key keys → option_map label_id at ≡ id_of (map text keys) name
  position_is_id keys at is =
      ap (option_map label_id) is ∙ found (position_or_len is_key keys) (length keys)
      ∙ (λ i. cond (nat_lt (place_among_keys keys i) (sym (length-map keys text) i)) (Some (label_id (place_among_keys keys i))) None)

one_more : (a b : ℕ) → nat_lt a b ≡ nat_lt (1 + a) (suc b)
one_more a b = grind (arith, nat_tests)

-- a test passes somewhere exactly where its first place is a place
any_place : {K : Type 0} (p : K → Bool) (keys : List K) → list_any p keys ≡ nat_lt (position_or_len p keys) (length keys)
any_place p [] = refl
any_place p (k ∷ ks) = by (p k) (any_place p ks)
  where
    by : (b : Bool) → list_any p ks ≡ nat_lt (position_or_len p ks) (length ks) → (b || list_any p ks) ≡ nat_lt (cond (not b) (1 + position_or_len p ks) 0) (suc (length ks))
    by true rest = sym (lt-ltb 0 (suc (length ks)) (omega arith))
    by false rest = rest ∙ one_more (position_or_len p ks) (length ks)

-- a put by hash is a put into the list of texts
pub insert_is_with_name : {K : Type 0} (text : K → List ℕ) (keys : List K) (k : K)
    → map text (insert_key (λ x y. bytes_eq (text x) (text y)) keys k) ≡ with_name (map text keys) (text k)
insert_is_with_name {K} text keys k = by (list_any p keys) (any_place p keys ∙ (λ i. nat_lt (place_among_keys text (text k) keys i) (sym (length-map keys text) i)))
  where
    p : K → Bool
    p x = bytes_eq (text k) (text x)

    by : (b : Bool) → b ≡ has_name (map text keys) (text k)
        → map text (cond b keys (keys ++ k ∷ [])) ≡ with_name (map text keys) (text k)
    by true e = ap (λ b. cond b (map text keys) (map text keys ++ text k ∷ [])) e
    by false e = map-append text keys (k ∷ []) ∙ ap (λ b. cond b (map text keys) (map text keys ++ text k ∷ [])) e

-- where no text stands twice, the text at a place has that place
pub place_of_text : {K : Type 0} (text : K → List ℕ) (keys : List K) (i : ℕ) (k : K)
    → IsDistinct (λ x y. bytes_eq (text x) (text y)) keys → i < length keys → k ≡ get_or keys i k → place_of (map text keys) (text k) ≡ i
place_of_text text keys i k distinct within is =
    sym (place_among_keys text (text k) keys)
    ∙ position_or_len_is (λ x. bytes_eq (text k) (text x)) keys i k (omega arith)
    (λ j below. bytes_eq-comm (text k) (text (get_or keys j k)) ∙ ap (λ x. bytes_eq (text (get_or keys j k)) (text x)) is ∙ apart_from_distinct _ keys j i k distinct below within)
    (λ _. ap (λ x. bytes_eq (text k) (text x)) (sym is) ∙ bytes_eq-refl (text k))

-- the texts of the copies of keys are those of the keys
pub texts_of_copies : {K : Type 0} (text : K → List ℕ) (C : K → K → Type 0) (same : (x y : K) → C x y → text y ≡ text x)
    → (keys copies : List K) → AllZip C keys copies → map text copies ≡ map text keys
texts_of_copies text C same [] [] all = refl
texts_of_copies text C same [] (y ∷ ys) all = absurd all
texts_of_copies text C same (x ∷ xs) [] all = absurd all
texts_of_copies text C same (x ∷ xs) (y ∷ ys) all = λ i. same x y all.0 i ∷ texts_of_copies text C same xs ys all.1 i

-- a new name that was put last has the old length as its place
pub place_of_added : (before after : List (List ℕ)) (name : List ℕ) (place : ℕ) → None ≡ id_of before name
    → after ≡ with_name before name → place ≡ length before → place ≡ place_of after name
place_of_added before after name place none put at =
    let new = no_id_is_new before name none in
    at ∙ sym (place_of_new before name new) ∙ ap (λ t. place_of t name) (sym (put ∙ with_new before name new))
