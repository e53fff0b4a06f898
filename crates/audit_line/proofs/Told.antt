use Rattle.std.proofs.Common.{◌≡◌, ◌+◌, ◌∙◌, ℕ, Bool, true, false, suc, List, [], ◌∷◌, ◌++◌, Option, Some, None, length, refl, sym, ap, append_assoc, arith}
use Rattle.std.specs.List.{list_all}
use Rattle.std.specs.Option.{option_map, option_and_then}
use Rattle.std.specs.Str.{bytes_eq}
use Rattle.std.proofs.Math.Seq.{drop-append_seam, take-append_seam}
use Rattle.std.proofs.lemmas.Bool.{and_parts}
use Rattle.std.proofs.lemmas.List.{take-append-drop}
use Rattle.std.proofs.lemmas.Option.{none-some, same_Some, cond_some, option_and_then_some}
use Rattle.std.proofs.lemmas.Slice.Eq.{bytes_eq-Decides}
use Rattle.smack_base.specs.Paths.{is_name_byte}
use Rattle.log_spec.specs.Words.{words, feed}
use Rattle.log_spec.specs.Audits.{pair}
use Rattle.audit_line.specs.Values.{rest_behind, value_len, Parted, parted, cut_value, front_of, values_at}
use Rattle.audit_line.proofs.Fronts.{behind_front, behind_is}

-- keys and their values, as pairs
abbrev pub pairs : List (List ℕ) → List (List ℕ) → List (List ℕ)
pairs [] values = []
pairs (key ∷ keys) [] = []
pairs (key ∷ keys) (value ∷ values) = pair key value ∷ pairs keys values

-- the text of values, each behind its key, and a line feed
abbrev pub told : List (List ℕ) → List (List ℕ) → List ℕ
told keys values = words (pairs keys values) ++ feed

-- the text of a value and of those behind it
told_more : (key value : List ℕ) (keys values : List (List ℕ)) → told (key ∷ keys) (value ∷ values) ≡ front_of key ++ (value ++ told keys values)
told_more key value keys values = simp append_assoc refl

-- a text begins with a byte of values
abbrev pub begins : List ℕ → Bool
begins [] = false
begins (b ∷ bs) = is_name_byte b

-- values that end where the text behind them begins, one for each key
abbrev pub AreValues : List (List ℕ) → List (List ℕ) → Type 0
AreValues [] [] = Unit {0}
AreValues [] (value ∷ values) = ⊥
AreValues (key ∷ keys) [] = ⊥
AreValues (key ∷ keys) (value ∷ values) =
    (list_all is_name_byte value ≡ true) × (begins (told keys values) ≡ false) × AreValues keys values

-- `1 + n`, as it computes no further
one_more : (n : ℕ) → 1 + n ≡ suc n
one_more n = omega arith

-- a value ends where the text behind it begins
len_again : (value rest : List ℕ) → list_all is_name_byte value ≡ true → begins rest ≡ false → value_len (value ++ rest) ≡ length value
len_again [] [] all ends = refl
len_again [] (b ∷ bs) all ends = simp ends refl
len_again (b ∷ bs) rest all ends =
    let parts : (is_name_byte b ≡ true) × (list_all is_name_byte bs ≡ true) = and_parts _ _ all in
    simp (parts.0, len_again bs rest parts.1 ends, one_more) refl

-- a value and the text behind it are cut apart again
parted_again : (value rest : List ℕ) → list_all is_name_byte value ≡ true → begins rest ≡ false
    → parted (value ++ rest) ≡ (record { value = value; rest = rest })
parted_again value rest all ends =
    simp (len_again value rest all ends, take-append_seam value rest, drop-append_seam value rest) refl

map_some : {A B : Type 0} (f : A → B) (o : Option A) (y : B) → option_map f o ≡ Some y → (x : A) × (o ≡ Some x) × (f x ≡ y)
map_some f None y e = absurd (none-some y e)
map_some f (Some x) y e = (x, refl, same_Some (f x) y e)

-- a value and what follows it are the text
parted_whole : (text : List ℕ) (c : Parted) → parted text ≡ c → text ≡ c.value ++ c.rest
parted_whole text c e = rw (← e) (sym (take-append-drop (value_len text) text))

-- what is read of a text, one value after the other, tells the text
tells_more : (key value text behind_it rest : List ℕ) (keys others values : List (List ℕ)) → text ≡ front_of key ++ behind_it → behind_it ≡ value ++ rest
    → rest ≡ told keys others → value ∷ others ≡ values → text ≡ told (key ∷ keys) values
tells_more key value text behind_it rest keys others values front_is value_is rest_is values_are =
    front_is ∙ ap (λ t. front_of key ++ t) (value_is ∙ ap (λ t. value ++ t) rest_is) ∙ sym (told_more key value keys others)
    ∙ ap (told (key ∷ keys)) values_are

-- what is read of a text tells the text
pub read_tells : (keys values : List (List ℕ)) (text : List ℕ) → values_at keys text ≡ Some values → text ≡ told keys values
read_tells [] values text e =
    let is : bytes_eq text feed ≡ true = (cond_some (bytes_eq text feed) [] values e).0 in
    (bytes_eq-Decides text feed).0 is
read_tells (key ∷ keys) values text e =
    option_and_then_some (λ c. option_map (λ values. c.value ∷ values) (values_at keys c.rest)) (cut_value (front_of key) text) values e
    (λ c cut next.
    let behind_it : (rest : List ℕ) × (rest_behind (front_of key) text ≡ Some rest) × (parted rest ≡ c) = map_some parted (rest_behind (front_of key) text) c cut in
    let more : (others : List (List ℕ)) × (values_at keys c.rest ≡ Some others) × (c.value ∷ others ≡ values) =
    map_some (λ values. c.value ∷ values) (values_at keys c.rest) values next in
    tells_more key c.value text behind_it.0 c.rest keys more.0 values (behind_is (front_of key) text behind_it.0 behind_it.1)
    (parted_whole behind_it.0 c behind_it.2) (read_tells keys more.0 c.rest more.1) more.2)

-- a value behind its front is cut off again
cut_again : (front value rest : List ℕ) → list_all is_name_byte value ≡ true → begins rest ≡ false
    → cut_value front (front ++ (value ++ rest)) ≡ Some (record { value = value; rest = rest })
cut_again front value rest all ends = ap (option_map parted) (behind_front front (value ++ rest)) ∙ ap Some (parted_again value rest all ends)

-- what was told is read again
pub told_again : (keys values : List (List ℕ)) → AreValues keys values → values_at keys (told keys values) ≡ Some values
told_again [] [] are = refl
told_again [] (value ∷ values) are = absurd are
told_again (key ∷ keys) [] are = absurd are
told_again (key ∷ keys) (value ∷ values) are =
    ap (values_at (key ∷ keys)) (told_more key value keys values)
    ∙ ap (option_and_then (λ c. option_map (λ values. c.value ∷ values) (values_at keys c.rest))) (cut_again (front_of key) value (told keys values) are.0 are.1)
    ∙ ap (option_map (λ values. value ∷ values)) (told_again keys values are.2)
