use Rattle.std.proofs.Common.{◌≡◌, ◌∙◌, ◌-◌, ℕ, zero, suc, List, [], ◌∷◌, ◌++◌, take, drop, map, refl, sym, ap, arith, append_assoc, Less}
use Rattle.std.specs.List.{AllByRecursion}
use Rattle.std.specs.List.Sorted.{IsStrictlySortedBy}
use Rattle.std.specs.Ordering.{nat_cmp}
use Rattle.std.specs.Map.{keys_of}
use Rattle.std.specs.Cmp.Lexicographic.{slice_cmp}
use Rattle.tree_spec.specs.Listed.{listed_from}
use Rattle.name_map.specs.Names.{numbered, names_in, Rises}

before_all : {K : Type 0} (bytes : K → List ℕ) (x : List ℕ) (es : List (K × ℕ))
    → AllByRecursion (λ k. slice_cmp nat_cmp x (bytes k) ≡ Less) (keys_of es)
    → AllByRecursion (λ y. slice_cmp nat_cmp x y ≡ Less) (names_in (numbered bytes es))
before_all bytes x [] all = tt
before_all bytes x (e ∷ es) all = (all.0, before_all bytes x es all.1)

-- names rise where the keys do that hold them
pub names_rise : {K : Type 0} (bytes : K → List ℕ) (es : List (K × ℕ)) → IsStrictlySortedBy (λ x y. slice_cmp nat_cmp (bytes x) (bytes y)) (keys_of es)
    → Rises (names_in (numbered bytes es))
unfolding IsStrictlySortedBy
names_rise bytes [] rise = tt
names_rise bytes (e ∷ es) rise = (before_all bytes (bytes e.0) es rise.0, names_rise bytes es rise.1)

-- the names that are still to be listed, where some are passed over first
abbrev pub left : {K : Type 0} → (K → List ℕ) → ℕ → ℕ → List K → List (List ℕ)
left bytes wanted ahead keys = take wanted (drop ahead (map bytes keys))

pub one_listed : {K : Type 0} (bytes : K → List ℕ) (list whole : List (List ℕ)) (wanted : ℕ) (k : K) (keys more : List K) → (wanted ≡ 0 → ⊥) → keys ≡ k ∷ more
    → list ++ left bytes wanted 0 keys ≡ whole → (list ++ bytes k ∷ []) ++ left bytes (wanted - 1) 0 more ≡ whole
one_listed bytes list whole zero k keys more some is so = absurd (some refl)
one_listed bytes list whole (suc w) k keys more some is so =
    let less : suc w - 1 ≡ w = omega arith in
    ap (λ n. (list ++ bytes k ∷ []) ++ left bytes n 0 more) less ∙ append_assoc list (bytes k ∷ []) (left bytes w 0 more) ∙ sym (ap (λ ks. list ++ left bytes (suc w) 0 ks) is) ∙ so

names_are_bytes : {K : Type 0} (bytes : K → List ℕ) (es : List (K × ℕ)) → map bytes (keys_of es) ≡ names_in (numbered bytes es)
names_are_bytes bytes [] = refl
names_are_bytes bytes (e ∷ es) = ap (λ ns. bytes e.0 ∷ ns) (names_are_bytes bytes es)

pub all_left : {K : Type 0} (bytes : K → List ℕ) (at : ℕ) (es : List (K × ℕ)) (keys : List K) → keys ≡ keys_of es
    → [] ++ left bytes 16 at keys ≡ listed_from at (names_in (numbered bytes es))
all_left bytes at es keys is = ap (λ ks. left bytes 16 at ks) is ∙ ap (λ ns. take 16 (drop at ns)) (names_are_bytes bytes es)
