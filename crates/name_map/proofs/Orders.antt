use Rattle.std.proofs.Common.{◌≡◌, ◌∙◌, ℕ, Bool, true, false, ◌||◌, List, [], ◌∷◌, refl, sym, ap, inl, inr, fold, Ordering, Less, Equal, Greater}
use Rattle.std.specs.List.{AllByRecursion}
use Rattle.std.specs.List.Sorted.{IsStrictlySortedBy}
use Rattle.std.specs.Ordering.{nat_cmp, is_eq, match_ordering, ordering_reverse}
use Rattle.std.specs.Cmp.{eq_by_cmp_equiv}
use Rattle.std.specs.Cmp.Lexicographic.{slice_cmp, nat_list_cmp_total}
use Rattle.std.specs.BTreeSet.{insert_key}
use Rattle.std.specs.FinMap.{slice_cmp-IsAntisymmetric, nat_cmp-IsAntisymmetric}
use Rattle.std.proofs.lemmas.Bool.{cases_Bool, false≢true, or_left}
use Rattle.tree_spec.specs.Listed.{in_byte_order}
use Rattle.name_map.specs.Names.{has_name}

abbrev Name : Type 0
Name = List ℕ

abbrev cmp : Name → Name → Ordering
cmp x y = slice_cmp nat_cmp x y

same : (x y : Name) → cmp x y ≡ Equal → x ≡ y
same = slice_cmp-IsAntisymmetric nat_cmp-IsAntisymmetric

itself : (x : Name) → is_eq (cmp x x) ≡ true
itself x = (eq_by_cmp_equiv nat_list_cmp_total).refl x

turned : (x y : Name) (r : Ordering) → cmp x y ≡ r → cmp y x ≡ ordering_reverse r
turned x y r e = nat_list_cmp_total.antisymm y x ∙ ap ordering_reverse e

Above : Name → List Name → Type 0
Above x names = AllByRecursion (λ y. cmp x y ≡ Less) names

Rises : List Name → Type 0
Rises names = IsStrictlySortedBy cmp names

above_more : (x y : Name) (names : List Name) → cmp x y ≡ Less → Above y names → Above x names
unfolding Above
above_more x y [] less all = tt
above_more x y (n ∷ ns) less all = (nat_list_cmp_total.trans x y n less all.0, above_more x y ns less all.1)

none_above : (x : Name) (names : List Name) → Above x names → has_name x names ≡ false
unfolding Above
none_above x [] all = refl
none_above x (n ∷ ns) all = ap (λ r. is_eq r || has_name x ns) all.0 ∙ none_above x ns all.1

eq_is : (x y : Name) → is_eq (cmp x y) ≡ true → cmp x y ≡ Equal
eq_is x y e = by (cmp x y) e
  where
    by : (r : Ordering) → is_eq r ≡ true → r ≡ Equal
    by Less e = absurd (false≢true e)
    by Equal e = refl
    by Greater e = absurd (false≢true e)

-- two rising lists with the same names are one
determined : (xs ys : List Name) → Rises xs → Rises ys → ((q : Name) → has_name q xs ≡ has_name q ys) → xs ≡ ys
unfolding Rises IsStrictlySortedBy Above
determined [] [] r s is = refl
determined [] (y ∷ ys) r s is = absurd (false≢true (is y ∙ or_left (is_eq (cmp y y)) (has_name y ys) (itself y)))
determined (x ∷ xs) [] r s is = absurd (false≢true (sym (is x) ∙ or_left (is_eq (cmp x x)) (has_name x xs) (itself x)))
determined (x ∷ xs) (y ∷ ys) r s is = by (cmp x y) refl (λ e. determined xs ys r.1 s.1 (λ q. rest q e (is q)))
  where
    rest : (q : Name) → x ≡ y → (is_eq (cmp q x) || has_name q xs) ≡ (is_eq (cmp q y) || has_name q ys) → has_name q xs ≡ has_name q ys
    rest q e h =
        elim (cases_Bool (is_eq (cmp q x))) [
          | inl t ↦
              let qx : q ≡ x = same q x (eq_is q x t) in
              ap (λ n. has_name n xs) qx ∙ none_above x xs r.0 ∙ sym (none_above y ys s.0) ∙ ap (λ n. has_name n ys) (sym (qx ∙ e))
          | inr f ↦ sym (ap (λ b. b || has_name q xs) f) ∙ h ∙ ap (λ b. b || has_name q ys) (ap (λ n. is_eq (cmp q n)) (sym e) ∙ f)
        ]

    by : (o : Ordering) → cmp x y ≡ o → (x ≡ y → xs ≡ ys) → x ∷ xs ≡ y ∷ ys
    by Less e later = absurd (false≢true (sym (ap (λ r. is_eq r || has_name x ys) e ∙ none_above x ys (above_more x y ys e s.0)) ∙ sym (is x) ∙ or_left (is_eq (cmp x x)) (has_name x xs) (itself x)))
    by Equal e later = λ i. same x y e i ∷ later (same x y e) i
    by Greater e later =
        let less : cmp y x ≡ Less = turned x y Greater e in
        absurd (false≢true (sym (ap (λ r. is_eq r || has_name y xs) less ∙ none_above y xs (above_more y x xs less r.0)) ∙ is y ∙ or_left (is_eq (cmp y y)) (has_name y ys) (itself y)))

above_insert : (x k : Name) (names : List Name) → cmp x k ≡ Less → Above x names → Above x (insert_key cmp names k)
unfolding Above
above_insert x k [] less all = (less, tt)
above_insert x k (n ∷ ns) less all = by (cmp k n) (above_insert x k ns less all.1)
  where
    by : (o : Ordering) → AllByRecursion (λ y. cmp x y ≡ Less) (insert_key cmp ns k) → AllByRecursion (λ y. cmp x y ≡ Less) (match_ordering o (k ∷ n ∷ ns) (n ∷ ns) (n ∷ insert_key cmp ns k))
    by Less later = (less, all)
    by Equal later = all
    by Greater later = (all.0, later)

rises_insert : (names : List Name) (k : Name) → Rises names → Rises (insert_key cmp names k)
unfolding Rises IsStrictlySortedBy Above
rises_insert [] k r = (tt, tt)
rises_insert (n ∷ ns) k r = by (cmp k n) refl (rises_insert ns k r.1)
  where
    by : (o : Ordering) → cmp k n ≡ o → IsStrictlySortedBy cmp (insert_key cmp ns k) → IsStrictlySortedBy cmp (match_ordering o (k ∷ n ∷ ns) (n ∷ ns) (n ∷ insert_key cmp ns k))
    by Less e later = ((e, above_more k n ns e r.0), r)
    by Equal e later = r
    by Greater e later = (above_insert n k ns (turned k n Greater e) r.0, later)

has_insert : (q : Name) (names : List Name) (k : Name) → has_name q (insert_key cmp names k) ≡ (is_eq (cmp q k) || has_name q names)
has_insert q [] k = refl
has_insert q (n ∷ ns) k = by (cmp k n) refl (has_insert q ns k)
  where
    twice : (a b : Bool) → (a || b) ≡ (a || (a || b))
    twice true b = refl
    twice false b = refl

    swapped : (a b c : Bool) → (a || (b || c)) ≡ (b || (a || c))
    swapped true true c = refl
    swapped true false c = refl
    swapped false true c = refl
    swapped false false c = refl

    by : (o : Ordering) → cmp k n ≡ o → has_name q (insert_key cmp ns k) ≡ (is_eq (cmp q k) || has_name q ns)
        → has_name q (match_ordering o (k ∷ n ∷ ns) (n ∷ ns) (n ∷ insert_key cmp ns k)) ≡ (is_eq (cmp q k) || (is_eq (cmp q n) || has_name q ns))
    by Less e later = refl
    by Equal e later = twice (is_eq (cmp q n)) (has_name q ns) ∙ ap (λ m. is_eq (cmp q m) || (is_eq (cmp q n) || has_name q ns)) (sym (same k n e))
    by Greater e later = ap (λ b. is_eq (cmp q n) || b) later ∙ swapped (is_eq (cmp q n)) (is_eq (cmp q k)) (has_name q ns)

rises_fold : (before names : List Name) → Rises before → Rises (fold (insert_key cmp) before names)
rises_fold before [] r = r
rises_fold before (n ∷ ns) r = rises_fold (insert_key cmp before n) ns (rises_insert before n r)

has_fold : (q : Name) (before names : List Name) → has_name q (fold (insert_key cmp) before names) ≡ (has_name q before || has_name q names)
has_fold q before [] = by (has_name q before)
  where
    by : (b : Bool) → b ≡ (b || false)
    by true = refl
    by false = refl
has_fold q before (n ∷ ns) = has_fold q (insert_key cmp before n) ns ∙ ap (λ b. b || has_name q ns) (has_insert q before n) ∙ by (is_eq (cmp q n)) (has_name q before) (has_name q ns)
  where
    by : (a b c : Bool) → ((a || b) || c) ≡ (b || (a || c))
    by true true c = refl
    by true false c = refl
    by false true c = refl
    by false false c = refl

rises_none : Rises []
unfolding Rises IsStrictlySortedBy
rises_none = tt

-- names that rise are the names in byte order of each list with the same names
pub listed : (xs names : List Name) → IsStrictlySortedBy cmp xs → ((q : Name) → has_name q xs ≡ has_name q names) → xs ≡ in_byte_order names
unfolding Rises
listed xs names rises is = determined xs (in_byte_order names) rises (rises_fold [] names rises_none) (λ q. is q ∙ sym (has_fold q [] names))
