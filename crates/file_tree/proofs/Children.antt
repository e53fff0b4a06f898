use Rattle.std.proofs.Common.{◌≡◌, ◌∙◌, ◌<◌, ◌≤◌, ◌+◌, ◌||◌, ◌&&◌, ℕ, zero, suc, Bool, true, false, List, [], ◌∷◌, Option, Some, None, length, get_or, fold, refl, sym, ap, inl, inr, arith, is_some, if◌then◌else◌, Ordering, Less, Equal, Greater}
use Rattle.std.specs.List.{flat_map, list_any}
use Rattle.std.specs.List.Sorted.{IsStrictlySortedBy}
use Rattle.std.specs.Str.{bytes_eq}
use Rattle.std.specs.Ordering.{is_eq, nat_cmp, match_ordering}
use Rattle.std.specs.Cmp.Lexicographic.{slice_cmp, bytes_decides}
use Rattle.std.specs.BTreeSet.{insert_key}
use Rattle.std.proofs.lemmas.Bool.{cases_Bool, cases_lt, false≢true, false_from_ne_true}
use Rattle.std.proofs.lemmas.Map.Text.{is_eq-slice_cmp}
use Rattle.std.proofs.lemmas.Map.Made.{is_some-lookup}
use Rattle.std.proofs.lemmas.List.{get_or_default, get_or_past, length-append}
use Rattle.std.proofs.lemmas.List.Folds.{list_any-append, list_any_at}
use Rattle.name_map.specs.Names.{names_in, has_name, Rises}
use Rattle.name_map.proofs.Orders.{listed}
use Rattle.tree_spec.specs.declared.nodes.NodeRow.{NodeRow}
use Rattle.tree_spec.specs.Trees.{Nodes, node_at, is_below, stands_as}
use Rattle.tree_spec.specs.Listed.{name_below, children}
use Rattle.file_tree.specs.Indexes.{Below, names_at, found, IsIndexed}
use Rattle.file_tree.proofs.Indexed.{some_or_none, none_stands, child_is}

pub names_here : (below : Below) (d : ℕ) (es : List (List ℕ × ℕ)) → d < length below → es ≡ get_or below d es → es ≡ names_at below d
names_here below d es within is = is ∙ get_or_default below d es [] within

pub names_past : (below : Below) (d : ℕ) → length below ≤ d → [] ≡ names_at below d
names_past below d past = sym (get_or_past below d [] past)

pub none_rise : Rises []
unfolding IsStrictlySortedBy
none_rise = tt

turned : (a b : List ℕ) → bytes_eq a b ≡ bytes_eq b a
turned a b = elim (cases_Bool (bytes_eq a b)) [
  | inl y ↦ y ∙ sym ((bytes_decides b a).1 (sym ((bytes_decides a b).0 y)))
  | inr f ↦ f ∙ sym (false_from_ne_true (bytes_eq b a) (λ t. false≢true (sym f ∙ (bytes_decides a b).1 (sym ((bytes_decides b a).0 t)))))
]

one_node : (d : ℕ) (q : List ℕ) (o : Option NodeRow) → has_name q (name_below d o) ≡ stands_as d q o
one_node d q None = refl
one_node d q (Some r) = by (is_below d r.parent)
  where
    or_none : (b : Bool) → (b || false) ≡ b
    or_none true = refl
    or_none false = refl

    by : (b : Bool) → has_name q (if b then r.name ∷ [] else []) ≡ (b && bytes_eq r.name q)
    by true = or_none (is_eq (slice_cmp nat_cmp q r.name)) ∙ is_eq-slice_cmp q r.name ∙ turned q r.name
    by false = refl

-- a name is in a directory where a node stands under it
all_nodes : (d : ℕ) (q : List ℕ) (nodes : Nodes) → has_name q (flat_map (name_below d) nodes) ≡ list_any (stands_as d q) nodes
all_nodes d q [] = refl
all_nodes d q (o ∷ os) =
    list_any-append (λ k. is_eq (slice_cmp nat_cmp q k)) (name_below d o) (flat_map (name_below d) os)
    ∙ (λ i. one_node d q o i || all_nodes d q os i)

none_passes : {A : Type 0} (p : A → Bool) (xs : List A) (d : A) → ((i : ℕ) → p (get_or xs i d) ≡ false) → list_any p xs ≡ false
none_passes p [] d none = refl
none_passes p (x ∷ xs) d none = ap (λ b. b || list_any p xs) (none zero) ∙ none_passes p xs d (λ i. none (suc i))

found_any : (nodes : Nodes) (below : Below) (d : ℕ) (q : List ℕ) → IsIndexed nodes below → is_some (found below d q) ≡ list_any (stands_as d q) nodes
found_any nodes below d q is = elim (some_or_none (found below d q)) [
  | inl none ↦ ap is_some none ∙ sym (none_passes (stands_as d q) nodes None (λ i. none_stands nodes d q i (sym (child_is nodes below d q is) ∙ none)))
  | inr some ↦
      let here : stands_as d q (node_at nodes some.0) ≡ true = is.stands d q some.0 some.1 in
      ap is_some some.1 ∙ sym (elim (cases_lt some.0 (length nodes)) [
        | inl within ↦ list_any_at (stands_as d q) nodes some.0 None within here
        | inr beyond ↦ absurd (false≢true (sym (ap (stands_as d q) (get_or_past nodes some.0 None beyond)) ∙ here))
      ])
]

-- the names of the index are those of the nodes
pub children_are : (nodes : Nodes) (below : Below) (d : ℕ) → IsIndexed nodes below → Rises (names_in (names_at below d)) → names_in (names_at below d) ≡ children nodes d
children_are nodes below d is rises = listed (names_in (names_at below d)) (flat_map (name_below d) nodes) rises same
  where
    same : (q : List ℕ) → has_name q (names_in (names_at below d)) ≡ has_name q (flat_map (name_below d) nodes)
    same q =
        (λ i. list_any (λ k. is_eq-slice_cmp q k i) (names_in (names_at below d)))
        ∙ sym (is_some-lookup (λ k. bytes_eq q k) (names_at below d)) ∙ found_any nodes below d q is ∙ sym (all_nodes d q nodes)

one_more : (names : List (List ℕ)) (k : List ℕ) → length (insert_key (slice_cmp nat_cmp) names k) ≤ length names + 1
one_more [] k = omega arith
one_more (n ∷ ns) k = by (slice_cmp nat_cmp k n) (one_more ns k)
  where
    by : (o : Ordering) → length (insert_key (slice_cmp nat_cmp) ns k) ≤ length ns + 1
        → length (match_ordering o (k ∷ n ∷ ns) (n ∷ ns) (n ∷ insert_key (slice_cmp nat_cmp) ns k)) ≤ length (n ∷ ns) + 1
    by Less more = omega arith
    by Equal more = omega arith
    by Greater more = omega (arith, more)

no_more_names : (before names : List (List ℕ)) → length (fold (insert_key (slice_cmp nat_cmp)) before names) ≤ length before + length names
no_more_names before [] = omega arith
no_more_names before (n ∷ ns) = omega (arith, no_more_names (insert_key (slice_cmp nat_cmp) before n) ns, one_more before n)

few_below : (d : ℕ) (nodes : Nodes) → length (flat_map (name_below d) nodes) ≤ length nodes
few_below d [] = omega arith
few_below d (o ∷ os) = omega (arith, length-append (name_below d o) (flat_map (name_below d) os), few_below d os, one o)
  where
    one : (o : Option NodeRow) → length (name_below d o) ≤ 1
    one None = omega arith
    one (Some r) = by (is_below d r.parent)
      where
        by : (b : Bool) → length (if b then r.name ∷ [] else []) ≤ 1
        by true = omega arith
        by false = omega arith

-- a directory has no more names than there are nodes
pub few_children : (nodes : Nodes) (d : ℕ) → length (children nodes d) ≤ length nodes
few_children nodes d = omega (arith, no_more_names [] (flat_map (name_below d) nodes), few_below d nodes)
