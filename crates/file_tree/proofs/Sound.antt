use Rattle.std.proofs.Common.{◌≡◌, ◌∙◌, ◌<◌, ◌≤◌, ◌+◌, ◌-◌, ◌^◌, ℕ, zero, suc, Bool, true, false, cond, List, [], ◌∷◌, ◌++◌, Option, Some, None, length, refl, sym, ap, subst, inl, inr, arith, is_some, if◌then◌else◌, slice_set, ◌==◌, ◌&&◌}
use Rattle.std.specs.List.{filter}
use Rattle.std.proofs.lemmas.Bool.{cases_lt, false≢true}
use Rattle.std.proofs.lemmas.List.{length-set, length_push, get_or_past, length-map}
use Rattle.std.proofs.lemmas.List.Sums.{length-filter, count_by-le-length}
use Rattle.std.proofs.lemmas.List.Elements.{filter-append}
use Rattle.name_map.specs.Names.{names_in, Rises}
use Rattle.tree_spec.specs.declared.nodes.NodeRow.{NodeRow}
use Rattle.tree_spec.specs.declared.nodes.NodeLabels.{NodeLabels}
use Rattle.smack_base.specs.declared.ids.LabelId.{LabelId}
use Rattle.std.specs.Str.{bytes_eq}
use Rattle.tree_spec.specs.Trees.{Nodes, is_below, root_alone, root_row, node_at, live_nodes, stands_as, node_named, parent_of, relabelled}
use Rattle.tree_spec.specs.Listed.{children, listed_from}
use Rattle.file_tree.specs.Indexes.{Below, names_at, found, is_place, IsIndexed, IsTree}
use Rattle.file_tree.proofs.Written.{after_set}
use Rattle.file_tree.proofs.Stands.{Stands, stay, no_some}
use Rattle.file_tree.proofs.Indexed.{of_index, from_stands, child_is, index_first, index_more, index_less, index_moved}
use Rattle.file_tree.proofs.Children.{children_are, few_children}

pub first_sound : (label : LabelId) → IsTree (root_alone label) ([] ∷ []) 1
first_sound label = record { indexed = index_first (root_row label) refl; counted = refl; rooted = omega arith; few = omega arith }

pub live_is : (nodes : Nodes) (below : Below) (live : ℕ) → IsTree nodes below live → live ≡ live_nodes nodes
live_is nodes below live t = t.counted

pub named_is : (nodes : Nodes) (below : Below) (live d : ℕ) (name : List ℕ) → IsTree nodes below live → found below d name ≡ node_named nodes d name
named_is nodes below live d name t = child_is nodes below d name t.indexed

pub named_within : (nodes : Nodes) (below : Below) (live d : ℕ) (name : List ℕ) (n : ℕ) → IsTree nodes below live → found below d name ≡ Some n → n < length nodes
named_within nodes below live d name n t is = elim (cases_lt n (length nodes)) [
  | inl within ↦ within
  | inr beyond ↦ absurd (false≢true (sym (ap (stands_as d name) (get_or_past nodes n None beyond)) ∙ t.indexed.stands d name n is))
]

pub names_are : (nodes : Nodes) (below : Below) (live d at : ℕ) → IsTree nodes below live → Rises (names_in (names_at below d))
    → listed_from at (names_in (names_at below d)) ≡ listed_from at (children nodes d)
names_are nodes below live d at t rises = ap (listed_from at) (children_are nodes below d t.indexed rises)

pub count_is : (nodes : Nodes) (below : Below) (live d : ℕ) → IsTree nodes below live → Rises (names_in (names_at below d)) → length (names_at below d) ≡ length (children nodes d)
count_is nodes below live d t rises = sym (length-map (names_at below d) (λ e. e.0)) ∙ ap (λ ns. length ns) (children_are nodes below d t.indexed rises)

pub count_fits : (nodes : Nodes) (below : Below) (live d : ℕ) → IsTree nodes below live → Rises (names_in (names_at below d)) → length (names_at below d) < 2 ^ 32
count_fits nodes below live d t rises = omega (arith, count_is nodes below live d t rises, few_children nodes d, t.few)

abbrev pub one_if : Bool → ℕ
one_if b = cond b 1 0

live_set : (nodes : Nodes) (n : ℕ) (o : Option NodeRow) → n < length nodes → live_nodes (slice_set nodes n o) + one_if (is_some (node_at nodes n)) ≡ live_nodes nodes + one_if (is_some o)
live_set [] n o within = absurd (omega (arith, within))
live_set (x ∷ xs) zero o within = by (is_some x) (is_some o)
  where
    by : (a b : Bool) → length (if b then o ∷ filter is_some xs else filter is_some xs) + cond a 1 0 ≡ length (if a then x ∷ filter is_some xs else filter is_some xs) + cond b 1 0
    by true true = omega arith
    by true false = omega arith
    by false true = omega arith
    by false false = refl
live_set (x ∷ xs) (suc n) o within = by (is_some x) (live_set xs n o (omega (arith, within)))
  where
    by : (a : Bool) → live_nodes (slice_set xs n o) + one_if (is_some (node_at xs n)) ≡ live_nodes xs + one_if (is_some o)
        → length (if a then x ∷ filter is_some (slice_set xs n o) else filter is_some (slice_set xs n o)) + one_if (is_some (node_at xs n))
        ≡ length (if a then x ∷ filter is_some xs else filter is_some xs) + one_if (is_some o)
    by true more = omega (arith, more)
    by false more = more

live_push : (nodes : Nodes) (r : NodeRow) → live_nodes (nodes ++ Some r ∷ []) ≡ live_nodes nodes + 1
live_push nodes r = ap (λ os. length os) (filter-append is_some nodes (Some r ∷ [])) ∙ length_push (filter is_some nodes) (Some r)

few_live : (nodes : Nodes) → live_nodes nodes ≤ length nodes
few_live nodes = omega (arith, length-filter is_some nodes, count_by-le-length is_some nodes)

pub live_fits : (nodes : Nodes) (below : Below) (live : ℕ) → IsTree nodes below live → length nodes < 2 ^ 32 - 1 → live + 1 < 2 ^ 32
live_fits nodes below live t short = omega (arith, t.counted, few_live nodes, short)

pub some_live : (nodes : Nodes) (below : Below) (live n : ℕ) (r : NodeRow) → IsTree nodes below live → n < length nodes → node_at nodes n ≡ Some r → 1 ≤ live
some_live nodes below live n r t within here =
    let count = live_set nodes n None within in
    let one : one_if (is_some (node_at nodes n)) ≡ 1 = ap (λ o. one_if (is_some o)) here in
    omega (arith, t.counted, count, one)

-- a node is changed that stands where it stood
stays : (nodes : Nodes) (below : Below) (n : ℕ) (o : Option NodeRow) → IsIndexed nodes below → n < length nodes
    → ((d : ℕ) (name : List ℕ) → stands_as d name o ≡ stands_as d name (node_at nodes n)) → IsIndexed (slice_set nodes n o) below
stays nodes below n o was within same =
    from_stands (slice_set nodes n o) below (was.long ∙ sym (length-set nodes n o))
    (subst (λ node. Stands node (found below)) node_is (stay (node_at nodes) (found below) n o (of_index nodes below was) same))
  where
    node_is : (λ (i : ℕ). cond (n == i) o (node_at nodes i)) ≡ node_at (slice_set nodes n o)
    node_is i j = sym (after_set nodes n o None within j) i

-- a node is gone that was gone, or that was the root
pub unplaced_sound : (nodes nodes' : Nodes) (below : Below) (live live' n : ℕ) → IsTree nodes below live → n < length nodes
    → ((d : ℕ) (name : List ℕ) → false ≡ stands_as d name (node_at nodes n)) → live' + one_if (is_some (node_at nodes n)) ≡ live → nodes' ≡ slice_set nodes n None → IsTree nodes' below live'
unplaced_sound nodes nodes' below live live' n t within unplaced less gone = subst (λ ns. IsTree ns below live') (sym gone) record {
  indexed = stays nodes below n None t.indexed within unplaced;
  counted = let count = live_set nodes n None within in omega (arith, t.counted, less, count);
  rooted = let same = length-set nodes n None in omega (arith, t.rooted, same);
  few = let same = length-set nodes n None in omega (arith, t.few, same);
}

pub gone_sound : (nodes nodes' : Nodes) (below : Below) (live n : ℕ) → IsTree nodes below live → n < length nodes → node_at nodes n ≡ None
    → nodes' ≡ slice_set nodes n None → IsTree nodes' below live
gone_sound nodes nodes' below live n t within here gone =
    unplaced_sound nodes nodes' below live live n t within (λ d name. sym (ap (stands_as d name) here))
    (let none : one_if (is_some (node_at nodes n)) ≡ 0 = ap (λ o. one_if (is_some o)) here in omega (arith, none)) gone

root_unplaced : (d : ℕ) (name : List ℕ) (r : NodeRow) (p : Option ℕ) → r.parent ≡ p → p ≡ None → false ≡ stands_as d name (Some r)
root_unplaced d name r p is none = sym (ap (λ q. is_below d q && bytes_eq r.name name) (is ∙ none))

pub root_sound : (nodes nodes' : Nodes) (below : Below) (live live' n : ℕ) (r : NodeRow) → IsTree nodes below live → n < length nodes → node_at nodes n ≡ Some r → r.parent ≡ None
    → live' ≡ live - 1 → nodes' ≡ slice_set nodes n None → IsTree nodes' below live'
root_sound nodes nodes' below live live' n r t within here root less gone =
    unplaced_sound nodes nodes' below live live' n t within (λ d name. root_unplaced d name r None root refl ∙ sym (ap (stands_as d name) here))
    (let one : one_if (is_some (node_at nodes n)) ≡ 1 = ap (λ o. one_if (is_some o)) here in
    let some = some_live nodes below live n r t within here in omega (arith, one, some, less)) gone

pub less_sound : (nodes nodes' : Nodes) (below below' : Below) (live live' n d : ℕ) (r : NodeRow) → IsTree nodes below live → n < length nodes → node_at nodes n ≡ Some r → r.parent ≡ Some d
    → length below' ≡ length below → ((e : ℕ) (q : List ℕ) → found below' e q ≡ cond (is_place d r.name e q) None (found below e q))
    → live' ≡ live - 1 → nodes' ≡ slice_set nodes n None → IsTree nodes' below' live'
less_sound nodes nodes' below below' live live' n d r t within here there long wrote less gone = record {
  indexed = index_less nodes nodes' below below' n d r t.indexed within here there long wrote gone;
  counted =
      let one : one_if (is_some (node_at nodes n)) ≡ 1 = ap (λ o. one_if (is_some o)) here in
      let count = live_set nodes n None within in
      let same : live_nodes nodes' ≡ live_nodes (slice_set nodes n None) = ap live_nodes gone in
      omega (arith, t.counted, less, count, one, same);
  rooted = let same : length nodes' ≡ length nodes = ap (λ ns. length ns) gone ∙ length-set nodes n None in omega (arith, t.rooted, same);
  few = let same : length nodes' ≡ length nodes = ap (λ ns. length ns) gone ∙ length-set nodes n None in omega (arith, t.few, same);
}

-- the count and the number of nodes where a node is changed that is there
changed : (nodes nodes' : Nodes) (live n : ℕ) (r s : NodeRow) → live ≡ live_nodes nodes → n < length nodes → node_at nodes n ≡ Some r → nodes' ≡ slice_set nodes n (Some s) → live ≡ live_nodes nodes'
changed nodes nodes' live n r s counted within here is =
    let one : one_if (is_some (node_at nodes n)) ≡ 1 = ap (λ o. one_if (is_some o)) here in
    let count : live_nodes (slice_set nodes n (Some s)) + one_if (is_some (node_at nodes n)) ≡ live_nodes nodes + 1 = live_set nodes n (Some s) within in
    let same : live_nodes nodes' ≡ live_nodes (slice_set nodes n (Some s)) = ap live_nodes is in
    omega (arith, counted, count, one, same)

pub moved_sound : (nodes nodes' : Nodes) (below below' : Below) (live n d e : ℕ) (r s : NodeRow) → IsTree nodes below live → n < length nodes → node_at nodes n ≡ Some r → r.parent ≡ Some d
    → node_named nodes e s.name ≡ None → s.parent ≡ Some e → length below' ≡ length below
    → ((f : ℕ) (q : List ℕ) → found below' f q ≡ cond (is_place d r.name f q) None (cond (is_place e s.name f q) (Some n) (found below f q)))
    → nodes' ≡ slice_set nodes n (Some s) → IsTree nodes' below' live
moved_sound nodes nodes' below below' live n d e r s t within here there free put_there long wrote is = record {
  indexed = index_moved nodes nodes' below below' n d e r s t.indexed within here there free put_there long wrote is;
  counted = changed nodes nodes' live n r s t.counted within here is;
  rooted = let same : length nodes' ≡ length nodes = ap (λ ns. length ns) is ∙ length-set nodes n (Some s) in omega (arith, t.rooted, same);
  few = let same : length nodes' ≡ length nodes = ap (λ ns. length ns) is ∙ length-set nodes n (Some s) in omega (arith, t.few, same);
}

pub labels_sound : (nodes nodes' : Nodes) (below : Below) (live n : ℕ) (r : NodeRow) (labels : NodeLabels) → IsTree nodes below live → n < length nodes → node_at nodes n ≡ Some r
    → nodes' ≡ slice_set nodes n (Some (relabelled labels r)) → IsTree nodes' below live
labels_sound nodes nodes' below live n r labels t within here is = record {
  indexed = subst (λ ns. IsIndexed ns below) (sym is) (stays nodes below n (Some (relabelled labels r)) t.indexed within (λ d name. sym (ap (stands_as d name) here)));
  counted = changed nodes nodes' live n r (relabelled labels r) t.counted within here is;
  rooted = let same : length nodes' ≡ length nodes = ap (λ ns. length ns) is ∙ length-set nodes n (Some (relabelled labels r)) in omega (arith, t.rooted, same);
  few = let same : length nodes' ≡ length nodes = ap (λ ns. length ns) is ∙ length-set nodes n (Some (relabelled labels r)) in omega (arith, t.few, same);
}

pub more_sound : (nodes nodes' : Nodes) (below below' : Below) (live live' d n : ℕ) (name : List ℕ) (r : NodeRow) → IsTree nodes below live → length nodes < 2 ^ 32 - 1
    → node_named nodes d r.name ≡ None → r.parent ≡ Some d → n ≡ length nodes → name ≡ r.name → length below' ≡ length below + 1
    → ((e : ℕ) (q : List ℕ) → found below' e q ≡ cond (is_place d name e q) (Some n) (found below e q))
    → live' ≡ live + 1 → nodes' ≡ nodes ++ Some r ∷ [] → IsTree nodes' below' live'
more_sound nodes nodes' below below' live live' d n name r t short free there number named long wrote more grown = record {
  indexed = index_more nodes nodes' below below' d n name r t.indexed free there number named long wrote grown;
  counted = more ∙ ap (λ k. k + 1) t.counted ∙ sym (ap live_nodes grown ∙ live_push nodes r);
  rooted = let longer : length nodes' ≡ length nodes + 1 = ap (λ ns. length ns) grown ∙ length_push nodes (Some r) in omega (arith, t.rooted, longer);
  few = let longer : length nodes' ≡ length nodes + 1 = ap (λ ns. length ns) grown ∙ length_push nodes (Some r) in omega (arith, short, longer);
}

-- a node that has a directory is one of the nodes
pub placed_within : (nodes : Nodes) (n d : ℕ) → parent_of (node_at nodes n) ≡ Some d → n < length nodes
placed_within nodes n d there = elim (cases_lt n (length nodes)) [
  | inl within ↦ within
  | inr beyond ↦ absurd (no_some d (sym (ap parent_of (get_or_past nodes n None beyond)) ∙ there))
]

pub root_within : (nodes : Nodes) (below : Below) (live : ℕ) → IsTree nodes below live → 0 < length nodes
root_within nodes below live t = t.rooted
