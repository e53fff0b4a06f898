use Rattle.std.proofs.Common.{◌≡◌, ◌∙◌, ◌<◌, ◌≤◌, ◌+◌, ℕ, true, false, cond, zero, suc, ◌&&◌, List, [], ◌∷◌, ◌++◌, Option, Some, None, length, get_or, refl, sym, ap, subst, inl, inr, ◌⊎◌, arith, ◌==◌, slice_set, nat_lt, is_some}
use Rattle.std.specs.List.{position_or_len}
use Rattle.std.specs.Str.{bytes_eq}
use Rattle.std.proofs.lemmas.Bool.{cases_Bool, cond-true, cond-false, ltb-false, cases_lt, cases_eq, eq-eqb, ne_eqb, false_from_ne_true, false≢true}
use Rattle.std.proofs.lemmas.List.{get_or_default, get_or_past, get_or_push, get_or_append_left, length_push, length-set}
use Rattle.std.proofs.lemmas.List.Quantifiers.{position-Some}
use Rattle.std.proofs.lemmas.List.Sums.{fails_before_first}
use Rattle.name_map.specs.Names.{number_of}
use Rattle.tree_spec.specs.declared.nodes.NodeRow.{NodeRow}
use Rattle.tree_spec.specs.Trees.{Nodes, node_at, is_below, stands_as, node_named, parent_of}
use Rattle.file_tree.specs.Indexes.{Below, found, is_place, IsIndexed}
use Rattle.file_tree.proofs.Written.{after_set, found_past}
use Rattle.file_tree.proofs.Stands.{Stands, no_some, place_same, row_place, place_itself, put, take_out}

pub of_index : (nodes : Nodes) (below : Below) → IsIndexed nodes below → Stands (node_at nodes) (found below)
of_index nodes below is = record { stands = is.stands; finds = is.finds }

pub some_or_none : (o : Option ℕ) → (o ≡ None) ⊎ ((n : ℕ) × (o ≡ Some n))
some_or_none None = inl refl
some_or_none (Some n) = inr (n, refl)

pub none_stands : (nodes : Nodes) (d : ℕ) (name : List ℕ) (n : ℕ) → node_named nodes d name ≡ None → stands_as d name (node_at nodes n) ≡ false
none_stands nodes d name n none =
    elim (cases_Bool (nat_lt (position_or_len (stands_as d name) nodes) (length nodes))) [
      | inl short ↦ absurd (false≢true (sym (ap is_some (sym (cond-true (nat_lt (position_or_len (stands_as d name) nodes) (length nodes)) (Some (position_or_len (stands_as d name) nodes)) None short) ∙ none))))
      | inr whole ↦
          let past : length nodes ≤ position_or_len (stands_as d name) nodes = ltb-false (position_or_len (stands_as d name) nodes) (length nodes) whole in
          elim (cases_lt n (length nodes)) [
            | inl within ↦ fails_before_first (stands_as d name) nodes n None (omega arith)
            | inr beyond ↦ ap (stands_as d name) (get_or_past nodes n None beyond)
          ]
    ]

-- what the index finds is the node that the list has
pub child_is : (nodes : Nodes) (below : Below) (d : ℕ) (name : List ℕ) → IsIndexed nodes below → found below d name ≡ node_named nodes d name
child_is nodes below d name is =
    elim (some_or_none (node_named nodes d name)) [
      | inl none ↦
          elim (some_or_none (found below d name)) [
            | inl nothing ↦ nothing ∙ sym none
            | inr some ↦ absurd (false≢true (sym (none_stands nodes d name some.0 none) ∙ is.stands d name some.0 some.1))
          ]
      | inr some ↦
          let at = position-Some (stands_as d name) nodes some.0 None some.1 in
          is.finds d name some.0 at.1 ∙ sym some.1
    ]

pub from_stands : (nodes : Nodes) (below : Below) → length below ≡ length nodes → Stands (node_at nodes) (found below) → IsIndexed nodes below
from_stands nodes below long is = record { long = long; stands = is.stands; finds = is.finds }

first_stands : (r : NodeRow) (n : ℕ) (d : ℕ) (name : List ℕ) → r.parent ≡ None → stands_as d name (node_at (Some r ∷ []) n) ≡ false
first_stands r zero d name root = ap (λ p. is_below d p && bytes_eq r.name name) root
first_stands r (suc n) d name root = refl

first_finds : (d : ℕ) (name : List ℕ) → found ([] ∷ []) d name ≡ None
first_finds zero name = refl
first_finds (suc d) name = refl

-- a root alone
pub index_first : (r : NodeRow) → r.parent ≡ None → IsIndexed (Some r ∷ []) ([] ∷ [])
index_first r root = record {
  long = refl;
  stands = λ d name n h. absurd (no_some n (sym (first_finds d name) ∙ h));
  finds = λ d name n h. absurd (false≢true (sym (first_stands r n d name root) ∙ h));
}

-- a row of a list that has grown by one, whatever stands for no row
pub after_push : {A : Type 0} (xs : List A) (x d : A) (i : ℕ) → get_or (xs ++ x ∷ []) i d ≡ cond (length xs == i) x (get_or xs i d)
after_push xs x d i =
    elim (cases_eq (length xs) i) [
      | inl same ↦ get_or_push xs x d i same ∙ sym (cond-true (length xs == i) x (get_or xs i d) (eq-eqb (length xs) i same))
      | inr other ↦
          elim (cases_lt i (length xs)) [
            | inl within ↦ get_or_append_left xs (x ∷ []) d i within
            | inr beyond ↦ get_or_past (xs ++ x ∷ []) i d (let more = length_push xs x in omega arith) ∙ sym (get_or_past xs i d beyond)
          ] ∙ sym (cond-false (length xs == i) x (get_or xs i d) (ne_eqb (length xs) i other))
    ]

-- an empty map of names more finds no more
no_more : (below : Below) (d : ℕ) (name : List ℕ) → found (below ++ [] ∷ []) d name ≡ found below d name
no_more below d name =
    ap (λ es. number_of es name) (after_push below [] [] d) ∙
    elim (cases_eq (length below) d) [
      | inl same ↦
          ap (λ es. number_of es name) (cond-true (length below == d) [] (get_or below d []) (eq-eqb (length below) d same))
          ∙ ap (λ es. number_of es name) (sym (get_or_past below d [] (let past : length below ≤ d = omega arith in past)))
      | inr other ↦ ap (λ es. number_of es name) (cond-false (length below == d) [] (get_or below d []) (ne_eqb (length below) d other))
    ]

-- what is found by a name more, once an empty map of names came last
pub more_found : (below put_in after : Below) (d : ℕ) (name : List ℕ) (n : ℕ) → after ≡ put_in ++ [] ∷ []
    → ((e : ℕ) (q : List ℕ) → found put_in e q ≡ cond (is_place d name e q) (Some n) (found below e q))
    → (e : ℕ) (q : List ℕ) → found after e q ≡ cond (is_place d name e q) (Some n) (found below e q)
more_found below put_in after d name n is wrote e q = ap (λ b. found b e q) is ∙ no_more put_in e q ∙ wrote e q

-- one more node under a name that was free
pub index_more : (nodes nodes' : Nodes) (below below' : Below) (d n : ℕ) (name : List ℕ) (r : NodeRow) → IsIndexed nodes below
    → node_named nodes d r.name ≡ None → r.parent ≡ Some d → n ≡ length nodes → name ≡ r.name → length below' ≡ length below + 1
    → ((e : ℕ) (q : List ℕ) → found below' e q ≡ cond (is_place d name e q) (Some n) (found below e q))
    → nodes' ≡ nodes ++ Some r ∷ [] → IsIndexed nodes' below'
index_more nodes nodes' below below' d n name r was free there number named long wrote grown =
    subst (λ ns. IsIndexed ns below') (sym grown)
    (from_stands (nodes ++ Some r ∷ []) below' (long ∙ ap (λ k. k + 1) was.long ∙ sym (length_push nodes (Some r)))
    (subst (λ find. Stands (node_at (nodes ++ Some r ∷ [])) find) find_is (subst (λ node. Stands node find_more) node_is
    (put (node_at nodes) (found below) (length nodes) d r (of_index nodes below was) (get_or_past nodes (length nodes) None (omega arith)) there
    (child_is nodes below d r.name was ∙ free)))))
  where
    find_more : ℕ → List ℕ → Option ℕ
    find_more e q = cond (is_place d r.name e q) (Some (length nodes)) (found below e q)

    node_is : (λ (i : ℕ). cond (length nodes == i) (Some r) (node_at nodes i)) ≡ node_at (nodes ++ Some r ∷ [])
    node_is i j = sym (after_push nodes (Some r) None j) i

    find_is : find_more ≡ found below'
    find_is i e q = sym (wrote e q ∙ (λ k. cond (is_place d (named k) e q) (Some (number k)) (found below e q))) i

pub node_here : (nodes : Nodes) (n : ℕ) (o : Option NodeRow) → n < length nodes → o ≡ get_or nodes n o → o ≡ node_at nodes n
node_here nodes n o within is = is ∙ get_or_default nodes n o None within

-- a node's directory is one of the nodes
pub dir_within : (nodes : Nodes) (below : Below) (n d : ℕ) (r : NodeRow) → IsIndexed nodes below → node_at nodes n ≡ Some r → r.parent ≡ Some d → d < length below
dir_within nodes below n d r was here there =
    elim (cases_lt d (length below)) [
      | inl within ↦ within
      | inr beyond ↦ absurd (no_some n (found_past below d r.name beyond ∙ was.finds d r.name n (ap (stands_as d r.name) here ∙ row_place r d d r.name there ∙ place_itself d r.name)))
    ]

-- the node of a number is gone
pub index_less : (nodes nodes' : Nodes) (below below' : Below) (n d : ℕ) (r : NodeRow) → IsIndexed nodes below → n < length nodes → node_at nodes n ≡ Some r → r.parent ≡ Some d
    → length below' ≡ length below
    → ((e : ℕ) (q : List ℕ) → found below' e q ≡ cond (is_place d r.name e q) None (found below e q))
    → nodes' ≡ slice_set nodes n None → IsIndexed nodes' below'
index_less nodes nodes' below below' n d r was within here there long wrote gone =
    subst (λ ns. IsIndexed ns below') (sym gone)
    (from_stands (slice_set nodes n None) below' (long ∙ was.long ∙ sym (length-set nodes n None))
    (subst (λ find. Stands (node_at (slice_set nodes n None)) find) find_is (subst (λ node. Stands node find_less) node_is
    (take_out (node_at nodes) (found below) n d r.name (of_index nodes below was)
    (was.finds d r.name n (ap (stands_as d r.name) here ∙ row_place r d d r.name there ∙ place_itself d r.name))))))
  where
    find_less : ℕ → List ℕ → Option ℕ
    find_less e q = cond (is_place d r.name e q) None (found below e q)

    node_is : (λ (i : ℕ). cond (n == i) None (node_at nodes i)) ≡ node_at (slice_set nodes n None)
    node_is i j = sym (after_set nodes n None None within j) i

    find_is : find_less ≡ found below'
    find_is i e q = sym (wrote e q) i

-- the node of a number comes to another place, under a name that was free
pub index_moved : (nodes nodes' : Nodes) (below below' : Below) (n d e : ℕ) (r s : NodeRow) → IsIndexed nodes below → n < length nodes → node_at nodes n ≡ Some r → r.parent ≡ Some d
    → node_named nodes e s.name ≡ None → s.parent ≡ Some e → length below' ≡ length below
    → ((f : ℕ) (q : List ℕ) → found below' f q ≡ cond (is_place d r.name f q) None (cond (is_place e s.name f q) (Some n) (found below f q)))
    → nodes' ≡ slice_set nodes n (Some s) → IsIndexed nodes' below'
index_moved nodes nodes' below below' n d e r s was within here there free put_there long wrote changed =
    subst (λ ns. IsIndexed ns below') (sym changed)
    (from_stands (slice_set nodes n (Some s)) below' (long ∙ was.long ∙ sym (length-set nodes n (Some s)))
    (subst (λ find. Stands (node_at (slice_set nodes n (Some s))) find) find_is (subst (λ node. Stands node find_moved) node_is
    (put node_less find_less n e s taken (cond-true (n == n) None (node_at nodes n) (eq-eqb n n refl)) put_there free_still))))
  where
    stood : found below d r.name ≡ Some n
    stood = was.finds d r.name n (ap (stands_as d r.name) here ∙ row_place r d d r.name there ∙ place_itself d r.name)

    absent : found below e s.name ≡ None
    absent = child_is nodes below e s.name was ∙ free

    node_less : ℕ → Option NodeRow
    node_less i = cond (n == i) None (node_at nodes i)

    find_less : ℕ → List ℕ → Option ℕ
    find_less f q = cond (is_place d r.name f q) None (found below f q)

    find_moved : ℕ → List ℕ → Option ℕ
    find_moved f q = cond (is_place e s.name f q) (Some n) (find_less f q)

    taken : Stands node_less find_less
    taken = take_out (node_at nodes) (found below) n d r.name (of_index nodes below was) stood

    free_still : find_less e s.name ≡ None
    free_still = elim (cases_Bool (is_place d r.name e s.name)) [
      | inl y ↦ cond-true (is_place d r.name e s.name) None (found below e s.name) y
      | inr f ↦ cond-false (is_place d r.name e s.name) None (found below e s.name) f ∙ absent
    ]

    node_is : (λ (i : ℕ). cond (n == i) (Some s) (node_less i)) ≡ node_at (slice_set nodes n (Some s))
    node_is i j = (both j (node_at nodes j) ∙ sym (after_set nodes n (Some s) None within j)) i
      where
        both : (j : ℕ) (o : Option NodeRow) → cond (n == j) (Some s) (cond (n == j) None o) ≡ cond (n == j) (Some s) o
        both j o = elim (cases_Bool (n == j)) [
          | inl y ↦ cond-true (n == j) (Some s) (cond (n == j) None o) y ∙ sym (cond-true (n == j) (Some s) o y)
          | inr f ↦ ap (λ x. cond (n == j) (Some s) x) (cond-false (n == j) None o f)
        ]

    apart : (f : ℕ) (q : List ℕ) → is_place e s.name f q ≡ true → is_place d r.name f q ≡ true → ⊥
    apart f q y z = no_some n (sym absent ∙ sym (place_same (found below) e s.name f q y) ∙ place_same (found below) d r.name f q z ∙ stood)

    turned : (f : ℕ) (q : List ℕ) → find_moved f q ≡ cond (is_place d r.name f q) None (cond (is_place e s.name f q) (Some n) (found below f q))
    turned f q = elim (cases_Bool (is_place e s.name f q)) [
      | inl y ↦
          cond-true (is_place e s.name f q) (Some n) (find_less f q) y
          ∙ sym (cond-false (is_place d r.name f q) None (cond (is_place e s.name f q) (Some n) (found below f q)) (false_from_ne_true (is_place d r.name f q) (apart f q y))
          ∙ cond-true (is_place e s.name f q) (Some n) (found below f q) y)
      | inr z ↦
          cond-false (is_place e s.name f q) (Some n) (find_less f q) z
          ∙ ap (λ o. cond (is_place d r.name f q) None o) (sym (cond-false (is_place e s.name f q) (Some n) (found below f q) z))
    ]

    find_is : find_moved ≡ found below'
    find_is i f q = (turned f q ∙ sym (wrote f q)) i

pub row_here : (nodes : Nodes) (n : ℕ) (o : Option NodeRow) → n < length nodes → o ≡ get_or nodes n o → node_at nodes n ≡ o
row_here nodes n o within is = sym (node_here nodes n o within is)

pub row_past : (nodes : Nodes) (n : ℕ) → length nodes ≤ n → node_at nodes n ≡ None
row_past nodes n past = get_or_past nodes n None past

pub parent_past : (nodes : Nodes) (n : ℕ) → length nodes ≤ n → None ≡ parent_of (node_at nodes n)
parent_past nodes n past = sym (ap parent_of (get_or_past nodes n None past))

pub parent_here : (nodes : Nodes) (n : ℕ) (o : Option NodeRow) → n < length nodes → o ≡ get_or nodes n o → parent_of o ≡ parent_of (node_at nodes n)
parent_here nodes n o within is = ap parent_of (node_here nodes n o within is)
