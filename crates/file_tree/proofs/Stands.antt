use Rattle.std.proofs.Common.{◌≡◌, ◌∙◌, ℕ, true, cond, List, Option, Some, None, refl, sym, ap, inl, inr, ◌&&◌, ◌==◌, is_some}
use Rattle.std.specs.Option.{unwrap_or}
use Rattle.std.specs.Str.{bytes_eq}
use Rattle.std.specs.Cmp.Lexicographic.{bytes_decides}
use Rattle.std.proofs.lemmas.Bool.{cases_Bool, cond-true, cond-false, eqb-true, and_parts, false≢true, eq-eqb}
use Rattle.tree_spec.specs.declared.nodes.NodeRow.{NodeRow}
use Rattle.tree_spec.specs.Trees.{is_below, stands_as}
use Rattle.file_tree.specs.Indexes.{is_place}

-- `IsIndexed` of any two look-ups
pub record Stands (node : ℕ → Option NodeRow) (find : ℕ → List ℕ → Option ℕ) : Type 0 where
  pub stands : (d : ℕ) (name : List ℕ) (n : ℕ) → find d name ≡ Some n → stands_as d name (node n) ≡ true
  pub finds : (d : ℕ) (name : List ℕ) (n : ℕ) → stands_as d name (node n) ≡ true → find d name ≡ Some n

pub no_some : (n : ℕ) → None ≡ Some n → ⊥
no_some n e = false≢true (ap is_some e)

some_is : (a b : ℕ) → Some a ≡ Some b → a ≡ b
some_is a b e = ap (λ o. unwrap_or o a) e

pub place_same : (find : ℕ → List ℕ → Option ℕ) (d : ℕ) (name : List ℕ) (e : ℕ) (q : List ℕ) → is_place d name e q ≡ true → find e q ≡ find d name
place_same find d name e q y =
    let parts = and_parts (d == e) (bytes_eq name q) y in
    let dirs : d ≡ e = eqb-true d e parts.0 in
    let names : name ≡ q = (bytes_decides name q).0 parts.1 in
    λ i. find (sym dirs i) (sym names i)

pub row_place : (r : NodeRow) (d : ℕ) (e : ℕ) (q : List ℕ) → r.parent ≡ Some d → stands_as e q (Some r) ≡ is_place d r.name e q
row_place r d e q there = λ i. is_below e (there i) && bytes_eq r.name q

pub place_itself : (d : ℕ) (name : List ℕ) → is_place d name d name ≡ true
place_itself d name = ap (λ t. t && bytes_eq name name) (eq-eqb d d refl) ∙ (bytes_decides name name).1 refl

same_row : (p : Option ℕ) (nm : List ℕ) (d : ℕ) (name : List ℕ) (e : ℕ) (q : List ℕ)
    → (is_below d p && bytes_eq nm name) ≡ true → (is_below e p && bytes_eq nm q) ≡ true → is_place d name e q ≡ true
same_row None nm d name e q a b = absurd (false≢true a)
same_row (Some p) nm d name e q a b =
    let one = and_parts (p == d) (bytes_eq nm name) a in
    let two = and_parts (p == e) (bytes_eq nm q) b in
    let dirs : d ≡ e = sym (eqb-true p d one.0) ∙ eqb-true p e two.0 in
    let names : name ≡ q = sym ((bytes_decides nm name).0 one.1) ∙ (bytes_decides nm q).0 two.1 in
    (λ i. (d == sym dirs i) && bytes_eq name (sym names i)) ∙ ap (λ t. t && bytes_eq name name) (eq-eqb d d refl) ∙ (bytes_decides name name).1 refl

same_place : (o : Option NodeRow) (d : ℕ) (name : List ℕ) (e : ℕ) (q : List ℕ) → stands_as d name o ≡ true → stands_as e q o ≡ true → is_place d name e q ≡ true
same_place None d name e q a b = absurd (false≢true a)
same_place (Some r) d name e q a b = same_row r.parent r.name d name e q a b

-- a node comes to stand under a name that had no number
pub put : (node : ℕ → Option NodeRow) (find : ℕ → List ℕ → Option ℕ) (n d : ℕ) (r : NodeRow) → Stands node find
    → node n ≡ None → r.parent ≡ Some d → find d r.name ≡ None
    → Stands (λ i. cond (n == i) (Some r) (node i)) (λ e q. cond (is_place d r.name e q) (Some n) (find e q))
put node find n d r was gone there absent = record { stands = stands_now; finds = finds_now }
  where
    stands_now : (e : ℕ) (q : List ℕ) (i : ℕ) → cond (is_place d r.name e q) (Some n) (find e q) ≡ Some i → stands_as e q (cond (n == i) (Some r) (node i)) ≡ true
    stands_now e q i h =
        elim (cases_Bool (is_place d r.name e q)) [
          | inl y ↦
              let same : n ≡ i = some_is n i (sym (cond-true (is_place d r.name e q) (Some n) (find e q) y) ∙ h) in
              ap (stands_as e q) (cond-true (n == i) (Some r) (node i) (ap (λ m. n == m) (sym same) ∙ eq-eqb n n refl)) ∙ row_place r d e q there ∙ y
          | inr f ↦
              let stood : stands_as e q (node i) ≡ true = was.stands e q i (sym (cond-false (is_place d r.name e q) (Some n) (find e q) f) ∙ h) in
              elim (cases_Bool (n == i)) [
                | inl same ↦ absurd (false≢true (ap (stands_as e q) (sym gone ∙ ap node (eqb-true n i same)) ∙ stood))
                | inr other ↦ ap (stands_as e q) (cond-false (n == i) (Some r) (node i) other) ∙ stood
              ]
        ]

    finds_now : (e : ℕ) (q : List ℕ) (i : ℕ) → stands_as e q (cond (n == i) (Some r) (node i)) ≡ true → cond (is_place d r.name e q) (Some n) (find e q) ≡ Some i
    finds_now e q i h =
        elim (cases_Bool (n == i)) [
          | inl same ↦
              let y : is_place d r.name e q ≡ true = sym (row_place r d e q there) ∙ sym (ap (stands_as e q) (cond-true (n == i) (Some r) (node i) same)) ∙ h in
              cond-true (is_place d r.name e q) (Some n) (find e q) y ∙ ap Some (eqb-true n i same)
          | inr other ↦
              let stood : find e q ≡ Some i = was.finds e q i (sym (ap (stands_as e q) (cond-false (n == i) (Some r) (node i) other)) ∙ h) in
              elim (cases_Bool (is_place d r.name e q)) [
                | inl y ↦ absurd (no_some i (sym absent ∙ sym (place_same find d r.name e q y) ∙ stood))
                | inr f ↦ cond-false (is_place d r.name e q) (Some n) (find e q) f ∙ stood
              ]
        ]

-- the node that has a name is gone
pub take_out : (node : ℕ → Option NodeRow) (find : ℕ → List ℕ → Option ℕ) (n d : ℕ) (name : List ℕ) → Stands node find → find d name ≡ Some n
    → Stands (λ i. cond (n == i) None (node i)) (λ e q. cond (is_place d name e q) None (find e q))
take_out node find n d name was there = record { stands = stands_now; finds = finds_now }
  where
    stands_now : (e : ℕ) (q : List ℕ) (i : ℕ) → cond (is_place d name e q) None (find e q) ≡ Some i → stands_as e q (cond (n == i) None (node i)) ≡ true
    stands_now e q i h =
        elim (cases_Bool (is_place d name e q)) [
          | inl y ↦ absurd (no_some i (sym (cond-true (is_place d name e q) None (find e q) y) ∙ h))
          | inr f ↦
              let stood : stands_as e q (node i) ≡ true = was.stands e q i (sym (cond-false (is_place d name e q) None (find e q) f) ∙ h) in
              elim (cases_Bool (n == i)) [
                | inl same ↦ absurd (false≢true (sym f ∙ same_place (node i) d name e q (ap (λ m. stands_as d name (node m)) (sym (eqb-true n i same)) ∙ was.stands d name n there) stood))
                | inr other ↦ ap (stands_as e q) (cond-false (n == i) None (node i) other) ∙ stood
              ]
        ]

    finds_now : (e : ℕ) (q : List ℕ) (i : ℕ) → stands_as e q (cond (n == i) None (node i)) ≡ true → cond (is_place d name e q) None (find e q) ≡ Some i
    finds_now e q i h =
        elim (cases_Bool (n == i)) [
          | inl same ↦ absurd (false≢true (sym (ap (stands_as e q) (cond-true (n == i) None (node i) same)) ∙ h))
          | inr other ↦
              let stood : find e q ≡ Some i = was.finds e q i (sym (ap (stands_as e q) (cond-false (n == i) None (node i) other)) ∙ h) in
              elim (cases_Bool (is_place d name e q)) [
                | inl y ↦ absurd (false≢true (sym other ∙ ap (λ m. n == m) (sym (some_is n i (sym there ∙ sym (place_same find d name e q y) ∙ stood))) ∙ eq-eqb n n refl))
                | inr f ↦ cond-false (is_place d name e q) None (find e q) f ∙ stood
              ]
        ]

-- a node changes, but not its place
pub stay : (node : ℕ → Option NodeRow) (find : ℕ → List ℕ → Option ℕ) (n : ℕ) (o : Option NodeRow) → Stands node find
    → ((d : ℕ) (name : List ℕ) → stands_as d name o ≡ stands_as d name (node n)) → Stands (λ i. cond (n == i) o (node i)) find
stay node find n o was same = record {
  stands = λ d name i h. is d name i ∙ was.stands d name i h;
  finds = λ d name i h. was.finds d name i (sym (is d name i) ∙ h);
}
  where
    is : (d : ℕ) (name : List ℕ) (i : ℕ) → stands_as d name (cond (n == i) o (node i)) ≡ stands_as d name (node i)
    is d name i =
        elim (cases_Bool (n == i)) [
          | inl y ↦ ap (stands_as d name) (cond-true (n == i) o (node i) y) ∙ same d name ∙ ap (λ m. stands_as d name (node m)) (eqb-true n i y)
          | inr f ↦ ap (stands_as d name) (cond-false (n == i) o (node i) f)
        ]
