use Rattle.std.proofs.Common.{◌≡◌, ◌<◌, ◌≤◌, ◌+◌, ℕ, zero, suc, true, false, List, [], ◌∷◌, ◌++◌, length, take, get_or, refl, sym, ap, ◌∙◌, arith, inl, inr, length-append, None}
use Rattle.std.specs.Prelude.{slice_index_or, codes}
use Rattle.std.specs.List.{AllByRecursion}
use Rattle.std.specs.Str.{bytes_eq}
use Rattle.std.proofs.lemmas.Bool.{cases_Bool, cases_lt, ne_eqb}
use Rattle.std.proofs.lemmas.List.{get_or_append_left}
use Rattle.std.proofs.lemmas.List.Folds.{position_or_len_push}
use Rattle.std.proofs.Math.Seq.{get_or-append_seam}
use Rattle.smack_base.specs.Labels.{label_fault, is_label}
use Rattle.text_spec.specs.Names.{place_of, has_name, with_name, with_names, predefined, IsLabelTable}
use Rattle.label_table.proofs.Places.{place_of_added}

abbrev pub IsLabel : List ℕ → Type 0
IsLabel text = is_label text ≡ true

-- a text without a fault is a label
pub is_label_without_fault : (text : List ℕ) → label_fault text ≡ None → IsLabel text
is_label_without_fault text none = rw none refl

labels_push : (table : List (List ℕ)) (name : List ℕ) → AllByRecursion IsLabel table → IsLabel name → AllByRecursion IsLabel (table ++ name ∷ [])
labels_push [] name are label = (label, tt)
labels_push (t ∷ ts) name are label = (are.0, labels_push ts name are.1 label)

-- behind a new label the others keep their places, and it has its own
pub once_with_new : (table : List (List ℕ)) (name : List ℕ) → has_name table name ≡ false
    → ((id : ℕ) → id < length table → place_of table (slice_index_or table id []) ≡ id) → (id : ℕ) → id < length (table ++ name ∷ [])
    → place_of (table ++ name ∷ []) (slice_index_or (table ++ name ∷ []) id []) ≡ id
once_with_new table name new once id within =
    elim (cases_lt id (length table)) [
      | inl below ↦
          let same : get_or (table ++ name ∷ []) id [] ≡ get_or table id [] = get_or_append_left table (name ∷ []) [] id below in
          let apart = ne_eqb id (length table) (λ e. omega (arith, e, below)) in
          rw (same, position_or_len_push (λ (t : List ℕ). bytes_eq t (get_or table id [])) table name, once id below, apart) refl
      | inr above ↦
          let last : id ≡ length table = omega (arith, above, within, length-append table (name ∷ [])) in
          rw (last, get_or-append_seam table name [] [])
          (sym (place_of_added table (table ++ name ∷ []) name (length table) (rw new refl) (rw new refl) refl))
    ]

begins_with : (table : List (List ℕ)) (name : List ℕ) → take 5 table ≡ predefined → take 5 (table ++ name ∷ []) ≡ predefined
begins_with (a ∷ b ∷ c ∷ d ∷ e ∷ more) name begins = begins
begins_with (a ∷ b ∷ c ∷ d ∷ []) name begins = let short : 4 ≡ 5 = ap (λ (t : List (List ℕ)). length t) begins in absurd (omega (arith, short))
begins_with (a ∷ b ∷ c ∷ []) name begins = let short : 3 ≡ 5 = ap (λ (t : List (List ℕ)). length t) begins in absurd (omega (arith, short))
begins_with (a ∷ b ∷ []) name begins = let short : 2 ≡ 5 = ap (λ (t : List (List ℕ)). length t) begins in absurd (omega (arith, short))
begins_with (a ∷ []) name begins = let short : 1 ≡ 5 = ap (λ (t : List (List ℕ)). length t) begins in absurd (omega (arith, short))
begins_with [] name begins = let short : 0 ≡ 5 = ap (λ (t : List (List ℕ)). length t) begins in absurd (omega (arith, short))

-- a table of labels with one more label is one
pub with_label : (table : List (List ℕ)) (name : List ℕ) → IsLabelTable table → IsLabel name → IsLabelTable (with_name table name)
with_label table name is label =
    elim (cases_Bool (has_name table name)) [
      | inl known ↦ simp known is
      | inr new ↦ simp new (record {
        are = labels_push table name is.are label;
        once = once_with_new table name new is.once;
        begins = begins_with table name is.begins;
      })
    ]

pub with_labels : (table names : List (List ℕ)) → IsLabelTable table → AllByRecursion IsLabel names → IsLabelTable (with_names table names)
with_labels table [] is are = is
with_labels table (n ∷ ns) is are = with_labels (with_name table n) ns (with_label table n is are.0) are.1

place_once : (id : ℕ) → id < 5 → place_of predefined (slice_index_or predefined id []) ≡ id
place_once zero within = refl
place_once (suc zero) within = refl
place_once (suc (suc zero)) within = refl
place_once (suc (suc (suc zero))) within = refl
place_once (suc (suc (suc (suc zero)))) within = refl
place_once (suc (suc (suc (suc (suc n))))) within = absurd (omega (arith, within))

-- the predefined labels are a table of labels
pub predefined_is : IsLabelTable predefined
predefined_is = record { are = (refl, (refl, (refl, (refl, (refl, tt))))); once = place_once; begins = refl }

-- what is a table of labels, read as another list
pub table_of : (table other : List (List ℕ)) → other ≡ table → IsLabelTable table → IsLabelTable other
table_of table other same is = rw same is

-- the predefined labels, put one by one
pub five_put : (a b c d e f : List (List ℕ)) → a ≡ [] → b ≡ with_name a (codes "_") → c ≡ with_name b (codes "^") → d ≡ with_name c (codes "*")
    → e ≡ with_name d (codes "?") → f ≡ with_name e (codes "@") → f ≡ predefined
five_put a b c d e f none is_b is_c is_d is_e is_f =
    is_f ∙ ap (λ t. with_name t (codes "@")) (is_e ∙ ap (λ t. with_name t (codes "?")) (is_d ∙ ap (λ t. with_name t (codes "*"))
    (is_c ∙ ap (λ t. with_name t (codes "^")) (is_b ∙ ap (λ t. with_name t (codes "_")) none))))

one_longer : (table : List (List ℕ)) (name : List ℕ) → length (with_name table name) ≤ length table + 1
one_longer table name =
    elim (cases_Bool (has_name table name)) [
      | inl known ↦ simp known (omega arith)
      | inr new ↦ simp new (omega (arith, length-append table (name ∷ [])))
    ]

-- a label that was put into a table with room for it
pub put_label : (before after : List (List ℕ)) (text : List ℕ) (place : ℕ) → (place ≡ 65535 → ⊥) → length before ≤ 65535 → place ≡ length before
    → after ≡ with_name before text → label_fault text ≡ None → IsLabelTable before → (length after ≤ 65535) × IsLabelTable after
put_label before after text place room most at is none table =
    rw is (omega (arith, room, most, at, one_longer before text), with_label before text table (is_label_without_fault text none))
