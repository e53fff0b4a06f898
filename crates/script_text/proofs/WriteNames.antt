use Rattle.std.proofs.Common.{◌≡◌, ◌≤◌, ◌<◌, ◌+◌, ℕ, List, [], ◌∷◌, ◌++◌, length, length-append, drop, get_or, refl, sym, ap, ◌∙◌, arith, inl, inr}
use Rattle.std.proofs.lemmas.Bool.{cases_Bool}
use Rattle.std.proofs.lemmas.List.{drop_more}
use Rattle.std.proofs.lemmas.Grind.{fold-append}
use Rattle.text_spec.specs.Names.{with_name, with_names, has_name}
use Rattle.file_spec.specs.Writes.{labels_named}
use Rattle.smackfs.specs.declared.named_op.NamedOp.{NamedOp}
use Rattle.smackfs.specs.Named.{named_write}
use Rattle.script_text.specs.WrittenTexts.{names_of_ops}

-- a table with one more name is no shorter
pub with_name-longer : (table : List (List ℕ)) (name : List ℕ) → length table ≤ length (with_name table name)
with_name-longer table name =
    elim (cases_Bool (has_name table name)) [
      | inl e ↦ simp e (omega arith)
      | inr e ↦ simp e (omega (arith, length-append table (name ∷ [])))
    ]

pub with_names-longer : (table names : List (List ℕ)) → length table ≤ length (with_names table names)
with_names-longer table [] = omega arith
with_names-longer table (n ∷ ns) = omega (arith, with_name-longer table n, with_names-longer (with_name table n) ns)

-- the names of the writes left, put into the one table, make what those of all writes make of the other
abbrev pub AddsOps : List (List ℕ) → List NamedOp → ℕ → List (List ℕ) → Type 0
AddsOps table ops i first = with_names table (names_of_ops (drop i ops)) ≡ with_names first (names_of_ops ops)

-- one more write
pub ops_more : (table table' first : List (List ℕ)) (ops : List NamedOp) (i : ℕ) (op : NamedOp) → i < length ops → AddsOps table ops i first
    → table' ≡ with_names table (labels_named (named_write (get_or ops i op))) → AddsOps table' ops (i + 1) first
ops_more table table' first ops i op within adds put =
    let cut : names_of_ops (drop i ops) ≡ labels_named (named_write (get_or ops i op)) ++ names_of_ops (drop (i + 1) ops) = ap names_of_ops (drop_more ops i op within) in
    ap (λ (t : List (List ℕ)). with_names t (names_of_ops (drop (i + 1) ops))) put
    ∙ sym (fold-append with_name table (labels_named (named_write (get_or ops i op))) (names_of_ops (drop (i + 1) ops)))
    ∙ ap (with_names table) (sym cut) ∙ adds

-- the names of a write that are too many make all too many
pub ops_many : (table first : List (List ℕ)) (ops : List NamedOp) (i : ℕ) (op : NamedOp) (most : ℕ) → i < length ops → AddsOps table ops i first
    → most < length (with_names table (labels_named (named_write (get_or ops i op)))) → most < length (with_names first (names_of_ops ops))
ops_many table first ops i op most within adds many =
    let next = ops_more table _ first ops i op within adds refl in
    rw (← next)
    (omega (arith, many, with_names-longer (with_names table (labels_named (named_write (get_or ops i op)))) (names_of_ops (drop (i + 1) ops))))
