use Rattle.std.proofs.Common.{◌≡◌, ◌<◌, ◌≤◌, ◌+◌, ℕ, List, [], ◌∷◌, ◌++◌, drop, get_or, length, map, refl, sym, ap, ◌∙◌, Ok, Err, append_assoc}
use Rattle.std.specs.Prelude.{Result}
use Rattle.std.proofs.lemmas.List.{append-nil, at_drop_more, at_drop_all}
use Rattle.smack_base.specs.declared.rule_op.RuleOp.{RuleOp}
use Rattle.file_spec.specs.declared.Refusal.{Refusal}
use Rattle.file_spec.specs.Writes.{NamedWrite}
use Rattle.file_spec.specs.Files.{op_of, ops_of, with_first_op}

-- writes that stand before those that are made
abbrev pub put_ops : List RuleOp → Result (List RuleOp) Refusal → Result (List RuleOp) Refusal
put_ops front (Ok ops) = Ok (front ++ ops)
put_ops front (Err e) = Err e

put_none : (made : Result (List RuleOp) Refusal) → put_ops [] made ≡ made
put_none (Ok ops) = refl
put_none (Err e) = refl

put_one : (ops : List RuleOp) (op : RuleOp) (more : Result (List RuleOp) Refusal) → put_ops (ops ++ op ∷ []) more ≡ put_ops ops (with_first_op (Ok op) more)
put_one ops op (Ok more) = ap (λ (t : List RuleOp). Ok t) (append_assoc ops (op ∷ []) more)
put_one ops op (Err e) = refl

module _ {W : Type 0} (named : W → NamedWrite) (table : List (List ℕ)) (text : List ℕ) (writes : List W) where
  abbrev pub made : List W → Result (List RuleOp) Refusal
  made ws = ops_of table text (map named ws)

  pub makes_first : put_ops [] (made writes) ≡ made writes
  makes_first = put_none (made writes)

  -- the front of the writes was made, and one write more
  pub makes_more : (ops : List RuleOp) (i : ℕ) (d : W) (op : RuleOp) → i < length writes → Ok op ≡ op_of table text (named (get_or writes i d))
      → put_ops ops (made (drop i writes)) ≡ made writes → put_ops (ops ++ op ∷ []) (made (drop (i + 1) writes)) ≡ made writes
  makes_more ops i d op within is so_far =
      put_one ops op (made (drop (i + 1) writes)) ∙ ap (λ r. put_ops ops (with_first_op r (made (drop (i + 1) writes)))) is
      ∙ sym (ap (put_ops ops) (at_drop_more made writes i d within)) ∙ so_far

  -- a write with a label that the table lacks
  pub makes_end : (ops : List RuleOp) (i : ℕ) (d : W) (e : Refusal) → i < length writes → Err e ≡ op_of table text (named (get_or writes i d))
      → put_ops ops (made (drop i writes)) ≡ made writes → made writes ≡ Err e
  makes_end ops i d e within is so_far =
      sym so_far ∙ ap (put_ops ops) (at_drop_more made writes i d within) ∙ sym (ap (λ r. put_ops ops (with_first_op r (made (drop (i + 1) writes)))) is)

  pub makes_all : (ops : List RuleOp) (i : ℕ) → length writes ≤ i → put_ops ops (made (drop i writes)) ≡ made writes → made writes ≡ Ok ops
  makes_all ops i end so_far =
      sym so_far ∙ ap (put_ops ops) (at_drop_all made writes i end) ∙ ap (λ (t : List RuleOp). Ok t) (append-nil ops)
