use Rattle.std.proofs.Common.{◌≡◌, ℕ, ◌<◌, refl, ap, sym, ◌∙◌, arith}
use Rattle.std.specs.Prelude.{Some}
use Rattle.smack_base.specs.declared.modes.Modes.{Modes}
use Rattle.smack_base.specs.declared.rule_op.RuleOp.{RuleOp}
use Rattle.smack_base.specs.declared.rule_op.RuleOp.TheVariants as RuleOp
use Rattle.rule_word.specs.Layout.{modes_number, packed_word, op_word, IsPackable, head_word, IsHead}
use Rattle.rule_word.specs.Fields.{tag_in, first_in, second_in, allow_in, deny_in, op_of_fields, op_in, task_in, seq_in, len_in}
use Rattle.rule_word.proofs.Numbers.{modes_few, modes_back}

module _ (tag first second allow deny : ℕ) where
  -- the fields of a word are those that it was made of
  fields_back : tag < 16 → first < 65536 → second < 65536 → allow < 256 → deny < 256
      → op_in (packed_word tag first second allow deny) ≡ op_of_fields tag first second allow deny
  fields_back t f s a d =
      let tag_is : tag_in (packed_word tag first second allow deny) ≡ tag = omega arith in
      let first_is : first_in (packed_word tag first second allow deny) ≡ first = omega arith in
      let second_is : second_in (packed_word tag first second allow deny) ≡ second = omega arith in
      let allow_is : allow_in (packed_word tag first second allow deny) ≡ allow = omega arith in
      let deny_is : deny_in (packed_word tag first second allow deny) ≡ deny = omega arith in
      λ i. op_of_fields (tag_is i) (first_is i) (second_is i) (allow_is i) (deny_is i)

few : (m : Modes) → modes_number m < 256
few m = let f = modes_few m in omega arith

-- the fields of the word of a write say the write
pub op_back : (op : RuleOp) → IsPackable op → op_in (op_word op) ≡ Some op
op_back (RuleOp.Set s o m) p =
    let a = p.0 in let b = p.1 in
    fields_back 1 s.0 o.0 (modes_number m) 0 (omega arith) (omega arith) (omega arith) (few m) (omega arith)
    ∙ ap (λ x. Some (RuleOp.Set s o x)) (modes_back m)
op_back (RuleOp.Change s o allow deny) p =
    let a = p.0 in let b = p.1 in
    fields_back 2 s.0 o.0 (modes_number allow) (modes_number deny) (omega arith) (omega arith) (omega arith) (few allow) (few deny)
    ∙ (λ i. Some (RuleOp.Change s o (modes_back allow i) (modes_back deny i)))
op_back (RuleOp.Revoke s) p = fields_back 3 s.0 0 0 0 (omega arith) (omega arith) (omega arith) (omega arith) (omega arith)
op_back RuleOp.OnlyClear p = refl
op_back (RuleOp.OnlyAdd l) p = fields_back 5 l.0 0 0 0 (omega arith) (omega arith) (omega arith) (omega arith) (omega arith)
op_back (RuleOp.Ambient l) p = fields_back 6 l.0 0 0 0 (omega arith) (omega arith) (omega arith) (omega arith) (omega arith)
op_back (RuleOp.Ptrace n) p = fields_back 7 0 0 n 0 (omega arith) (omega arith) (omega arith) (omega arith) (omega arith)
op_back (RuleOp.Logging n) p = fields_back 8 0 0 n 0 (omega arith) (omega arith) (omega arith) (omega arith) (omega arith)

-- writes with one word are one
pub op_one : (a b : RuleOp) → IsPackable a → IsPackable b → op_word a ≡ op_word b → Some a ≡ Some b
op_one a b p q e = sym (op_back a p) ∙ (ap op_in e ∙ op_back b q)

module _ (task seq len : ℕ) where
  -- the fields of the word of a head are those of the head
  pub head_back : IsHead task seq len
      → (task_in (head_word task seq len) ≡ task) × (seq_in (head_word task seq len) ≡ seq) × (len_in (head_word task seq len) ≡ len)
  head_back h = let a = h.0 in let b = h.1 in let c = h.2 in (omega arith, omega arith, omega arith)
