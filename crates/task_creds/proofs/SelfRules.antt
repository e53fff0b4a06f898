use Rattle.std.proofs.Common.{◌≡◌, ◌≤◌, ◌<◌, ◌+◌, ℕ, Bool, true, false, cond, suc, List, [], ◌∷◌, ◌++◌, zero, length, get_or, take, refl, ap, arith, inl, inr, Some, None}
use Rattle.std.proofs.Math.ListN.{set}
use Rattle.std.specs.Prelude.{position}
use Rattle.std.specs.List.{position_or_len}
use Rattle.std.proofs.lemmas.Bool.{cases_Bool, ltb-true, ltb-false}
use Rattle.smack_base.specs.declared.ids.LabelId.{LabelId}
use Rattle.smack_base.specs.declared.rule_op.Pair.{Pair}
use Rattle.rules_spec.specs.Versions.{same_pair}
use Rattle.rules_spec.specs.Creds.{self_rule, with_self_rule, with_self_rules}

-- a rule of this pair
abbrev pub is_of : LabelId → LabelId → Pair → Bool
is_of s o p = same_pair p.s p.o s o

one_more : (n : ℕ) → 1 + n ≡ suc n
one_more n = omega arith

chosen : (known : Bool) (at place : ℕ) → Some at ≡ cond known (Some place) None → (known ≡ true) × (at ≡ place)
chosen true at place is = (refl, cc)
chosen false at place is = cc

not_chosen : (known : Bool) (place : ℕ) → None ≡ cond known (Some place) None → known ≡ false
not_chosen true place is = cc
not_chosen false place is = refl

rule_there : (s o : LabelId) (rules : List Pair) (at : ℕ) (d : Pair) → at ≡ position_or_len (is_of s o) rules → at < length rules
    → Some (get_or rules at d).m ≡ self_rule rules s o
rule_there s o [] at d is within = absurd (omega arith)
rule_there s o (p ∷ ps) at d is within =
    elim (cases_Bool (is_of s o p)) [
      | inl e ↦ let first : at ≡ 0 = simp e at is in rw first (simp e refl)
      | inr e ↦
          let more : at ≡ suc (position_or_len (is_of s o) ps) = simp (e, one_more) at is in
          rw more (simp e (rule_there s o ps (position_or_len (is_of s o) ps) d refl (omega arith)))
    ]

no_rule_there : (s o : LabelId) (rules : List Pair) → length rules ≤ position_or_len (is_of s o) rules → None ≡ self_rule rules s o
no_rule_there s o [] none = refl
no_rule_there s o (p ∷ ps) none =
    elim (cases_Bool (is_of s o p)) [
      | inl e ↦ let first : suc (length ps) ≤ 0 = simp e at none in absurd (omega arith)
      | inr e ↦
          let more : suc (length ps) ≤ suc (position_or_len (is_of s o) ps) = simp (e, one_more) at none in
          simp e (no_rule_there s o ps (omega arith))
    ]

set_there : (rule : Pair) (rules : List Pair) (at : ℕ) → at ≡ position_or_len (is_of rule.s rule.o) rules → at < length rules
    → set rules at rule ≡ with_self_rule rules rule
set_there rule [] at is within = absurd (omega arith)
set_there rule (p ∷ ps) at is within =
    elim (cases_Bool (is_of rule.s rule.o p)) [
      | inl e ↦ let first : at ≡ 0 = simp e at is in rw first (simp e refl)
      | inr e ↦
          let more : at ≡ suc (position_or_len (is_of rule.s rule.o) ps) = simp (e, one_more) at is in
          rw more (simp e (ap (λ t. p ∷ t) (set_there rule ps (position_or_len (is_of rule.s rule.o) ps) refl (omega arith))))
    ]

put_last : (rule : Pair) (rules : List Pair) → length rules ≤ position_or_len (is_of rule.s rule.o) rules
    → rules ++ rule ∷ [] ≡ with_self_rule rules rule
put_last rule [] none = refl
put_last rule (p ∷ ps) none =
    elim (cases_Bool (is_of rule.s rule.o p)) [
      | inl e ↦ let first : suc (length ps) ≤ 0 = simp e at none in absurd (omega arith)
      | inr e ↦
          let more : suc (length ps) ≤ suc (position_or_len (is_of rule.s rule.o) ps) = simp (e, one_more) at none in
          simp e (ap (λ t. p ∷ t) (put_last rule ps (omega arith)))
    ]

-- the self rule of a pair is the one at the first place of that pair
pub rule_at : (s o : LabelId) (rules : List Pair) (at : ℕ) (d : Pair) → Some at ≡ position (is_of s o) rules
    → Some (get_or rules at d).m ≡ self_rule rules s o
rule_at s o rules at d is =
    let here = chosen _ at (position_or_len (is_of s o) rules) is in
    let within : position_or_len (is_of s o) rules < length rules = ltb-true _ _ here.0 in
    rule_there s o rules at d here.1 (omega arith)

-- where the pair has no place, it has no rule
pub no_rule : (s o : LabelId) (rules : List Pair) → None ≡ position (is_of s o) rules → None ≡ self_rule rules s o
no_rule s o rules is = no_rule_there s o rules (ltb-false _ _ (not_chosen _ (position_or_len (is_of s o) rules) is))

-- a rule that is written over that of its pair
pub replaced : (rule : Pair) (rules : List Pair) (at : ℕ) → Some at ≡ position (is_of rule.s rule.o) rules
    → set rules at rule ≡ with_self_rule rules rule
replaced rule rules at is =
    let here = chosen _ at (position_or_len (is_of rule.s rule.o) rules) is in
    let within : position_or_len (is_of rule.s rule.o) rules < length rules = ltb-true _ _ here.0 in
    set_there rule rules at here.1 (omega arith)

-- a rule that is put last where its pair has none
pub added : (rule : Pair) (rules : List Pair) → None ≡ position (is_of rule.s rule.o) rules
    → rules ++ rule ∷ [] ≡ with_self_rule rules rule
added rule rules is = put_last rule rules (ltb-false _ _ (not_chosen _ (position_or_len (is_of rule.s rule.o) rules) is))

no_fewer_by_one : (rules : List Pair) (rule : Pair) → length rules ≤ length (with_self_rule rules rule)
no_fewer_by_one [] rule = omega arith
no_fewer_by_one (p ∷ ps) rule =
    elim (cases_Bool (is_of rule.s rule.o p)) [
      | inl e ↦ simp e (omega arith)
      | inr e ↦ simp e (omega (arith, no_fewer_by_one ps rule))
    ]

-- rules only become more
pub no_fewer : (more rules : List Pair) → length rules ≤ length (with_self_rules rules more)
no_fewer [] rules = omega arith
no_fewer (p ∷ ps) rules = omega (arith, no_fewer_by_one rules p, no_fewer ps (with_self_rule rules p))

-- nor do those behind the i-th make them fewer
pub no_fewer_behind : (rules more : List Pair) (i : ℕ) (d : Pair) → i < length more
    → length (with_self_rule (with_self_rules rules (take i more)) (get_or more i d)) ≤ length (with_self_rules rules more)
no_fewer_behind rules [] i d within = absurd (omega arith)
no_fewer_behind rules (p ∷ ps) zero d within = no_fewer ps (with_self_rule rules p)
no_fewer_behind rules (p ∷ ps) (suc i) d within = no_fewer_behind (with_self_rule rules p) ps i d (omega arith)
