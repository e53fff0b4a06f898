use Rattle.std.proofs.Common.{◌≡◌, Bool, true, false, ◌&&◌, List, [], ◌∷◌, refl, sym, ◌∙◌, inl, inr}
use Rattle.std.specs.Prelude.{nat_eq}
use Rattle.std.specs.List.{AllByRecursion, IsDistinct}
use Rattle.std.proofs.lemmas.Bool.{cases_Bool, eqb-true}
use Rattle.std.proofs.lemmas.Map.Keys.{IsDistinct-cons, IsDistinct-head, IsDistinct-tail}
use Rattle.smack_base.specs.declared.rule_op.Pair.{Pair}
use Rattle.rules_spec.specs.Creds.{with_self_rule, with_self_rules}
use Rattle.task_creds.specs.SelfRules.{are_of_one_pair, ArePairsApart}

-- no rule is of the pair of this one
abbrev HasNone : Pair → List Pair → Type 0
HasNone p rules = AllByRecursion (λ q. are_of_one_pair p q ≡ false) rules

none_with : (p : Pair) (rules : List Pair) (rule : Pair) → are_of_one_pair p rule ≡ false → HasNone p rules → HasNone p (with_self_rule rules rule)
none_with p [] rule other none = (other, tt)
none_with p (q ∷ qs) rule other none =
    elim (cases_Bool (are_of_one_pair q rule)) [
      | inl e ↦ simp e (other, none.1)
      | inr e ↦ simp e (none.0, none_with p qs rule other none.1)
    ]

both_true : (a b : Bool) → (a && b) ≡ true → (a ≡ true) × (b ≡ true)
both_true true true is = (refl, refl)
both_true true false is = cc
both_true false b is = cc

-- rules of one pair are alike to each other rule
alike : (p q r : Pair) → are_of_one_pair p q ≡ true → are_of_one_pair p r ≡ are_of_one_pair q r
alike p q r one =
    let both = both_true (nat_eq p.s.0 q.s.0) (nat_eq p.o.0 q.o.0) one in
    let subjects : p.s.0 ≡ q.s.0 = eqb-true p.s.0 q.s.0 both.0 in
    let objects : p.o.0 ≡ q.o.0 = eqb-true p.o.0 q.o.0 both.1 in
    λ i. nat_eq (subjects i) r.s.0 && nat_eq (objects i) r.o.0

none_alike : (p q : Pair) (rules : List Pair) → are_of_one_pair p q ≡ true → HasNone p rules → HasNone q rules
none_alike p q [] one none = tt
none_alike p q (r ∷ rs) one none = (sym (alike p q r one) ∙ none.0, none_alike p q rs one none.1)

pub apart_none : ArePairsApart []
unfolding IsDistinct
apart_none = tt

apart_with : (rules : List Pair) (rule : Pair) → ArePairsApart rules → ArePairsApart (with_self_rule rules rule)
apart_with [] rule apart = IsDistinct-cons are_of_one_pair rule [] tt apart
apart_with (q ∷ qs) rule apart =
    let none = IsDistinct-head are_of_one_pair q qs apart in
    let rest = IsDistinct-tail are_of_one_pair q qs apart in
    elim (cases_Bool (are_of_one_pair q rule)) [
      | inl e ↦ simp e (IsDistinct-cons are_of_one_pair rule qs (none_alike q rule qs e none) rest)
      | inr e ↦ simp e (IsDistinct-cons are_of_one_pair q (with_self_rule qs rule) (none_with q qs rule e none) (apart_with qs rule rest))
    ]

-- rules that are of a pair of their own each stay so when some are put among them
pub apart_with_more : (more rules : List Pair) → ArePairsApart rules → ArePairsApart (with_self_rules rules more)
apart_with_more [] rules apart = apart
apart_with_more (p ∷ ps) rules apart = apart_with_more ps (with_self_rule rules p) (apart_with rules p apart)
