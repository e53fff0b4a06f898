use Rattle.std.specs.Prelude.{Bool, List}
use Rattle.std.specs.List.{IsDistinct}
use Rattle.smack_base.specs.declared.rule_op.Pair.{Pair}
use Rattle.rules_spec.specs.Versions.{same_pair}

-- two rules of one pair
abbrev pub are_of_one_pair : Pair → Pair → Bool
are_of_one_pair p q = same_pair p.s p.o q.s q.o

-- each rule is of a pair of its own
abbrev pub ArePairsApart : List Pair → Type 0
ArePairsApart rules = IsDistinct are_of_one_pair rules
