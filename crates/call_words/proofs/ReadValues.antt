use Rattle.std.proofs.Common.{◌≡◌, List, [], ◌∷◌, ◌++◌, append_assoc, refl, ap, Option, Some, None}
use Rattle.verb_spec.specs.declared.Value.{Value}
use Rattle.verb_spec.specs.Values.{with_value}

-- values, and those behind them where these are known
abbrev pub behind : List Value → Option (List Value) → Option (List Value)
behind values None = None
behind values (Some more) = Some (values ++ more)

-- one more value
pub one_more : (values : List Value) (v : Value) (more : Option (List Value)) → behind (values ++ v ∷ []) more ≡ behind values (with_value (Some v) more)
one_more values v None = refl
one_more values v (Some more) = ap (λ (vs : List Value). Some vs) (append_assoc values (v ∷ []) more)
