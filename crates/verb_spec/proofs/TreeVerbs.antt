use Rattle.std.proofs.Common.{◌≡◌, true, List, [], ◌∷◌, Some, refl}
use Rattle.std.specs.Prelude.{is_some}
use Rattle.std.specs.List.{list_all}
use Rattle.text_spec.specs.Texts.{Placed}
use Rattle.world_spec.specs.declared.trees.TreeVerb.{TreeVerb}
use Rattle.world_spec.specs.declared.trees.TreeCall.{TreeCall}
use Rattle.verb_spec.specs.declared.CallVerb.TheVariants as CallVerb
use Rattle.verb_spec.specs.declared.Value.{Value}
use Rattle.verb_spec.specs.TreeVerbs.{tree_kinds, tree_call_from, tree_spoken}
use Rattle.verb_spec.proofs.Fitting.{all_fit, is_value_kind}
use Rattle.verb_spec.proofs.Making.{IsMade, holds_of_made}

abbrev pub IsMadeTree : TreeVerb → List Value → TreeCall → Type 0
IsMadeTree verb values call = IsMade (CallVerb.Tree verb) values (tree_spoken call)

-- a row for each verb: a call on the tree that values make is told by them
pub tree_made : (verb : TreeVerb) (ws : List Placed) (values : List Value) (call : TreeCall) → all_fit (tree_kinds verb ws) values ≡ true
    → tree_call_from verb values ≡ Some call → IsMadeTree verb values call
tree_made TreeVerb.Create ws (Value.Path path ∷ []) call fit is =
    holds_of_made (IsMadeTree TreeVerb.Create _) (TreeCall.Create path) call (record { named = refl; word = refl; says = refl; alike = λ a b. refl }) is
tree_made TreeVerb.Unlink ws (Value.Path path ∷ []) call fit is =
    holds_of_made (IsMadeTree TreeVerb.Unlink _) (TreeCall.Unlink path) call (record { named = refl; word = refl; says = refl; alike = λ a b. refl }) is
tree_made TreeVerb.List ws (Value.Path path ∷ Value.Number at ∷ []) call fit is =
    holds_of_made (IsMadeTree TreeVerb.List _) (TreeCall.ListDir path at) call (record { named = refl; word = refl; says = refl; alike = λ a b. refl }) is
tree_made verb ws values call fit is = absurd cc

-- a row for each verb: values that fit make a call
pub tree_found : (verb : TreeVerb) (ws : List Placed) (values : List Value) → all_fit (tree_kinds verb ws) values ≡ true
    → is_some (tree_call_from verb values) ≡ true
tree_found TreeVerb.Create ws (Value.Path path ∷ []) fit = refl
tree_found TreeVerb.Unlink ws (Value.Path path ∷ []) fit = refl
tree_found TreeVerb.List ws (Value.Path path ∷ Value.Number at ∷ []) fit = refl
tree_found verb ws values fit = absurd cc

-- and the words behind a verb are read as values
pub tree_kinds_are_values : (verb : TreeVerb) (ws : List Placed) → list_all is_value_kind (tree_kinds verb ws) ≡ true
tree_kinds_are_values TreeVerb.Create ws = refl
tree_kinds_are_values TreeVerb.Unlink ws = refl
tree_kinds_are_values TreeVerb.List ws = refl
