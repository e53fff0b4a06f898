use Rattle.std.proofs.Common.{◌≡◌, ℕ, true, List, [], ◌∷◌, Option, Some, None, refl, ap, ap₂, ◌∙◌, subst}
use Rattle.std.specs.Prelude.{is_some, map}
use Rattle.std.specs.Option.{option_map}
use Rattle.std.specs.List.{list_all}
use Rattle.text_spec.specs.Texts.{Placed}
use Rattle.log_spec.specs.Shown.{spell, spelled}
use Rattle.world_spec.specs.declared.Call.{Call}
use Rattle.verb_spec.specs.declared.CallVerb.{CallVerb}
use Rattle.verb_spec.specs.declared.WordKind.{WordKind}
use Rattle.verb_spec.specs.declared.Value.{Value}
use Rattle.verb_spec.specs.Values.{value_in, with_value, values_behind, value_shown}
use Rattle.verb_spec.specs.TaskVerbs.{task_call_from}
use Rattle.verb_spec.specs.TreeVerbs.{tree_call_from}
use Rattle.verb_spec.specs.Verbs.{call_kinds, call_from, from_values, made_call, spoken}
use Rattle.verb_spec.proofs.Fitting.{all_fit, is_value_kind, mapped, value_parts, values_fit}
use Rattle.verb_spec.proofs.Making.{IsMade}
use Rattle.verb_spec.proofs.TaskVerbs.{task_made, task_found, task_kinds_are_values}
use Rattle.verb_spec.proofs.TreeVerbs.{tree_made, tree_found, tree_kinds_are_values}

abbrev pub IsMadeCall : CallVerb → List Value → Call → Type 0
IsMadeCall verb values call = IsMade verb values (spoken call)

is_mapped : {A : Type 0} (a : Option A) (make : A → Call) → is_some a ≡ true → is_some (option_map make a) ≡ true
is_mapped None make found = cc
is_mapped (Some x) make found = refl

-- values that fit the kinds of a verb's words make a call
pub call_found : (verb : CallVerb) (ws : List Placed) (values : List Value) → all_fit (call_kinds verb ws) values ≡ true
    → is_some (call_from verb values) ≡ true
call_found (CallVerb.Task verb) ws values fit = is_mapped (task_call_from verb values) _ (task_found verb ws values fit)
call_found (CallVerb.Tree verb) ws values fit = is_mapped (tree_call_from verb values) _ (tree_found verb ws values fit)

-- the words behind the verb of an object call are read as values
pub kinds_are_values : (verb : CallVerb) (ws : List Placed) → list_all is_value_kind (call_kinds verb ws) ≡ true
kinds_are_values (CallVerb.Task verb) ws = task_kinds_are_values verb ws
kinds_are_values (CallVerb.Tree verb) ws = tree_kinds_are_values verb ws

-- a call that values make is told by them
pub call_made : (verb : CallVerb) (ws : List Placed) (values : List Value) (call : Call) → all_fit (call_kinds verb ws) values ≡ true
    → call_from verb values ≡ Some call → IsMadeCall verb values call
call_made (CallVerb.Task verb) ws values call fit is =
    let parts = mapped (task_call_from verb values) _ call is in
    subst (IsMadeCall (CallVerb.Task verb) values) parts.2 (task_made verb ws values parts.0 fit parts.1)
call_made (CallVerb.Tree verb) ws values call fit is =
    let parts = mapped (tree_call_from verb values) _ call is in
    subst (IsMadeCall (CallVerb.Tree verb) values) parts.2 (tree_made verb ws values parts.0 fit parts.1)

-- the values behind a verb that make a call
pub values_of_made : (make : List Value → Option Call) (values : Option (List Value)) (call : Call) → from_values make values ≡ Some call
    → (vs : List Value) × (values ≡ Some vs) × (make vs ≡ Some call)
values_of_made make None call is = absurd cc
values_of_made make (Some vs) call is = (vs, refl, is)

-- the words that show some values
abbrev pub shown_behind : List (List ℕ) → List (List ℕ) → List Value → List Placed
shown_behind labels names values = map (λ w. record { at = 0; bytes = w }) (spelled labels names (map value_shown values))

-- Where each value that a word of a kind is read as is read again from the word that shows it, the words that show the
-- values that words are read as are read as the same values.
module _ (labels names : List (List ℕ)) (again : (kind : WordKind) (word : List ℕ) (value : Value) → value_in labels names kind word ≡ Some value → value_in labels names kind (spell labels names (value_shown value)) ≡ Some value) where
  pub values_again : (kinds : List WordKind) (ws : List Placed) (values : List Value) → values_behind labels names kinds ws ≡ Some values
      → values_behind labels names kinds (shown_behind labels names values) ≡ Some values
  values_again [] ws values is = is
  values_again (kind ∷ kinds) [] values is = absurd cc
  values_again (kind ∷ kinds) (w ∷ ws) values is =
      let parts = value_parts (value_in labels names kind w.bytes) (values_behind labels names kinds ws) values is in
      subst (λ vs. values_behind labels names (kind ∷ kinds) (shown_behind labels names vs) ≡ Some vs) parts.4
      (ap₂ with_value (again kind w.bytes parts.0 parts.2) (values_again kinds ws parts.1 parts.3))

  -- the words that show a call that words make, make it
  pub made_again : (verb : CallVerb) (ws : List Placed) (call : Call) → made_call labels names verb ws ≡ Some call
      → made_call labels names verb (shown_behind labels names (spoken call).values) ≡ Some call
  made_again verb ws call is =
      let parts = values_of_made (call_from verb) (values_behind labels names (call_kinds verb ws) ws) call is in
      let made = call_made verb ws parts.0 call (values_fit labels names (call_kinds verb ws) ws parts.0 parts.1) parts.2 in
      let told = shown_behind labels names (spoken call).values in
      ap (from_values (call_from verb))
      (ap (λ kinds. values_behind labels names kinds told) (made.alike told ws)
      ∙ ap (λ vs. values_behind labels names (call_kinds verb ws) (shown_behind labels names vs)) made.says
      ∙ values_again (call_kinds verb ws) ws parts.0 parts.1)
      ∙ parts.2
