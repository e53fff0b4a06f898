use Rattle.std.proofs.Common.{◌≡◌, true, List, [], ◌∷◌, Some, refl}
use Rattle.std.specs.Prelude.{is_some}
use Rattle.text_spec.specs.Texts.{Placed}
use Rattle.world_spec.specs.declared.tasks.TaskVerb.{TaskVerb}
use Rattle.world_spec.specs.declared.tasks.TraceWay.TheVariants as TraceWay
use Rattle.world_spec.specs.declared.tasks.TaskCall.{TaskCall}
use Rattle.verb_spec.specs.declared.CallVerb.TheVariants as CallVerb
use Rattle.verb_spec.specs.declared.Value.{Value}
use Rattle.verb_spec.specs.TaskVerbs.{task_kinds, task_call_from, task_spoken}
use Rattle.verb_spec.proofs.Fitting.{all_fit, is_value_kind}
use Rattle.verb_spec.proofs.Making.{IsMade, holds_of_made}
use Rattle.std.specs.List.{list_all}

abbrev pub IsMadeTask : TaskVerb → List Value → TaskCall → Type 0
IsMadeTask verb values call = IsMade (CallVerb.Task verb) values (task_spoken call)

-- a row for each verb: a call on tasks that values make is told by them
pub task_made : (verb : TaskVerb) (ws : List Placed) (values : List Value) (call : TaskCall) → all_fit (task_kinds verb ws) values ≡ true
    → task_call_from verb values ≡ Some call → IsMadeTask verb values call
task_made TaskVerb.Relabel ws (Value.Label l ∷ []) call fit is =
    holds_of_made (IsMadeTask TaskVerb.Relabel _) (TaskCall.Relabel l) call (record { named = refl; word = refl; says = refl; alike = λ a b. refl }) is
task_made TaskVerb.Drop ws (Value.Capability cap ∷ []) call fit is =
    holds_of_made (IsMadeTask TaskVerb.Drop _) (TaskCall.DropCap cap) call (record { named = refl; word = refl; says = refl; alike = λ a b. refl }) is
task_made TaskVerb.Kill ws (Value.Task pid ∷ Value.Signal sig ∷ []) call fit is =
    holds_of_made (IsMadeTask TaskVerb.Kill _) (TaskCall.Kill pid sig) call (record { named = refl; word = refl; says = refl; alike = λ a b. refl }) is
task_made TaskVerb.Take ws [] call fit is =
    holds_of_made (IsMadeTask TaskVerb.Take _) TaskCall.Take call (record { named = refl; word = refl; says = refl; alike = λ a b. refl }) is
task_made TaskVerb.Trace ws (Value.TraceWay TraceWay.Read ∷ Value.Task pid ∷ []) call fit is =
    holds_of_made (IsMadeTask TaskVerb.Trace _) (TaskCall.TraceRead pid) call (record { named = refl; word = refl; says = refl; alike = λ a b. refl }) is
task_made TaskVerb.Trace ws (Value.TraceWay TraceWay.Attach ∷ Value.Task pid ∷ []) call fit is =
    holds_of_made (IsMadeTask TaskVerb.Trace _) (TaskCall.TraceAttach pid) call (record { named = refl; word = refl; says = refl; alike = λ a b. refl }) is
task_made verb ws values call fit is = absurd cc

-- a row for each verb: values that fit make a call
pub task_found : (verb : TaskVerb) (ws : List Placed) (values : List Value) → all_fit (task_kinds verb ws) values ≡ true
    → is_some (task_call_from verb values) ≡ true
task_found TaskVerb.Relabel ws (Value.Label l ∷ []) fit = refl
task_found TaskVerb.Drop ws (Value.Capability cap ∷ []) fit = refl
task_found TaskVerb.Kill ws (Value.Task pid ∷ Value.Signal sig ∷ []) fit = refl
task_found TaskVerb.Take ws [] fit = refl
task_found TaskVerb.Trace ws (Value.TraceWay TraceWay.Read ∷ Value.Task pid ∷ []) fit = refl
task_found TaskVerb.Trace ws (Value.TraceWay TraceWay.Attach ∷ Value.Task pid ∷ []) fit = refl
task_found verb ws values fit = absurd cc

-- and the words behind a verb are read as values
pub task_kinds_are_values : (verb : TaskVerb) (ws : List Placed) → list_all is_value_kind (task_kinds verb ws) ≡ true
task_kinds_are_values TaskVerb.Relabel ws = refl
task_kinds_are_values TaskVerb.Drop ws = refl
task_kinds_are_values TaskVerb.Kill ws = refl
task_kinds_are_values TaskVerb.Take ws = refl
task_kinds_are_values TaskVerb.Trace ws = refl
