use Rattle.std.specs.Prelude.{ℕ, true, List, [], ◌∷◌, Option, Some, None}
use Rattle.smack_base.specs.declared.modes.Modes.{Modes}
use Rattle.smack_base.specs.declared.ids.LabelId.{LabelId}
use Rattle.rules_spec.specs.Creds.{Creds}
use Rattle.world_spec.specs.declared.Why.{Why}
use Rattle.world_spec.specs.declared.Question.{Question}
use Rattle.world_spec.specs.declared.Question.TheVariants as Question
use Rattle.world_spec.specs.declared.Part.{Part}
use Rattle.world_spec.specs.declared.Part.TheVariants as Part

-- the label that a question is about
abbrev pub target_of : Question → LabelId
target_of (Question.Full by s o m) = o
target_of (Question.Attach by o) = o

-- a task with these credentials asks with its own label for modes on an object
abbrev pub asks_for : ℕ → Creds → Modes → LabelId → Part
asks_for task c m o = Part.Asks (Question.Full task c.label o m)

-- the parts that go on with what a look-up found; where it found nothing the call is refused
abbrev pub if_found : {A : Type 0} → Option A → Why → (A → List Part) → List Part
if_found None why more = Part.Refuses true why ∷ []
if_found (Some x) why more = more x
