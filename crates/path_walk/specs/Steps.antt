use Rattle.std.specs.Prelude.{ℕ, true, List, [], ◌∷◌, Option, Some, None}
use Rattle.tree_spec.specs.Trees.{Nodes, node_named, is_file}
use Rattle.world_spec.specs.declared.Why.TheVariants as Why
use Rattle.world_spec.specs.declared.Part.{Part}
use Rattle.world_spec.specs.declared.walks.Walker.{Walker}
use Rattle.world_spec.specs.Walks.{asks_to_search}

-- what the look-up of a name is refused for, where a name follows
abbrev pub look_up : Nodes → Option ℕ → Part
look_up nodes None = Part.Refuses true Why.NoSuchName
look_up nodes (Some k) = Part.Refuses (is_file nodes k) Why.NotDirectory

-- one step of a walk, before what comes behind it
abbrev pub step_parts : Walker → Nodes → ℕ → List ℕ → List Part
step_parts who nodes d name = asks_to_search who nodes d ∷ look_up nodes (node_named nodes d name) ∷ []
