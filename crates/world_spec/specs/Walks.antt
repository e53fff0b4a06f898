use Rattle.std.specs.Prelude.{ℕ, List, [], ◌∷◌, ◌++◌, Option, Some, None, is_none, length, take, ◌-◌}
use Rattle.rules_spec.specs.AskedModes.{execute}
use Rattle.tree_spec.specs.Trees.{Nodes, node_named, node_label, is_file}
use Rattle.world_spec.specs.declared.Why.{Why}
use Rattle.world_spec.specs.declared.Question.TheVariants as Question
use Rattle.world_spec.specs.declared.Part.{Part}
use Rattle.world_spec.specs.declared.walks.Walker.{Walker}
use Rattle.world_spec.specs.Questions.{if_found}

-- what comes of a node, where there is one
abbrev pub onward : {A : Type 0} → A → Option ℕ → (ℕ → A) → A
onward none None next = none
onward none (Some n) next = next n

-- the node that some names lead to from a node, where there is one
abbrev pub node_of : Nodes → ℕ → List (List ℕ) → Option ℕ
node_of nodes d [] = Some d
node_of nodes d (n ∷ ns) = onward None (node_named nodes d n) (λ k. node_of nodes k ns)

-- the names but the last
abbrev pub but_last : List (List ℕ) → List (List ℕ)
but_last names = take (length names - 1) names

-- the last name; no byte where there is no name
abbrev pub last_name : List (List ℕ) → List ℕ
last_name [] = []
last_name (n ∷ []) = n
last_name (n ∷ m ∷ ns) = last_name (m ∷ ns)

-- the directory that has the last name of a path, where there is one
abbrev pub path_directory : Nodes → List (List ℕ) → Option ℕ
path_directory nodes names = node_of nodes 0 (but_last names)

-- the node of a path, where there is one: the root, or that of the last name in its directory
abbrev pub path_node : Nodes → List (List ℕ) → Option ℕ
path_node nodes [] = Some 0
path_node nodes (n ∷ ns) = onward None (path_directory nodes (n ∷ ns)) (λ d. node_named nodes d (last_name (n ∷ ns)))

-- a task asks, with its own label, to search a directory
abbrev pub asks_to_search : Walker → Nodes → ℕ → Part
asks_to_search who nodes d = Part.Asks (Question.Full who.by who.label (node_label nodes d) execute)

-- The look-up of a name behind which a name follows. It refuses where it finds nothing, or a file.
abbrev pub looked_up : Nodes → Option ℕ → (ℕ → List Part) → List Part
looked_up nodes found more = if_found found Why.NoSuchName (λ k. Part.Refuses (is_file nodes k) Why.NotDirectory ∷ more k)

-- The walk from a directory through directories. Each is searched before the next name is looked up, so nothing is told
-- of a name in a directory that may not be searched.
abbrev pub walk_on : Walker → Nodes → ℕ → List (List ℕ) → List Part
walk_on who nodes d [] = asks_to_search who nodes d ∷ []
walk_on who nodes d (n ∷ ns) = asks_to_search who nodes d ∷ looked_up nodes (node_named nodes d n) (λ k. walk_on who nodes k ns)

-- the walk to the directory that has the last name of a path, which ends with the search there; `/` has no such name
abbrev pub walk_to_directory : Walker → Nodes → List (List ℕ) → List Part
walk_to_directory who nodes [] = []
walk_to_directory who nodes (n ∷ ns) = walk_on who nodes 0 (but_last (n ∷ ns))

-- the walk of a whole path: the same, and then the look-up of the last name; the node of the path itself is not searched
abbrev pub walk_to_node : Walker → Nodes → List (List ℕ) → List Part
walk_to_node who nodes names = walk_to_directory who nodes names ++ Part.Refuses (is_none (path_node nodes names)) Why.NoSuchName ∷ []
