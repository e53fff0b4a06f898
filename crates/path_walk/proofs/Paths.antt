use Rattle.std.proofs.Common.{◌≡◌, ◌∙◌, ◌-◌, ◌≤◌, ℕ, suc, List, [], ◌∷◌, Option, Some, None, length, get_or, refl, sym, ap, arith, is_some}
use Rattle.std.proofs.lemmas.Bool.{false≢true}
use Rattle.world_spec.specs.declared.walks.Walker.{Walker}
use Rattle.tree_spec.specs.Trees.{Nodes, node_named}
use Rattle.world_spec.specs.Walks.{onward, but_last, last_name, path_directory, path_node, walk_on, walk_to_directory}

pub last_is : (names : List (List ℕ)) (last : List ℕ) → 1 ≤ length names → get_or names (length names - 1) last ≡ last_name names
last_is [] last some = absurd (omega (arith, some))
last_is (n ∷ []) last some = refl
last_is (n ∷ m ∷ ns) last some =
    let behind : length (n ∷ m ∷ ns) - 1 ≡ suc (length (m ∷ ns) - 1) = omega arith in
    ap (λ i. get_or (n ∷ m ∷ ns) i last) behind ∙ last_is (m ∷ ns) last (omega arith)

by_names : (nodes : Nodes) (names : List (List ℕ)) → 1 ≤ length names → onward None (path_directory nodes names) (λ d. node_named nodes d (last_name names)) ≡ path_node nodes names
by_names nodes [] some = absurd (omega (arith, some))
by_names nodes (n ∷ ns) some = refl

-- the node of a path by its last name
pub node_is : (nodes : Nodes) (names : List (List ℕ)) (last : List ℕ) (dir o : Option ℕ) → 1 ≤ length names → last ≡ get_or names (length names - 1) last
    → dir ≡ path_directory nodes names → o ≡ onward None dir (λ d. node_named nodes d last) → o ≡ path_node nodes names
node_is nodes names last dir o some is leads next =
    next ∙ (λ i. onward None (leads i) (λ d. node_named nodes d ((is ∙ last_is names last some) i))) ∙ by_names nodes names some

-- the walk to the directory of a path that has a name
pub walk_is : (who : Walker) (nodes : Nodes) (names : List (List ℕ)) → 1 ≤ length names → walk_on who nodes 0 (but_last names) ≡ walk_to_directory who nodes names
walk_is who nodes [] some = absurd (omega (arith, some))
walk_is who nodes (n ∷ ns) some = refl

-- where a path leads to nothing, its last name is free in its directory
pub last_is_free : (nodes : Nodes) (names : List (List ℕ)) (d : ℕ) → path_directory nodes names ≡ Some d → path_node nodes names ≡ None
    → node_named nodes d (last_name names) ≡ None
last_is_free nodes [] d leads none = absurd (false≢true (ap is_some (sym none)))
last_is_free nodes (n ∷ ns) d leads none = sym (ap (λ o. onward None o (λ k. node_named nodes k (last_name (n ∷ ns)))) leads) ∙ none
