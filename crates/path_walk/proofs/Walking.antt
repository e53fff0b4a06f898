use Rattle.std.proofs.Common.{◌≡◌, ◌∙◌, ◌<◌, ◌+◌, ℕ, List, [], ◌∷◌, ◌++◌, Option, Some, None, length, drop, get_or, refl, sym, ap, arith, append_assoc}
use Rattle.std.proofs.lemmas.Grind.{common_steps}
use Rattle.world_spec.specs.declared.Part.{Part}
use Rattle.world_spec.specs.declared.walks.Walker.{Walker}
use Rattle.tree_spec.specs.Trees.{Nodes, node_named}
use Rattle.world_spec.specs.Walks.{onward, node_of, asks_to_search, looked_up, walk_on}
use Rattle.path_walk.specs.Steps.{look_up, step_parts}

more : (names : List (List ℕ)) (i : ℕ) (name : List ℕ) → i < length names → name ≡ get_or names i name → drop i names ≡ name ∷ drop (i + 1) names
more names i name within is = grind (arith, common_steps)

look_up_first : (nodes : Nodes) (o : Option ℕ) (behind : ℕ → List Part) → looked_up nodes o behind ≡ look_up nodes o ∷ onward [] o behind
look_up_first nodes None behind = refl
look_up_first nodes (Some k) behind = refl

-- what a walk is at one of its names
at_name : (who : Walker) (nodes : Nodes) (d : ℕ) (names : List (List ℕ)) (i : ℕ) (name : List ℕ) (o : Option ℕ) → i < length names → name ≡ get_or names i name → o ≡ node_named nodes d name
    → walk_on who nodes d (drop i names) ≡ step_parts who nodes d name ++ onward [] o (λ k. walk_on who nodes k (drop (i + 1) names))
at_name who nodes d names i name o within is next =
    ap (walk_on who nodes d) (more names i name within is)
    ∙ ap (λ ps. asks_to_search who nodes d ∷ ps) (look_up_first nodes (node_named nodes d name) (λ k. walk_on who nodes k (drop (i + 1) names)))
    ∙ ap (λ p. step_parts who nodes d name ++ onward [] p (λ k. walk_on who nodes k (drop (i + 1) names))) (sym next)

pub node_at_name : (nodes : Nodes) (d : ℕ) (names : List (List ℕ)) (i : ℕ) (name : List ℕ) (o whole : Option ℕ) → i < length names → name ≡ get_or names i name → o ≡ node_named nodes d name
    → node_of nodes d (drop i names) ≡ whole → onward None o (λ k. node_of nodes k (drop (i + 1) names)) ≡ whole
node_at_name nodes d names i name o whole within is next leads =
    ap (λ p. onward None p (λ k. node_of nodes k (drop (i + 1) names))) next ∙ sym (ap (node_of nodes d) (more names i name within is)) ∙ leads

pub parts_at_name : (who : Walker) (nodes : Nodes) (d : ℕ) (names : List (List ℕ)) (i : ℕ) (name : List ℕ) (o : Option ℕ) (before after whole : List Part)
    → i < length names → name ≡ get_or names i name → o ≡ node_named nodes d name → after ≡ before ++ step_parts who nodes d name
    → before ++ walk_on who nodes d (drop i names) ≡ whole → after ++ onward [] o (λ k. walk_on who nodes k (drop (i + 1) names)) ≡ whole
parts_at_name who nodes d names i name o before after whole within is next put leads =
    ap (λ ps. ps ++ onward [] o (λ k. walk_on who nodes k (drop (i + 1) names))) put
    ∙ append_assoc before (step_parts who nodes d name) (onward [] o (λ k. walk_on who nodes k (drop (i + 1) names)))
    ∙ ap (λ ps. before ++ ps) (sym (at_name who nodes d names i name o within is next)) ∙ leads
