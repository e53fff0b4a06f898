use Rattle.std.proofs.Common.{◌≡◌, ◌+◌, ◌<◌, ℕ, List, [], ◌∷◌, length}
use Rattle.std.proofs.lemmas.Bool.{leb-false}
use Rattle.rules_spec.specs.Rulings.{Ruling}
use Rattle.rules_spec.specs.Creds.{Creds}
use Rattle.world_spec.specs.declared.trees.TreeCall.TheVariants as TreeCall
use Rattle.world_spec.specs.Worlds.{World, most_nodes}
use Rattle.world_spec.specs.TreeCalls.{tree_asks}
use Rattle.world_state.specs.Judging.{Passes}

-- where a file is not refused, there is room for it
pub room_of_create : (w : World) (version : Ruling) (task : ℕ) (c : Creds) (path : List (List ℕ))
    → Passes (tree_asks w version task c (TreeCall.Create path)) → length w.files + 1 < most_nodes
room_of_create w version task c [] p = cc p.0
room_of_create w version task c (n ∷ []) p = leb-false most_nodes (length w.files + 1) p.1.1.0
room_of_create w version task c (n ∷ m ∷ ns) p = cc p.1.1.0
