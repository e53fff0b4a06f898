use Rattle.std.proofs.Common.{◌≤◌, Bool, List, length, not}
use Rattle.std.proofs.lemmas.List.Sums.{prefix_len-le-length}
use Rattle.std.specs.List.{position_or_len}
pub use Rattle.smack_base.proofs.Places.{no_place}

-- the place is within the list, or its end
pub place_within : {X : Type 0} (p : X → Bool) (xs : List X) → position_or_len p xs ≤ length xs
place_within p xs = prefix_len-le-length (λ x. not (p x)) xs
