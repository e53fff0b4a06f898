use Rattle.std.proofs.Common.{◌≡◌, ◌+◌, length}
use Rattle.tree_spec.specs.Listings.{told_length, behind_length}
use Rattle.tree_spec.proofs.listing.split_length.Given as goal

abbrev pub invariant-loop-rest : goal.invariant-loop-rest
invariant-loop-rest l = record {
  len : l.len + told_length l.rest ≡ told_length l.bytes;
  behind : behind_length l.rest ≡ behind_length l.bytes;
}

abbrev pub decreases-loop-rest : goal.decreases-loop-rest
decreases-loop-rest l = length l.rest
