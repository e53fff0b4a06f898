use Rattle.std.proofs.Common.{◌≡◌, ◌≢◌, ℕ, List, [], refl, ap, append-nil, subst, inl, inr, Some, None}
use Rattle.std.specs.Prelude.{◌⊎◌, Option, Result}
use Rattle.std.specs.Io.KnownBytes.{append_known}
use Rattle.outside.specs.Seen.{Seen, unfailed}
use Rattle.smack_kernel.specs.Answers.{ClosedValue}
use Rattle.smack_program.specs.declared.status.Status.{Status}
use Rattle.smack_program.specs.declared.status.Status.TheVariants as Status
use Rattle.smack_program.specs.Program.{GivenEnds}

-- known bytes, and behind them none
nothing_behind : (known : Option (List ℕ)) → append_known known [] ≡ known
nothing_behind None = refl
nothing_behind (Some xs) = ap (λ (t : List ℕ). Some t) (append-nil xs)

-- an output that keeps nothing back yet
pub from_unwritten : (given : Result (List (List ℕ)) Status) (kept : Option ClosedValue) (source source' : Seen) (known : Option (List ℕ))
    (sink' : Seen) (status : Status) → GivenEnds given kept source source' (unfailed (append_known known [])) sink' status
    → GivenEnds given kept source source' (unfailed known) sink' status
from_unwritten given kept source source' known sink' status ends =
    let P : Option (List ℕ) → Type 0 = λ t. GivenEnds given kept source source' (unfailed t) sink' status in
    subst P (nothing_behind known) ends

-- what there is to answer without words is not Done
pub not_done : (status : Status) → (status ≡ Status.OutOfMemory) ⊎ (status ≡ Status.Usage) → status ≢ Status.Done
not_done status (inl is) = λ done. cc
not_done status (inr is) = λ done. cc
