use Rattle.std.proofs.Common.{◌≡◌, ◌≢◌, ◌<◌, ◌≤◌, ℕ, refl, arith, Ok, Err}
use Rattle.std.specs.Prelude.{Result}
use Rattle.outside.specs.Faults.{Rose, AreTold}
use Rattle.outside.specs.declared.sink.SinkFault.{SinkFault}
use Rattle.outside.specs.declared.sink.SinkFault.TheVariants as SinkFault

is_failed : {A : Type 0} (r : Result A SinkFault) (k k' : ℕ) → (r ≢ Err SinkFault.Failed → k' ≡ k) → k < k' → r ≡ Err SinkFault.Failed
is_failed (Ok x) k k' same more = let stays : k' ≡ k = same (λ e. cc) in absurd (omega (arith, stays, more))
is_failed (Err SinkFault.Failed) k k' same more = refl
is_failed (Err SinkFault.Memory) k k' same more = let stays : k' ≡ k = same (λ e. cc) in absurd (omega (arith, stays, more))

-- the answers of a sink tell its fault
pub tells : {A : Type 0} (r : Result A SinkFault) (k k' : ℕ) → k ≤ k' → (r ≡ Err SinkFault.Failed → Rose k k') → (r ≢ Err SinkFault.Failed → k' ≡ k)
    → AreTold k k' (r ≡ Err SinkFault.Failed)
tells r k k' later cause same = record { never_falls = later; cause = cause; told = is_failed r k k' same }
