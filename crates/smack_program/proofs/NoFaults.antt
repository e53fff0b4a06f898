use Rattle.std.proofs.Common.{ℕ, List, refl, Some}
use Rattle.std.specs.Prelude.{Option}
use Rattle.outside.proofs.Rising.{zero_never_rises}
use Rattle.smack_program.specs.Ends.{IsCalm}

-- a source and a sink whose counts are always 0 are calm
pub are_calm : (bytes : List ℕ) (left taken taken' : Option (List ℕ))
    → IsCalm bytes (record { bytes = Some bytes; faults = 0 }) (record { bytes = left; faults = 0 }) (record { bytes = taken; faults = 0 })
    (record { bytes = taken'; faults = 0 })
are_calm bytes left taken taken' = record { told = refl; read = zero_never_rises; written = zero_never_rises }
