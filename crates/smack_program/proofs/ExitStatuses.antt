use Rattle.std.proofs.Common.{◌≡◌, ◌≢◌, refl}
use Rattle.std.specs.Prelude.{IsFalse}
use Rattle.smack_program.specs.declared.status.Status.{Status}
use Rattle.smack_program.specs.declared.status.Status.TheVariants as Status
use Rattle.smack_program.specs.Statuses.{code_of, may_have_written}

-- the exit status tells Done from all others
pub done_of : (status : Status) → code_of status ≡ 0 → status ≡ Status.Done
done_of Status.Done is = refl
done_of Status.Usage is = cc
done_of (Status.Malformed line cause) is = cc
done_of Status.ReadFault is = cc
done_of Status.WriteFault is = cc
done_of Status.OutOfMemory is = cc
done_of (Status.TooLarge what) is = cc

-- and so it does Usage
pub usage_of : (status : Status) → code_of status ≡ 2 → status ≡ Status.Usage
usage_of Status.Done is = cc
usage_of Status.Usage is = refl
usage_of (Status.Malformed line cause) is = cc
usage_of Status.ReadFault is = cc
usage_of Status.WriteFault is = cc
usage_of Status.OutOfMemory is = cc
usage_of (Status.TooLarge what) is = cc

-- at an exit status other than 0, 5 and 6 nothing was written
pub untouched_of : (status : Status) → code_of status ≢ 0 → code_of status ≢ 5 → code_of status ≢ 6
    → IsFalse (may_have_written status)
untouched_of Status.Done done write memory = absurd (done refl)
untouched_of Status.Usage done write memory = refl
untouched_of (Status.Malformed line cause) done write memory = refl
untouched_of Status.ReadFault done write memory = refl
untouched_of Status.WriteFault done write memory = absurd (write refl)
untouched_of Status.OutOfMemory done write memory = absurd (memory refl)
untouched_of (Status.TooLarge what) done write memory = refl
