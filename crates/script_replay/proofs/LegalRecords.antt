use Rattle.std.proofs.Common.{◌≡◌, List, Ok, Err, IfOk, subst, sym}
use Rattle.std.specs.Prelude.{Result}
use Rattle.script_spec.specs.Lines.{ScriptLine}
use Rattle.script_text.specs.Scripts.{AreRead}
use Rattle.record_spec.specs.declared.RunRecord.{RunRecord}
use Rattle.replay_spec.specs.Replays.{replayed}
use Rattle.legal_spec.specs.Fits.{IsLegalFor}
use Rattle.legal_laws.proofs.Fitting.{replayed_is_legal}

-- the replayed record of a script is legal for it
pub replayed_are_legal : {E : Type 0} (result : Result RunRecord E) (lines : List ScriptLine) → AreRead lines
    → IfOk result (λ r. r ≡ replayed lines) → IfOk result (λ r. IsLegalFor lines r)
replayed_are_legal (Ok r) lines read is = subst (IsLegalFor lines) (sym is) (replayed_is_legal read.0 lines read.1)
replayed_are_legal (Err e) lines read is = tt
