use Rattle.std.proofs.Common.{◌≡◌, List, Ok, Err, IfOk, subst, sym}
use Rattle.std.specs.Prelude.{Result}
use Rattle.script_spec.specs.Lines.{ScriptLine}
use Rattle.script_text.specs.Scripts.{AreRead}
use Rattle.record_spec.specs.declared.RunRecord.{RunRecord}
use Rattle.replay_spec.specs.Replays.{replayed}
use Rattle.replay_spec.specs.Plain.{IsPlain}
use Rattle.plain_laws.proofs.Replays.{replayed_is_plain}

-- the replayed record of a script is plain
pub replayed_are_plain : {E : Type 0} (result : Result RunRecord E) (lines : List ScriptLine) → AreRead lines
    → IfOk result (λ r. r ≡ replayed lines) → IfOk result (λ r. IsPlain r)
replayed_are_plain (Ok r) lines read is = subst IsPlain (sym is) (replayed_is_plain read.0 lines read.1)
replayed_are_plain (Err e) lines read is = tt
