use Rattle.std.proofs.Common.{◌≡◌, List, ℕ, refl, ap}
use Rattle.outside.specs.Seen.{Seen}
use Rattle.script_spec.specs.declared.ScriptFault.{ScriptFault}
use Rattle.script_spec.specs.Grammar.{parse}
use Rattle.script_text.specs.Scripts.{Fails}
use Rattle.record_spec.specs.declared.RunRecord.{RunRecord}
use Rattle.record_spec.specs.Show.{show}
use Rattle.smack_program.specs.declared.status.Status.{Status}
use Rattle.smack_program.specs.declared.status.Status.TheVariants as Status
use Rattle.smack_program.specs.Statuses.{status_of, read_status, due_status}
use Rattle.smack_program.specs.Parts.{IsRead, IsUnread, IsTextWritten, IsUnwritten}
use Rattle.smack_program.specs.Replay.{IsReplay, replay_answers, ReplayEnds}
use Rattle.smack_program.proofs.Endings.{unread_ends, no_script_ends, written_ends, unwritten_ends}

due : (bytes : List ℕ) (r : RunRecord) → IsReplay bytes r → due_status bytes ≡ Status.Done
due bytes r (lines, parsed, is, legal) = ap read_status parsed

pub replay_unread : (source source' sink : Seen) (status : Status) → IsUnread source source' status
    → ReplayEnds source source' sink sink status
replay_unread = unread_ends replay_answers

pub replay_refused : (source source' sink : Seen) (bytes : List ℕ) (f : ScriptFault) → IsRead source source' bytes
    → Fails f (parse bytes) → ReplayEnds source source' sink sink (status_of f)
replay_refused source source' sink bytes f read fails =
    no_script_ends replay_answers source source' sink bytes f read fails (λ status is. is)

pub replay_written : (source source' sink sink' : Seen) (bytes : List ℕ) (r : RunRecord) → IsRead source source' bytes
    → IsReplay bytes r → IsTextWritten (show r) sink sink' → ReplayEnds source source' sink sink' Status.Done
replay_written source source' sink sink' bytes r read is written =
    written_ends replay_answers source source' sink sink' bytes (show r) read (r, is, refl) (due bytes r is) written

pub replay_unwritten : (source source' sink sink' : Seen) (bytes : List ℕ) (r : RunRecord) (status : Status)
    → IsRead source source' bytes → IsReplay bytes r → IsUnwritten (show r) sink sink' status
    → ReplayEnds source source' sink sink' status
replay_unwritten source source' sink sink' bytes r status read is unwritten =
    unwritten_ends replay_answers source source' sink sink' bytes (show r) status read (r, is, refl) unwritten
