use Rattle.std.proofs.Common.{◌≡◌, ◌≢◌, List, ℕ, refl, ap, inl, inr, Some, None}
use Rattle.std.specs.Prelude.{◌⊎◌, Option}
use Rattle.outside.specs.Seen.{Seen}
use Rattle.script_spec.specs.declared.ScriptFault.{ScriptFault}
use Rattle.script_spec.specs.declared.ScriptFault.TheVariants as ScriptFault
use Rattle.script_spec.specs.declared.What.TheVariants as What
use Rattle.script_spec.specs.Grammar.{parse}
use Rattle.script_text.specs.Scripts.{Fails}
use Rattle.record_spec.specs.declared.RunRecord.{RunRecord}
use Rattle.record_spec.specs.Show.{show}
use Rattle.smack_kernel.specs.Answers.{ClosedValue}
use Rattle.smack_program.specs.declared.status.Status.{Status}
use Rattle.smack_program.specs.declared.status.Status.TheVariants as Status
use Rattle.smack_program.specs.Statuses.{status_of, read_status, due_status}
use Rattle.smack_program.specs.Parts.{IsRead, IsUnread, IsTextWritten, IsUnwritten}
use Rattle.smack_program.specs.Scripts.{ScriptEnds}
use Rattle.smack_program.specs.Run.{IsRun, run_answers, RunEnds}
use Rattle.smack_program.proofs.Endings.{unread_ends, no_script_ends, written_ends, unwritten_ends}

due : (kept : Option ClosedValue) (bytes : List ℕ) (r : RunRecord) → IsRun kept bytes r → due_status bytes ≡ Status.Done
due kept bytes r is = ap read_status is.read

-- of a run that is not done nothing is kept
forgotten : (kept : Option ClosedValue) (bytes : List ℕ) (r : RunRecord) → IsRun kept bytes r → IsRun None bytes r
forgotten kept bytes r is = record { lines = is.lines; read = is.read; legal = is.legal; plain = is.plain; kept_of = tt }

nothing_kept : (source source' sink sink' : Seen) (status : Status) → status ≢ Status.Done
    → ScriptEnds (run_answers None) source source' sink sink' status → RunEnds None source source' sink sink' status
nothing_kept source source' sink sink' status other ends = record {
  ends = ends;
  done = λ is. absurd (other is);
  other = λ is. refl;
}

not_done_unread : (status : Status) → (status ≡ Status.ReadFault) ⊎ ((status ≡ Status.TooLarge What.Bytes) ⊎ (status ≡ Status.OutOfMemory)) → status ≢ Status.Done
not_done_unread status (inl is) = λ done. cc
not_done_unread status (inr (inl is)) = λ done. cc
not_done_unread status (inr (inr is)) = λ done. cc

not_done_unwritten : (status : Status) → (status ≡ Status.WriteFault) ⊎ (status ≡ Status.OutOfMemory) → status ≢ Status.Done
not_done_unwritten status (inl is) = λ done. cc
not_done_unwritten status (inr is) = λ done. cc

not_done_fault : (f : ScriptFault) → status_of f ≢ Status.Done
not_done_fault (ScriptFault.Malformed line cause) = λ done. cc
not_done_fault (ScriptFault.TooLarge what) = λ done. cc
not_done_fault ScriptFault.Memory = λ done. cc

pub run_unread : (source source' sink : Seen) (status : Status) → IsUnread source source' status
    → RunEnds None source source' sink sink status
run_unread source source' sink status unread =
    nothing_kept source source' sink sink status (not_done_unread status unread.reason)
    (unread_ends (run_answers None) source source' sink status unread)

pub run_refused : (source source' sink : Seen) (bytes : List ℕ) (f : ScriptFault) → IsRead source source' bytes
    → Fails f (parse bytes) → RunEnds None source source' sink sink (status_of f)
run_refused source source' sink bytes f read fails =
    nothing_kept source source' sink sink (status_of f) (not_done_fault f)
    (no_script_ends (run_answers None) source source' sink bytes f read fails (λ status is. is))

pub run_written : (source source' sink sink' : Seen) (bytes : List ℕ) (r : RunRecord) (closed : ClosedValue)
    → IsRead source source' bytes → IsRun (Some closed) bytes r → IsTextWritten (show r) sink sink'
    → RunEnds (Some closed) source source' sink sink' Status.Done
run_written source source' sink sink' bytes r closed read is written = record {
  ends = written_ends (run_answers (Some closed)) source source' sink sink' bytes (show r) read (r, is, refl)
      (due (Some closed) bytes r is) written;
  done = λ done. refl;
  other = λ other. absurd (other refl);
}

pub run_unwritten : (source source' sink sink' : Seen) (bytes : List ℕ) (r : RunRecord) (closed : ClosedValue) (status : Status)
    → IsRead source source' bytes → IsRun (Some closed) bytes r → IsUnwritten (show r) sink sink' status
    → RunEnds None source source' sink sink' status
run_unwritten source source' sink sink' bytes r closed status read is unwritten =
    nothing_kept source source' sink sink' status (not_done_unwritten status unwritten.reason)
    (unwritten_ends (run_answers None) source source' sink sink' bytes (show r) status read
    (r, forgotten (Some closed) bytes r is, refl) unwritten)
