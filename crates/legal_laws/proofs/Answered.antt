use Rattle.std.proofs.Common.{◌≡◌, ◌≤◌, ℕ, ◌+◌, true, inl, inr, List, length, sym, ap, subst, ◌∙◌, arith}
use Rattle.smack_base.specs.declared.cap.Cap.TheVariants as Cap
use Rattle.rules_spec.specs.declared.Batch.{Batch}
use Rattle.rules_spec.specs.Rulings.{ruling}
use Rattle.rules_spec.specs.Cases.{verdict_of_cases}
use Rattle.rules_spec.specs.Creds.{is_effective}
use Rattle.file_spec.specs.declared.Refusal.{Refusal}
use Rattle.file_spec.specs.declared.Refusal.TheVariants as Refusal
use Rattle.script_spec.specs.Lines.{ScriptLine}
use Rattle.world_spec.specs.Worlds.{creds_of}
use Rattle.world_spec.specs.Replays.{version_of, cred_at}
use Rattle.record_spec.specs.declared.AskedLine.{AskedLine}
use Rattle.record_spec.specs.declared.AskedWhat.{AskedWhat}
use Rattle.record_spec.specs.declared.AskedWhat.TheVariants as AskedWhat
use Rattle.replay_spec.specs.Replays.{Run}
use Rattle.legal_spec.specs.Calls.{Stands, batch as batch_call, asked as asked_call}
use Rattle.legal_spec.specs.Legal.{ArePrivileged, IsRefused, IsSo, AreAnswered, rows_taken}
use Rattle.plain_laws.proofs.GoodLines.{IsGoodLine}
use Rattle.replay_laws.proofs.InStep.{IsInStep}
use Rattle.legal_laws.proofs.Places.{stands_more, asked_more}
use Rattle.legal_laws.proofs.Runs.{batch_by, asked_by, IsRefusedNow, IsSoNow, IsNext, batch, entry, asked, Replays, first, more}
use Rattle.legal_laws.proofs.Growth.{record_of, IsWithin, calls_within, journal_grows}
use Rattle.legal_laws.proofs.Judged.{newest, next_stands, run_stands}
use Rattle.legal_laws.proofs.Creds.{cred_kept, front_kept, version_kept, cred_now}

module _ (labels names : List (List ℕ)) (above : List ScriptLine) (run after : Run) (l : ScriptLine) (replays : Replays labels names above run) (good : IsGoodLine above l) (in_step : IsInStep above run.world.tasks) (next : IsNext labels names run l after) where
  -- whether a task has CAP_MAC_ADMIN at an earlier call, in an earlier version, is as before
  may_kept : (k q m n : ℕ) → IsWithin above run k q m → n ≤ length run.journal
      → is_effective (cred_at after.journal after.history k q) Cap.MacAdmin (version_of after.journal n)
      ≡ is_effective (cred_at run.journal run.history k q) Cap.MacAdmin (version_of run.journal n)
  may_kept k q m n within earlier =
      ap (λ c. is_effective c Cap.MacAdmin (version_of after.journal n)) (cred_kept labels names above run after l replays good in_step next k q m within)
      ∙ ap (λ v. is_effective (cred_at run.journal run.history k q) Cap.MacAdmin v) (version_kept labels names run after l next n earlier)

  old_batch : (i : ℕ) (b : Batch) → Stands run.journal i b
      → is_effective (cred_at run.journal run.history b.task b.seq) Cap.MacAdmin (version_of run.journal i) ≡ true
      → is_effective (cred_at after.journal after.history b.task b.seq) Cap.MacAdmin (version_of after.journal i) ≡ true
  old_batch i b at was =
      let within = calls_within labels names above run replays b.task b.seq i (i + 1) (batch_call i b at) in
      may_kept b.task b.seq (i + 1) i within (omega (arith, within.version)) ∙ was

  -- an earlier line is still so
  refused_kept : (a : AskedLine) (file : List ℕ) (fault : Refusal) → IsWithin above run a.task a.seq a.version
      → IsRefused (record_of labels names run) a file fault → IsRefused (record_of labels names after) a file fault
  refused_kept a file Refusal.NoSuchFile within so = tt
  refused_kept a file Refusal.TooLong within so = tt
  refused_kept a file (Refusal.BadLine bad) within so = tt
  refused_kept a file (Refusal.UnknownLabel line) within so = tt
  refused_kept a file Refusal.NotPrivileged within so = (so.0, may_kept a.task a.seq a.version a.version within within.version ∙ so.1)
  refused_kept a file (Refusal.JournalFull rows) within so =
      (so.0, so.1 ∙ ap rows_taken (sym (front_kept labels names run after l next a.version within.version)))

  so_kept : (a : AskedLine) (what : AskedWhat) → IsWithin above run a.task a.seq a.version
      → IsSo (record_of labels names run) a what → IsSo (record_of labels names after) a what
  so_kept a (AskedWhat.Ask v) within so =
      so ∙ ap (λ version. verdict_of_cases version v.subject v.object v.modes) (sym (version_kept labels names run after l next a.version within.version))
  so_kept a (AskedWhat.Refused file fault) within so = refused_kept a file fault within so
  so_kept a (AskedWhat.Wait pid) within so = tt

  old_line : (a : AskedLine) (i : ℕ) → Stands run.asked i a
      → (a.version ≤ length run.journal) × IsSo (record_of labels names run) a a.what
      → (a.version ≤ length after.journal) × IsSo (record_of labels names after) a a.what
  old_line a i at was =
      let within = calls_within labels names above run replays a.task a.seq a.version a.version (asked_call i a at) in
      (omega (arith, was.0, journal_grows labels names run after l next), so_kept a a.what within was.1)

module _ (labels names : List (List ℕ)) (above : List ScriptLine) (run : Run) (l : ScriptLine) (replays : Replays labels names above run) (good : IsGoodLine above l) where
  -- a new line is so
  new_refused : (what : AskedWhat) (file : List ℕ) (fault : Refusal) → IsRefusedNow run l file fault
      → IsRefused (record_of labels names run) (asked_by run l what) file fault
  new_refused what file Refusal.NoSuchFile so = tt
  new_refused what file Refusal.TooLong so = tt
  new_refused what file (Refusal.BadLine bad) so = tt
  new_refused what file (Refusal.UnknownLabel line) so = tt
  new_refused what file Refusal.NotPrivileged so = (
    so.0,
    ap (λ c. is_effective c Cap.MacAdmin (version_of run.journal (length run.journal)))
        (cred_now labels names above run l replays good run.journal (run_stands labels names above run replays))
        ∙ ap (λ v. is_effective (creds_of run.world l.task) Cap.MacAdmin v) (newest run.journal) ∙ so.1,
  )
  new_refused what file (Refusal.JournalFull rows) so = absurd so

  new_so : (whole what : AskedWhat) → IsSoNow run l what → IsSo (record_of labels names run) (asked_by run l whole) what
  new_so whole (AskedWhat.Ask v) so = so ∙ ap (λ version. verdict_of_cases version v.subject v.object v.modes) (sym (newest run.journal))
  new_so whole (AskedWhat.Refused file fault) so = new_refused whole file fault so
  new_so whole (AskedWhat.Wait pid) so = tt

module _ (labels names : List (List ℕ)) where
  -- each batch is privileged
  pub batches_are_privileged : (above : List ScriptLine) (run : Run) → Replays labels names above run → ArePrivileged (record_of labels names run)
  batches_are_privileged lines now first = λ i b at. cc
  batches_are_privileged lines now (more above l run after replays good in_step rest whole next) =
      by after next (batches_are_privileged above run replays)
    where
      by : (after : Run) → IsNext labels names run l after → ArePrivileged (record_of labels names run) → ArePrivileged (record_of labels names after)
      by after (batch ops of may) was i b at =
          let next : IsNext labels names run l after = batch ops of may in
          elim (stands_more run.journal (batch_by l ops) i b at) [
            | inl old ↦ old_batch labels names above run after l replays good in_step next i b old (was i b old)
            | inr new ↦
                let stands = next_stands labels names run after l next (run_stands labels names above run replays) in
                let cred = cred_now labels names above run l replays good after.journal stands in
                let version : version_of after.journal i ≡ ruling run.journal =
                version_kept labels names run after l next i (omega (arith, new.0)) ∙ ap (version_of run.journal) new.0 ∙ newest run.journal in
                ap (λ x. is_effective (cred_at after.journal after.history x.task x.seq) Cap.MacAdmin (version_of after.journal i)) new.1
                ∙ ap (λ c. is_effective c Cap.MacAdmin (version_of after.journal i)) cred
                ∙ ap (λ v. is_effective (creds_of run.world l.task) Cap.MacAdmin v) version ∙ may
          ]
      by after (entry call of) was i b at = old_batch labels names above run after l replays good in_step (entry call of) i b at (was i b at)
      by after (asked what of so) was i b at = old_batch labels names above run after l replays good in_step (asked what of so) i b at (was i b at)

  -- each asked, refused or waited line is so
  pub lines_are_answered : (above : List ScriptLine) (run : Run) → Replays labels names above run → AreAnswered (record_of labels names run)
  lines_are_answered lines now first = λ i a at. cc
  lines_are_answered lines now (more above l run after replays good in_step rest whole next) =
      by after next (lines_are_answered above run replays)
    where
      by : (after : Run) → IsNext labels names run l after → AreAnswered (record_of labels names run) → AreAnswered (record_of labels names after)
      by after (batch ops of may) was i a at = old_line labels names above run after l replays good in_step (batch ops of may) a i at (was i a at)
      by after (entry call of) was i a at = old_line labels names above run after l replays good in_step (entry call of) a i at (was i a at)
      by after (asked what of so) was i a at =
          elim (asked_more run.asked (asked_by run l what) i a at) [
            | inl old ↦ old_line labels names above run after l replays good in_step (asked what of so) a old.0 old.1 (was old.0 a old.1)
            | inr new ↦
                subst (λ x. (x.version ≤ length after.journal) × IsSo (record_of labels names after) x x.what) (sym new)
                (omega arith, new_so labels names above run l replays good what what so)
          ]
