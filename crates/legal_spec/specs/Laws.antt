use Rattle.std.specs.Prelude.{◌≡◌, ◌≤◌, ◌<◌, ℕ, List, length, Ok}
use Rattle.script_spec.specs.Lines.{ScriptLine}
use Rattle.script_spec.specs.Grammar.{parse}
use Rattle.world_spec.specs.declared.Entry.{Entry}
use Rattle.world_spec.specs.Worlds.{world_first}
use Rattle.world_spec.specs.Replays.{AreSteps}
use Rattle.record_spec.specs.declared.RunRecord.{RunRecord}
use Rattle.replay_spec.specs.Replays.{replayed}
use Rattle.legal_spec.specs.Calls.{Stands}
use Rattle.legal_spec.specs.Entries.{AreEntries}
use Rattle.legal_spec.specs.Legal.{AreJudged}
use Rattle.legal_spec.specs.Fits.{IsLegalFor}

-- the record of a script that is replayed is legal for it
abbrev pub ReplayedIsLegal : Type 0
ReplayedIsLegal = (bytes : List ℕ) (lines : List ScriptLine) → parse bytes ≡ Ok lines → IsLegalFor lines (replayed lines)

-- object calls that are steps of one world, one after another, as a kernel makes them
pub record AreRisingSteps (r : RunRecord) : Type 0 where
  pub steps : AreSteps r.journal world_first r.history
  -- versions never fall
  pub rising : (i k : ℕ) (e f : Entry) → Stands r.history i e → Stands r.history k f → i < k → e.version ≤ f.version
  -- none is beyond the last batch
  pub within : (i : ℕ) (e : Entry) → Stands r.history i e → e.version ≤ length r.journal

-- Such calls are judged; and entries whose checks are shown as they were judged are such calls.
pub record StepsAreJudged : Type 0 where
  pub judged : (r : RunRecord) → AreRisingSteps r → AreJudged r
  pub stepped : (r : RunRecord) → AreEntries ◌≡◌ r → AreRisingSteps r
