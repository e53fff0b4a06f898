use Rattle.std.specs.Prelude.{◌≡◌, ◌≤◌, ℕ, List, [], ◌∷◌, length, take, fold}
use Rattle.rules_spec.specs.declared.Verdict.{Verdict}
use Rattle.world_spec.specs.declared.Entry.{Entry}
use Rattle.world_spec.specs.Steps.{Stepped}
use Rattle.world_spec.specs.Replays.{step_of, replay_of}
use Rattle.record_spec.specs.declared.RunRecord.{RunRecord}
use Rattle.legal_spec.specs.Calls.{Stands}

-- A verdict of a record may be shown for the one that was judged: it is that one. No call maps a file yet. Where one
-- does, the object that its verdict shows may be any for which the mapping fails.
abbrev pub ShowsAs : Verdict → Verdict → Type 0
ShowsAs shown judged = shown ≡ judged

-- one by one, the verdicts of a record may be shown for those that were judged
abbrev pub AreShownAs : (Verdict → Verdict → Type 0) → List Verdict → List Verdict → Type 0
AreShownAs shows [] [] = Unit {0}
AreShownAs shows (v ∷ vs) (w ∷ ws) = shows v w × AreShownAs shows vs ws
AreShownAs shows [] (w ∷ ws) = ⊥
AreShownAs shows (v ∷ vs) [] = ⊥

-- the step of an entry's call by its task in its version, in the world that the entries before a place leave
abbrev pub step_at : RunRecord → ℕ → Entry → Stepped
step_at r i e = step_of r.journal (replay_of r.journal (take i r.history)) e

-- the version of the last entry before a place; 0 where there is none
abbrev pub version_before : List Entry → ℕ → ℕ
version_before history i = fold (λ version e. e.version) 0 (take i history)

-- An entry at its place: its checks and its reply are those of its step, and its version is neither below that of the
-- entry before it nor beyond the last batch.
pub record IsEntryAt (shows : Verdict → Verdict → Type 0) (r : RunRecord) (i : ℕ) (e : Entry) : Type 0 where
  pub checks : AreShownAs shows e.checks (step_at r i e).checks
  pub reply : e.reply ≡ (step_at r i e).reply
  pub rising : version_before r.history i ≤ e.version
  pub within : e.version ≤ length r.journal

abbrev pub AreEntries : (Verdict → Verdict → Type 0) → RunRecord → Type 0
AreEntries shows r = (i : ℕ) (e : Entry) → Stands r.history i e → IsEntryAt shows r i e
