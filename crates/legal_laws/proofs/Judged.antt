use Rattle.std.proofs.Common.{◌≡◌, ◌≤◌, ◌<◌, ℕ, inl, inr, List, [], ◌∷◌, ◌++◌, length, refl, sym, ap, subst, arith}
use Rattle.std.proofs.Math.Seq.{take-length}
use Rattle.std.proofs.lemmas.Option.{slice_get_within}
use Rattle.rules_spec.specs.declared.Batch.{Batch}
use Rattle.rules_spec.specs.Rulings.{ruling}
use Rattle.script_spec.specs.Lines.{ScriptLine}
use Rattle.script_spec.specs.Tasks.{calls_by}
use Rattle.world_spec.specs.declared.Entry.{Entry}
use Rattle.world_spec.specs.Steps.{step}
use Rattle.world_spec.specs.Replays.{version_of, StandsOver}
use Rattle.replay_spec.specs.Replays.{Run}
use Rattle.legal_spec.specs.Calls.{Stands, entry as entry_call}
use Rattle.legal_spec.specs.Legal.{AreJudged}
use Rattle.world_laws.proofs.Standing.{first_stands, step_stands, longer_stands}
use Rattle.legal_forms_laws.proofs.Members.{stands_in}
use Rattle.legal_laws.proofs.Places.{stands_more}
use Rattle.legal_forms_laws.proofs.Steps.{are_judged}
use Rattle.legal_laws.proofs.Runs.{batch_by, entry_by, IsNext, batch, entry, asked, Replays, first, more}
use Rattle.legal_laws.proofs.Growth.{record_of, calls_within}

-- the newest version is all of the journal
pub newest : (journal : List Batch) → version_of journal (length journal) ≡ ruling journal
newest journal = ap ruling (take-length journal)

-- what holds of each two elements of a list, the earlier one first, and of each and one more, holds of each two with it
pub pairs_more : {X : Type 0} (xs : List X) (y : X) (R : X → X → Type 0)
    → ((i k : ℕ) (e f : X) → Stands xs i e → Stands xs k f → i < k → R e f) → ((i : ℕ) (e : X) → Stands xs i e → R e y)
    → (i k : ℕ) (e f : X) → Stands (xs ++ y ∷ []) i e → Stands (xs ++ y ∷ []) k f → i < k → R e f
pairs_more xs y R old new i k e f at_e at_f before =
    elim (stands_more xs y k f at_f) [
      | inl old_f ↦
          elim (stands_more xs y i e at_e) [
            | inl old_e ↦ old i k e f old_e old_f before
            | inr new_e ↦ absurd (omega (arith, new_e.0, before, slice_get_within xs k f old_f))
          ]
      | inr new_f ↦
          elim (stands_more xs y i e at_e) [
            | inl old_e ↦ subst (λ z. R e z) (sym new_f.1) (new i e old_e)
            | inr new_e ↦ absurd (omega (arith, new_e.0, new_f.0, before))
          ]
    ]

module _ (labels names : List (List ℕ)) where
  -- the world of a run stands for its history over its journal
  pub next_stands : (run after : Run) (l : ScriptLine) → IsNext labels names run l after → StandsOver run.journal run.history run.world
      → StandsOver after.journal after.history after.world
  next_stands run after l (batch ops of may) stands = longer_stands run.journal (batch_by l ops ∷ []) run.history run.world stands
  next_stands run after l (entry call of) stands =
      let now = newest run.journal in
      subst (λ w. StandsOver run.journal (run.history ++ entry_by run l call ∷ []) w) (ap (λ v. (step run.world v l.task call).world) now)
      (step_stands run.journal run.history run.world (entry_by run l call) stands refl (ap (λ v. (step run.world v l.task call).checks) (sym now))
      (ap (λ v. (step run.world v l.task call).reply) (sym now)))
  next_stands run after l (asked what of so) stands = stands

  pub run_stands : (above : List ScriptLine) (run : Run) → Replays labels names above run → StandsOver run.journal run.history run.world
  run_stands lines now first = first_stands []
  run_stands lines now (more above l run after replays good in_step rest whole next) =
      next_stands run after l next (run_stands above run replays)

  -- versions never fall
  abbrev AreRising : Run → (Entry → Entry → Type 0) → Type 0
  AreRising run R = (i k : ℕ) (e f : Entry) → Stands run.history i e → Stands run.history k f → i < k → R e f

  abbrev rising_versions : Entry → Entry → Type 0
  rising_versions e f = e.version ≤ f.version

  versions_next : (above : List ScriptLine) (run after : Run) (l : ScriptLine) → Replays labels names above run
      → IsNext labels names run l after → AreRising run rising_versions → AreRising after rising_versions
  versions_next above run after l replays (batch ops of may) rising = rising
  versions_next above run after l replays (entry call of) rising =
      pairs_more run.history (entry_by run l call) rising_versions rising
      (λ i e at. stands_in (λ x. x.version ≤ length run.journal) run.history i e (run_stands above run replays).versions at)
  versions_next above run after l replays (asked what of so) rising = rising

  versions_rise : (above : List ScriptLine) (run : Run) → Replays labels names above run → AreRising run rising_versions
  versions_rise lines now first = λ i k e f at_e at_f before. cc
  versions_rise lines now (more above l run after replays good in_step rest whole next) =
      versions_next above run after l replays next (versions_rise above run replays)

  pub entries_are_judged : (above : List ScriptLine) (run : Run) → Replays labels names above run → AreJudged (record_of labels names run)
  entries_are_judged above run replays =
      let stands = run_stands above run replays in
      are_judged (record_of labels names run) (record {
        steps = stands.steps;
        rising = versions_rise above run replays;
        within = λ i e at. stands_in (λ x. x.version ≤ length run.journal) run.history i e stands.versions at;
      })

  -- and so do the numbers of the calls of each task
  abbrev rising_numbers : Entry → Entry → Type 0
  rising_numbers e f = e.task ≡ f.task → e.seq < f.seq

  pub numbers_rise : (above : List ScriptLine) (run : Run) → Replays labels names above run → AreRising run rising_numbers
  numbers_rise lines now first = λ i k e f at_e at_f before. cc
  numbers_rise lines now (more above l run after replays good in_step rest whole next) = by after next (numbers_rise above run replays)
    where
      by : (after : Run) → IsNext labels names run l after → AreRising run rising_numbers → AreRising after rising_numbers
      by after (batch ops of may) rising = rising
      by after (entry call of) rising =
          pairs_more run.history (entry_by run l call) rising_numbers rising
          (λ i e at same.
          let within = calls_within labels names above run replays e.task e.seq e.version e.version (entry_call i e at) in
          let count : ◌≡◌ {A = ℕ} (calls_by above e.task) (calls_by above l.task) = ap (λ t. calls_by above t) same in
          omega (arith, within.to, count, good.seq))
      by after (asked what of so) rising = rising
