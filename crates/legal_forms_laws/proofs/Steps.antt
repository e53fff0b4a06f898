use Rattle.std.proofs.Common.{◌≡◌, ◌≤◌, ◌<◌, ℕ, zero, suc, List, [], ◌∷◌, take, fold, refl, subst, arith}
use Rattle.rules_spec.specs.declared.Batch.{Batch}
use Rattle.rules_spec.specs.declared.Verdict.{Verdict}
use Rattle.world_spec.specs.declared.Entry.{Entry}
use Rattle.world_spec.specs.Worlds.{World, world_first}
use Rattle.world_spec.specs.Replays.{AreSteps, step_of, after_entry}
use Rattle.record_spec.specs.declared.RunRecord.{RunRecord}
use Rattle.legal_spec.specs.Calls.{Stands}
use Rattle.legal_spec.specs.Entries.{ShowsAs, AreShownAs, AreEntries}
use Rattle.legal_spec.specs.Legal.{AreJudged}
use Rattle.legal_spec.specs.Laws.{AreRisingSteps, StepsAreJudged}
use Rattle.legal_forms_laws.proofs.Members.{same_some}

-- what is shown as it is
pub shown_as_is : (shows : Verdict → Verdict → Type 0) → ((v : Verdict) → shows v v) → (vs ws : List Verdict) → vs ≡ ws → AreShownAs shows vs ws
shown_as_is shows same vs ws is = subst (AreShownAs shows vs) is (by vs)
  where
    by : (us : List Verdict) → AreShownAs shows us us
    by [] = tt
    by (u ∷ us) = (same u, by us)

pub as_judged : (vs ws : List Verdict) → AreShownAs ◌≡◌ vs ws → vs ≡ ws
as_judged [] [] are = refl
as_judged (v ∷ vs) (w ∷ ws) are = λ i. are.0 i ∷ as_judged vs ws are.1 i
as_judged [] (w ∷ ws) are = absurd are
as_judged (v ∷ vs) [] are = absurd are

-- an entry is the step of its call in this world
abbrev IsStepIn : List Batch → World → Entry → Type 0
IsStepIn journal w e = (e.checks ≡ (step_of journal w e).checks) × (e.reply ≡ (step_of journal w e).reply)

step_there : (journal : List Batch) (w : World) (es : List Entry) → AreSteps journal w es → (i : ℕ) (e : Entry) → Stands es i e
    → IsStepIn journal (fold (after_entry journal) w (take i es)) e
step_there journal w [] steps i e at = cc
step_there journal w (x ∷ xs) steps zero e at = subst (IsStepIn journal w) (same_some x e at) (steps.0, steps.1)
step_there journal w (x ∷ xs) steps (suc i) e at = step_there journal (after_entry journal w x) xs steps.2 i e at

steps_each : (journal : List Batch) (w : World) (es : List Entry)
    → ((i : ℕ) (e : Entry) → Stands es i e → IsStepIn journal (fold (after_entry journal) w (take i es)) e) → AreSteps journal w es
steps_each journal w [] each = tt
steps_each journal w (x ∷ xs) each =
    let first = each 0 x refl in (first.0, first.1, steps_each journal (after_entry journal w x) xs (λ i e at. each (suc i) e at))

-- the version of the last of some entries; the one that is given where there is none
abbrev last_version : ℕ → List Entry → ℕ
last_version version es = fold (λ v e. e.version) version es

abbrev AreRising : List Entry → Type 0
AreRising es = (i k : ℕ) (e f : Entry) → Stands es i e → Stands es k f → i < k → e.version ≤ f.version

above_last : (version : ℕ) (es : List Entry) → ((k : ℕ) (f : Entry) → Stands es k f → version ≤ f.version) → AreRising es
    → (i : ℕ) (e : Entry) → Stands es i e → last_version version (take i es) ≤ e.version
above_last version [] low rising i e at = cc
above_last version (x ∷ xs) low rising zero e at = low 0 e at
above_last version (x ∷ xs) low rising (suc i) e at =
    above_last x.version xs (λ k f there. rising 0 (suc k) x f refl there (omega arith))
    (λ n k f g at_f at_g before. rising (suc n) (suc k) f g at_f at_g (omega (arith, before))) i e at

above_first : (version : ℕ) (es : List Entry) → ((i : ℕ) (e : Entry) → Stands es i e → last_version version (take i es) ≤ e.version)
    → (k : ℕ) (f : Entry) → Stands es k f → version ≤ f.version
above_first version [] each k f at = cc
above_first version (x ∷ xs) each zero f at = each 0 f at
above_first version (x ∷ xs) each (suc k) f at =
    omega (arith, each 0 x refl, above_first x.version xs (λ i e there. each (suc i) e there) k f at)

neighbours_rise : (version : ℕ) (es : List Entry) → ((i : ℕ) (e : Entry) → Stands es i e → last_version version (take i es) ≤ e.version) → AreRising es
neighbours_rise version [] each i k e f at_e at_f before = cc
neighbours_rise version (x ∷ xs) each i zero e f at_e at_f before = absurd (omega (arith, before))
neighbours_rise version (x ∷ xs) each zero (suc k) e f at_e at_f before =
    subst (λ (y : Entry). y.version ≤ f.version) (same_some x e at_e) (above_first x.version xs (λ n g there. each (suc n) g there) k f at_f)
neighbours_rise version (x ∷ xs) each (suc i) (suc k) e f at_e at_f before =
    neighbours_rise x.version xs (λ n g there. each (suc n) g there) i k e f at_e at_f (omega (arith, before))

pub are_judged : (r : RunRecord) → AreRisingSteps r → AreJudged r
are_judged r are i e at =
    let step = step_there r.journal world_first r.history are.steps i e at in
    record {
      checks = shown_as_is ShowsAs (λ v. refl) e.checks _ step.0;
      reply = step.1;
      rising = above_last 0 r.history (λ k f there. omega arith) are.rising i e at;
      within = are.within i e at;
    }

pub are_stepped : (r : RunRecord) → AreEntries ◌≡◌ r → AreRisingSteps r
are_stepped r are = record {
  steps = steps_each r.journal world_first r.history (λ i e at. let is = are i e at in (as_judged e.checks _ is.checks, is.reply));
  rising = neighbours_rise 0 r.history (λ i e at. (are i e at).rising);
  within = λ i e at. (are i e at).within;
}

pub steps_are_judged : StepsAreJudged
steps_are_judged = record { judged = are_judged; stepped = are_stepped }
