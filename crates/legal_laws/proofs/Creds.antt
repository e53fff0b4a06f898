use Rattle.std.proofs.Common.{◌≡◌, ◌≤◌, ◌<◌, ℕ, Bool, true, false, ◌&&◌, ◌||◌, ◌==◌, if◌then◌else◌, List, [], ◌∷◌, ◌++◌, length, take, refl, sym, ap, ◌∙◌, arith}
use Rattle.std.specs.Prelude.{nat_lt}
use Rattle.std.specs.List.{list_any, AllByRecursion}
use Rattle.std.proofs.lemmas.Bool.{eqb-true, le-ltb}
use Rattle.std.proofs.lemmas.List.{take-append-le}
use Rattle.rules_spec.specs.declared.Batch.{Batch}
use Rattle.rules_spec.specs.Rulings.{ruling}
use Rattle.script_spec.specs.Lines.{ScriptLine}
use Rattle.script_spec.specs.Tasks.{calls_by}
use Rattle.world_spec.specs.declared.Entry.{Entry}
use Rattle.world_spec.specs.Worlds.{World, world_first, creds_of}
use Rattle.world_spec.specs.Replies.{makes}
use Rattle.world_spec.specs.Replays.{AreSteps, StandsOver, version_of, after_entry, replay_of, comes_before_call, up_to_last, cred_at}
use Rattle.replay_spec.specs.Replays.{Run}
use Rattle.legal_spec.specs.Calls.{entry as entry_call}
use Rattle.world_laws.proofs.Standing.{longer_stands}
use Rattle.world_laws.proofs.Points.{kept_at, at_is_now}
use Rattle.plain_laws.proofs.GoodLines.{IsGoodLine}
use Rattle.replay_laws.proofs.InStep.{IsInStep}
use Rattle.legal_forms_laws.proofs.Members.{all_stand}
use Rattle.legal_laws.proofs.Runs.{batch_by, entry_by, IsNext, batch, entry, asked, Replays}
use Rattle.legal_laws.proofs.Growth.{IsWithin, calls_within}
use Rattle.legal_laws.proofs.Judged.{run_stands}
use Rattle.legal_laws.proofs.Children.{step_makes}

steps_front : (test : Entry → Bool) (journal : List Batch) (w : World) (es : List Entry) → AreSteps journal w es → AreSteps journal w (up_to_last test es)
steps_front test journal w [] steps = tt
steps_front test journal w (e ∷ es) steps = by (list_any test (e ∷ es)) (steps_front test journal (after_entry journal w e) es steps.2)
  where
    by : (some : Bool) → AreSteps journal (after_entry journal w e) (up_to_last test es)
        → AreSteps journal w (if some then e ∷ up_to_last test es else [])
    by true rest = (steps.0, steps.1, rest)
    by false rest = tt

all_front : (P : Entry → Type 0) (test : Entry → Bool) (es : List Entry) → AllByRecursion P es → AllByRecursion P (up_to_last test es)
all_front P test [] all = tt
all_front P test (e ∷ es) all = by (list_any test (e ∷ es)) (all_front P test es all.1)
  where
    by : (some : Bool) → AllByRecursion P (up_to_last test es) → AllByRecursion P (if some then e ∷ up_to_last test es else [])
    by true rest = (all.0, rest)
    by false rest = tt

-- a longer journal leaves credentials as they are
cred_longer : (journal more : List Batch) (history : List Entry) (w : World) (k q : ℕ) → StandsOver journal history w
    → cred_at (journal ++ more) history k q ≡ cred_at journal history k q
cred_longer journal more history w k q stands =
    let test = comes_before_call k q in
    let front : StandsOver journal (up_to_last test history) (replay_of journal (up_to_last test history)) =
    record {
      world = refl;
      steps = steps_front test journal world_first history stands.steps;
      versions = all_front (λ e. e.version ≤ length journal) test history stands.versions;
    } in
    ap (λ u. creds_of u k) (sym (longer_stands journal more (up_to_last test history) (replay_of journal (up_to_last test history)) front).world)

no_call : (same : Bool) (later : Bool) → (same ≡ true → later ≡ false) → (same && later) ≡ false
no_call true later none = none refl
no_call false later none = refl

neither : (a b : Bool) → a ≡ false → b ≡ false → (a || b) ≡ false
neither a b first second = rw (first, second) refl

module _ (labels names : List (List ℕ)) where
  -- one more line leaves the credentials of earlier calls, and earlier versions, as they are
  pub cred_kept : (above : List ScriptLine) (run after : Run) (l : ScriptLine) → Replays labels names above run → IsGoodLine above l
      → IsInStep above run.world.tasks → IsNext labels names run l after → (k q m : ℕ) → IsWithin above run k q m
      → cred_at after.journal after.history k q ≡ cred_at run.journal run.history k q
  cred_kept above run after l replays good in_step (batch ops of may) k q m within =
      cred_longer run.journal (batch_by l ops ∷ []) run.history run.world k q (run_stands labels names above run replays)
  cred_kept above run after l replays good in_step (entry call of) k q m within =
      kept_at run.journal run.history (entry_by run l call) k q
      (neither ((l.task == k) && nat_lt l.seq q) (makes k (entry_by run l call).reply)
      (no_call (l.task == k) (nat_lt l.seq q)
      (λ own.
      let count : calls_by above l.task ≡ calls_by above k = ap (λ t. calls_by above t) (eqb-true l.task k own) in
      le-ltb l.seq q (omega (arith, good.seq, count, within.to))))
      (step_makes run.world (ruling run.journal) l.task k call (omega (arith, within.there, in_step.many))))
  cred_kept above run after l replays good in_step (asked what of so) k q m within = refl

  pub front_kept : (run after : Run) (l : ScriptLine) → IsNext labels names run l after → (n : ℕ) → n ≤ length run.journal
      → take n after.journal ≡ take n run.journal
  front_kept run after l (batch ops of may) n within = take-append-le n run.journal (batch_by l ops ∷ []) within
  front_kept run after l (entry call of) n within = refl
  front_kept run after l (asked what of so) n within = refl

  pub version_kept : (run after : Run) (l : ScriptLine) → IsNext labels names run l after → (n : ℕ) → n ≤ length run.journal
      → version_of after.journal n ≡ version_of run.journal n
  version_kept run after l next n within = ap ruling (front_kept run after l next n within)

  -- the credentials of a task at a good line are those that it has in the world
  pub cred_now : (above : List ScriptLine) (run : Run) (l : ScriptLine) → Replays labels names above run → IsGoodLine above l
      → (journal : List Batch) → StandsOver journal run.history run.world
      → cred_at journal run.history l.task l.seq ≡ creds_of run.world l.task
  cred_now above run l replays good journal stands =
      at_is_now journal run.history l.task l.seq stands.steps
      (all_stand (λ e. e.task ≡ l.task → e.seq < l.seq) run.history
      (λ i e at own.
      let within = calls_within labels names above run replays e.task e.seq e.version e.version (entry_call i e at) in
      let count : calls_by above e.task ≡ calls_by above l.task = ap (λ t. calls_by above t) own in
      omega (arith, within.to, count, good.seq)))
      ∙ ap (λ u. creds_of u l.task) (sym stands.world)
