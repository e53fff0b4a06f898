use Rattle.std.proofs.Common.{◌≡◌, ◌≤◌, ℕ, List, [], ◌∷◌, ◌++◌, length, fold, refl, sym, ap, subst, ◌∙◌, arith, length-append}
use Rattle.std.specs.List.{AllByRecursion}
use Rattle.std.proofs.lemmas.List.{take-append-le}
use Rattle.std.proofs.lemmas.List.Sums.{fold-append}
use Rattle.rules_spec.specs.declared.Batch.{Batch}
use Rattle.rules_spec.specs.Rulings.{ruling}
use Rattle.world_spec.specs.declared.Entry.{Entry}
use Rattle.world_spec.specs.Worlds.{World, world_first}
use Rattle.world_spec.specs.Steps.{Stepped, step}
use Rattle.world_spec.specs.Replays.{AreSteps, version_of, step_of, after_entry}
use Rattle.world_laws.specs.Laws.{FirstStands, StepStands, LongerStands}

pub first_stands : FirstStands
first_stands journal = record { world = refl; steps = tt; versions = tt }

all_more : {X : Type 0} (P : X → Type 0) (xs : List X) (x : X) → AllByRecursion P xs → P x → AllByRecursion P (xs ++ x ∷ [])
all_more P [] x all last = (last, tt)
all_more P (y ∷ ys) x all last = (all.0, all_more P ys x all.1 last)

steps_more : (journal : List Batch) (w : World) (history : List Entry) (e : Entry) → AreSteps journal w history
    → e.checks ≡ (step_of journal (fold (after_entry journal) w history) e).checks
    → e.reply ≡ (step_of journal (fold (after_entry journal) w history) e).reply → AreSteps journal w (history ++ e ∷ [])
steps_more journal w [] e steps checks reply = (checks, reply, tt)
steps_more journal w (x ∷ xs) e steps checks reply = (steps.0, steps.1, steps_more journal (after_entry journal w x) xs e steps.2 checks reply)

pub step_stands : StepStands
step_stands journal history w e stands version checks reply = record {
  world =
      ap (λ u. after_entry journal u e) stands.world ∙ sym (fold-append (after_entry journal) world_first history (e ∷ []));
  steps = steps_more journal world_first history e stands.steps
      (checks ∙ ap (λ u. (step_of journal u e).checks) stands.world) (reply ∙ ap (λ u. (step_of journal u e).reply) stands.world);
  versions = all_more (λ x. x.version ≤ length journal) history e stands.versions (omega (arith, version));
}

same_version : (journal more : List Batch) (n : ℕ) → n ≤ length journal → version_of journal n ≡ version_of (journal ++ more) n
same_version journal more n within = ap ruling (sym (take-append-le n journal more within))

same_step : (journal more : List Batch) (w : World) (e : Entry) → e.version ≤ length journal → step_of journal w e ≡ step_of (journal ++ more) w e
same_step journal more w e within = ap (λ v. step w v e.task e.call) (same_version journal more e.version within)

replay_longer : (journal more : List Batch) (w : World) (history : List Entry) → AllByRecursion (λ e. e.version ≤ length journal) history
    → fold (after_entry journal) w history ≡ fold (after_entry (journal ++ more)) w history
replay_longer journal more w [] within = refl
replay_longer journal more w (e ∷ es) within =
    ap (λ (s : Stepped). fold (after_entry journal) s.world es) (same_step journal more w e within.0)
    ∙ replay_longer journal more (after_entry (journal ++ more) w e) es within.1

steps_longer : (journal more : List Batch) (w : World) (history : List Entry) → AllByRecursion (λ e. e.version ≤ length journal) history
    → AreSteps journal w history → AreSteps (journal ++ more) w history
steps_longer journal more w [] within steps = tt
steps_longer journal more w (e ∷ es) within steps =
    let same = same_step journal more w e within.0 in (
      steps.0 ∙ ap (λ (s : Stepped). s.checks) same,
      steps.1 ∙ ap (λ (s : Stepped). s.reply) same,
      steps_longer journal more (after_entry (journal ++ more) w e) es within.1
          (subst (λ (s : Stepped). AreSteps journal s.world es) same steps.2),
    )

within_longer : (journal more : List Batch) (history : List Entry) → AllByRecursion (λ e. e.version ≤ length journal) history
    → AllByRecursion (λ e. e.version ≤ length (journal ++ more)) history
within_longer journal more [] within = tt
within_longer journal more (e ∷ es) within = (omega (arith, within.0, length-append journal more), within_longer journal more es within.1)

pub longer_stands : LongerStands
longer_stands journal more history w stands = record {
  world = stands.world ∙ replay_longer journal more world_first history stands.versions;
  steps = steps_longer journal more world_first history stands.versions stands.steps;
  versions = within_longer journal more history stands.versions;
}
