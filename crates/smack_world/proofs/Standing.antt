use Rattle.std.proofs.Common.{◌≡◌, ℕ, List, length, refl, sym, ap, subst, ◌∙◌}
use Rattle.std.proofs.Math.Seq.{take-length}
use Rattle.rules_spec.specs.declared.Batch.{Batch}
use Rattle.rules_spec.specs.Rulings.{Ruling, ruling}
use Rattle.world_spec.specs.declared.Call.{Call}
use Rattle.world_spec.specs.Steps.{step}
use Rattle.world_spec.specs.Replays.{StandsOver, version_of}
use Rattle.world_laws.proofs.Standing.{step_stands}
use Rattle.smack_world.specs.Stepping.{WorldValue, entry_of, with_entry}

newest : (journal : List Batch) → ruling journal ≡ version_of journal (length journal)
newest journal = ap ruling (sym (take-length journal))

at_newest : (before : WorldValue) (journal : List Batch) (task seq : ℕ) (call : Call) → StandsOver journal before.trail before.world
    → StandsOver journal (with_entry before (ruling journal) task seq call).trail (with_entry before (ruling journal) task seq call).world
at_newest before journal task seq call stands =
    let same = newest journal in
    subst (λ (v : Ruling). StandsOver journal (with_entry before (ruling journal) task seq call).trail (step before.world v task call).world) (sym same)
    (step_stands journal before.trail before.world (entry_of before (ruling journal) task seq call) stands refl
    (ap (λ (v : Ruling). (step before.world v task call).checks) same) (ap (λ (v : Ruling). (step before.world v task call).reply) same))

-- a step in the newest version of a journal leaves a world that stands for its trail over it
pub entered_stands : (before after : WorldValue) (version : Ruling) (task seq : ℕ) (call : Call) (journal : List Batch)
    → after ≡ with_entry before version task seq call → version ≡ ruling journal → StandsOver journal before.trail before.world
    → StandsOver journal after.trail after.world
entered_stands before after version task seq call journal is newest_one stands =
    subst (λ (w : WorldValue). StandsOver journal w.trail w.world)
    (sym (is ∙ ap (λ (v : Ruling). with_entry before v task seq call) newest_one))
    (at_newest before journal task seq call stands)
