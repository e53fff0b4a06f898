use Rattle.std.specs.Prelude.{◌≡◌, ◌<◌, ℕ, false, List, [], ◌∷◌, ◌++◌, length}
use Rattle.std.specs.List.{AllByRecursion}
use Rattle.rules_spec.specs.declared.Batch.{Batch}
use Rattle.rules_spec.specs.Rulings.{Ruling}
use Rattle.world_spec.specs.declared.Call.{Call}
use Rattle.world_spec.specs.declared.Entry.{Entry}
use Rattle.world_spec.specs.Replies.{makes}
use Rattle.world_spec.specs.Worlds.{World, world_first, creds_of}
use Rattle.world_spec.specs.Steps.{step}
use Rattle.world_spec.specs.Replays.{StandsOver, AreSteps, step_of, replay_of, after_entry, comes_before_call, cred_at}

abbrev pub FirstStands : Type 0
FirstStands = (journal : List Batch) → StandsOver journal [] world_first

-- an entry whose version is the newest, and whose checks and reply are those of its step
abbrev pub StepStands : Type 0
StepStands = (journal : List Batch) (history : List Entry) (w : World) (e : Entry) → StandsOver journal history w → e.version ≡ length journal
    → e.checks ≡ (step_of journal w e).checks → e.reply ≡ (step_of journal w e).reply
    → StandsOver journal (history ++ e ∷ []) (after_entry journal w e)

abbrev pub LongerStands : Type 0
LongerStands = (journal more : List Batch) (history : List Entry) (w : World) → StandsOver journal history w → StandsOver (journal ++ more) history w

abbrev pub OthersKeepCreds : Type 0
OthersKeepCreds = (w : World) (version : Ruling) (task k : ℕ) (call : Call) → (task ≡ k → ⊥)
    → makes k (step w version task call).reply ≡ false → creds_of (step w version task call).world k ≡ creds_of w k

abbrev pub OthersKeepCredAt : Type 0
OthersKeepCredAt = (journal : List Batch) (history : List Entry) (e : Entry) (k q : ℕ) → comes_before_call k q e ≡ false
    → cred_at journal (history ++ e ∷ []) k q ≡ cred_at journal history k q

abbrev pub CredAtIsNow : Type 0
CredAtIsNow = (journal : List Batch) (history : List Entry) (k q : ℕ) → AreSteps journal world_first history
    → AllByRecursion (λ e. e.task ≡ k → e.seq < q) history → cred_at journal history k q ≡ creds_of (replay_of journal history) k
