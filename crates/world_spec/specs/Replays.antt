use Rattle.std.specs.Prelude.{◌≡◌, ◌≤◌, ℕ, Bool, ◌&&◌, ◌||◌, ◌==◌, if◌then◌else◌, List, [], ◌∷◌, length, take, fold, nat_lt}
use Rattle.std.specs.List.{list_any, AllByRecursion}
use Rattle.rules_spec.specs.declared.Batch.{Batch}
use Rattle.rules_spec.specs.Rulings.{Ruling, ruling}
use Rattle.rules_spec.specs.Creds.{Creds}
use Rattle.world_spec.specs.declared.Entry.{Entry}
use Rattle.world_spec.specs.Replies.{makes}
use Rattle.world_spec.specs.Worlds.{World, world_first, creds_of}
use Rattle.world_spec.specs.Steps.{Stepped, step}

-- what version n of a journal says
abbrev pub version_of : List Batch → ℕ → Ruling
version_of journal n = ruling (take n journal)

-- the step of an entry's call, at the entry's own version
abbrev pub step_of : List Batch → World → Entry → Stepped
step_of journal w e = step w (version_of journal e.version) e.task e.call

-- the world after one more entry
abbrev pub after_entry : List Batch → World → Entry → World
after_entry journal w e = (step_of journal w e).world

-- the world that the entries of a history leave
abbrev pub replay_of : List Batch → List Entry → World
replay_of journal history = fold (after_entry journal) world_first history

-- the checks and the reply of each entry are those of the step of its call, in the world that the entries before it leave
abbrev pub AreSteps : List Batch → World → List Entry → Type 0
AreSteps journal w [] = Unit {0}
AreSteps journal w (e ∷ es) =
    (e.checks ≡ (step_of journal w e).checks) × (e.reply ≡ (step_of journal w e).reply) × AreSteps journal (after_entry journal w e) es

-- A world stands for a history over a journal: it is the world that the history leaves, each entry of the history is the
-- step of its call, and none has a version that the journal lacks.
pub record StandsOver (journal : List Batch) (history : List Entry) (w : World) : Type 0 where
  pub world : w ≡ replay_of journal history
  pub steps : AreSteps journal world_first history
  pub versions : AllByRecursion (λ e. e.version ≤ length journal) history

-- an entry by which task k stands at its q-th call: one of its earlier calls, or the fork that made it
abbrev pub comes_before_call : ℕ → ℕ → Entry → Bool
comes_before_call k q e = ((e.task == k) && nat_lt e.seq q) || makes k e.reply

-- the entries up to the last that passes; none where none does
abbrev pub up_to_last : (Entry → Bool) → List Entry → List Entry
up_to_last test [] = []
up_to_last test (e ∷ es) = if list_any test (e ∷ es) then e ∷ up_to_last test es else []

-- the credentials of task k at its q-th call: as its call before left them, or else the fork that made it
abbrev pub cred_at : List Batch → List Entry → ℕ → ℕ → Creds
cred_at journal history k q = creds_of (replay_of journal (up_to_last (comes_before_call k q) history)) k
