use Rattle.std.specs.Prelude.{◌≡◌, ℕ, ◌+◌, ◌<◌, ◌≤◌, ◌++◌, ◌∷◌, [], List, length, true, false}
use Rattle.smack_base.specs.declared.rule_op.RuleOp.{RuleOp}
use Rattle.smack_base.specs.declared.cap.Cap.TheVariants as Cap
use Rattle.rules_spec.specs.declared.Batch.{Batch}
use Rattle.rules_spec.specs.Rulings.{ruling}
use Rattle.rules_spec.specs.Creds.{Creds, is_effective}
use Rattle.rules_spec.specs.declared.Verdict.{Verdict}
use Rattle.world_spec.specs.declared.Call.{Call}
use Rattle.world_spec.specs.declared.Entry.{Entry}
use Rattle.world_spec.specs.declared.Reply.{Reply}
use Rattle.world_spec.specs.Steps.{step}
use Rattle.world_spec.specs.Replays.{replay_of}
use Rattle.live_table.specs.Lists.{Begins, Has}
use Rattle.live_table.specs.Batches.{batches_by, rows_of}
use Rattle.live_table.specs.Machines.{last_version, entries_by}
use Rattle.live_table.specs.Core.{row_count}
use Rattle.smack_world.specs.Stepping.{most_entries}
use Rattle.smack_kernel.specs.Histories.{world_means}
use Rattle.smack_kernel.specs.declared.publishing.Published.{Published}
use Rattle.smack_kernel.specs.declared.publishing.Published.TheVariants as Published

-- What a task has seen grows: the lists begin with the earlier ones, the task's number has these batches and entries
-- more, and its ended numbers have no more.
pub record Grows (number : ℕ) (ended : List ℕ) (j j' : List Batch) (h h' : List Entry) (bs : List Batch)
    (es : List Entry) : Type 0 where
  pub journal : Begins j' j
  pub history : Begins h' h
  pub own_batches : batches_by number j' ≡ batches_by number j ++ bs
  pub own_entries : entries_by world_means number h' ≡ entries_by world_means number h ++ es
  pub batches : (k : ℕ) → Has k ended → batches_by k j' ≡ batches_by k j
  pub entries : (k : ℕ) → Has k ended → entries_by world_means k h' ≡ entries_by world_means k h

abbrev pub batch_of : ℕ → ℕ → List RuleOp → Batch
batch_of task seq ops = record { task = task; seq = seq; ops = ops }

-- One batch more, which ends the journal: there was room for its rows, and the writer had CAP_MAC_ADMIN in the version
-- before it.
pub record Publishes (number : ℕ) (ended : List ℕ) (j j' : List Batch) (h h' : List Entry) (seq : ℕ) (ops : List RuleOp)
    (creds : Creds) : Type 0 where
  pub before : List Batch
  pub is : j' ≡ before ++ batch_of number seq ops ∷ []
  pub more : Begins before j
  pub grows : Grows number ended j j' h h' (batch_of number seq ops ∷ []) []
  pub effective : is_effective creds Cap.MacAdmin (ruling before) ≡ true
  pub fits : rows_of before + length ops + 1 ≤ row_count

abbrev pub told_entry : ℕ → ℕ → Call → ℕ → List Verdict → Reply → Entry
told_entry task seq call version checks reply =
    record { task = task; seq = seq; call = call; version = version; checks = checks; reply = reply }

-- One entry more, which ends the history: there was room for it. It is the step of its call in the world that the
-- entries before it leave, in the version that the task looked at while it had the turn, which is not below that of the
-- entry before.
pub record Enters (number : ℕ) (ended : List ℕ) (j j' : List Batch) (h h' : List Entry) (e : Entry) (place : ℕ)
    : Type 0 where
  pub before : List Entry
  pub is : h' ≡ before ++ e ∷ []
  pub room : length before < most_entries
  pub more : Begins before h
  pub own_before : entries_by world_means number before ≡ entries_by world_means number h
  pub grows : Grows number ended j j' h h' [] (e ∷ [])
  pub at : place ≡ length h'
  pub looked : List Batch
  pub seen : Begins j' looked
  pub all : Begins looked j
  pub now : e.version ≡ length looked
  pub checks : e.checks ≡ (step (replay_of looked before) (ruling looked) e.task e.call).checks
  pub reply : e.reply ≡ (step (replay_of looked before) (ruling looked) e.task e.call).reply
  pub recent : last_version world_means before ≤ e.version

-- What writes are judged by in a version: whether CAP_MAC_ADMIN is effective there, and then whether the journal has
-- room for their batch.
abbrev pub IsBatchJudged : List Batch → Creds → List RuleOp → Published → Type 0
IsBatchJudged journal creds ops Published.Batch =
    (is_effective creds Cap.MacAdmin (ruling journal) ≡ true) × (rows_of journal + length ops + 1 ≤ row_count)
IsBatchJudged journal creds ops Published.NotPrivileged = is_effective creds Cap.MacAdmin (ruling journal) ≡ false
IsBatchJudged journal creds ops (Published.JournalFull rows) =
    (is_effective creds Cap.MacAdmin (ruling journal) ≡ true) × (rows ≡ rows_of journal)
    × (row_count < rows + length ops + 1)

-- the journal after writes were judged
abbrev pub journal_after : List Batch → Batch → Published → List Batch
journal_after journal batch Published.Batch = journal ++ batch ∷ []
journal_after journal batch Published.NotPrivileged = journal
journal_after journal batch (Published.JournalFull rows) = journal

-- what came of writes whose text is good
abbrev pub IsPublished : ℕ → List ℕ → List Batch → List Batch → List Entry → List Entry → Batch → Creds → Published
    → Type 0
IsPublished number ended j j' h h' batch creds Published.Batch = Publishes number ended j j' h h' batch.seq batch.ops creds
IsPublished number ended j j' h h' batch creds Published.NotPrivileged =
    Grows number ended j j' h h' [] [] × IsBatchJudged j' creds batch.ops Published.NotPrivileged
IsPublished number ended j j' h h' batch creds (Published.JournalFull rows) =
    Grows number ended j j' h h' [] [] × IsBatchJudged j' creds batch.ops (Published.JournalFull rows)
