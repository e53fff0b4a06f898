use Rattle.std.specs.Prelude.{◌≡◌, ◌≤◌, ◌<◌, ℕ, ◌+◌, true, false, ◌&&◌, if◌then◌else◌, List, length, take, nat_le, is_some}
use Rattle.std.specs.List.{sum_by}
use Rattle.smack_base.specs.declared.ids.Pid.{Pid}
use Rattle.smack_base.specs.declared.cap.Cap.TheVariants as Cap
use Rattle.rules_spec.specs.declared.Batch.{Batch}
use Rattle.rules_spec.specs.Cases.{verdict_of_cases}
use Rattle.rules_spec.specs.Creds.{is_effective}
use Rattle.file_spec.specs.declared.Refusal.{Refusal}
use Rattle.file_spec.specs.declared.Refusal.TheVariants as Refusal
use Rattle.file_spec.specs.Writes.{rule_file}
use Rattle.world_spec.specs.declared.Entry.{Entry}
use Rattle.world_spec.specs.Replays.{version_of, cred_at}
use Rattle.record_spec.specs.declared.AskedLine.{AskedLine}
use Rattle.record_spec.specs.declared.AskedWhat.{AskedWhat}
use Rattle.record_spec.specs.declared.AskedWhat.TheVariants as AskedWhat
use Rattle.record_spec.specs.declared.RunRecord.{RunRecord}
use Rattle.replay_spec.specs.Laws.{calls_at}
use Rattle.replay_spec.specs.Plain.{IsNameTable}
use Rattle.legal_spec.specs.Calls.{Stands, IsForkOf, IsTask, IsCall, IsBefore, call_count, Descends}
use Rattle.legal_spec.specs.Entries.{ShowsAs, AreEntries}

-- Each call once and in order.
pub record IsEachCallOnce (r : RunRecord) : Type 0 where
  -- the calls of a task are numbered 1, 2, .. up to how many it has, each once
  pub once : (task seq : ℕ)
      → calls_at r task seq ≡ (if nat_le 1 seq && nat_le seq (call_count r task) then 1 else 0)
  -- the object calls of a task stand in the order of their numbers
  pub rising : (i k : ℕ) (e f : Entry) → Stands r.history i e → Stands r.history k f → i < k → e.task ≡ f.task
      → e.seq < f.seq
  -- the other lines stand by task, and those of a task in the order of their numbers
  pub listed : (i k : ℕ) (a b : AskedLine) → Stands r.asked i a → Stands r.asked k b → i < k → IsBefore a b
  -- only tasks make calls
  pub of_tasks : (task seq needs reaches : ℕ) → IsCall r task seq needs reaches → IsTask r.history task
  -- the object calls of a child stand behind the fork that made it
  pub behind_fork : (i k : ℕ) (fork e : Entry) (pid : Pid) → Stands r.history i fork → IsForkOf fork e.task pid
      → Stands r.history k e → i < k

-- The object calls, which are steps of one world, one after another.
abbrev pub AreJudged : RunRecord → Type 0
AreJudged = AreEntries ShowsAs

-- Each batch was published by a task that had CAP_MAC_ADMIN effective in the version before it.
abbrev pub ArePrivileged : RunRecord → Type 0
ArePrivileged r = (i : ℕ) (b : Batch) → Stands r.journal i b
    → is_effective (cred_at r.journal r.history b.task b.seq) Cap.MacAdmin (version_of r.journal i) ≡ true

-- the rows that a version takes: for each batch its writes and one
abbrev pub rows_taken : List Batch → ℕ
rows_taken version = sum_by (λ b. length b.ops + 1) version

-- A batch is refused for want of privilege, or for want of room, only where a file of rules or settings is written.
-- Other refusals are of the text, which the record does not have.
abbrev pub IsRefused : RunRecord → AskedLine → List ℕ → Refusal → Type 0
IsRefused r a file Refusal.NoSuchFile = Unit {0}
IsRefused r a file Refusal.TooLong = Unit {0}
IsRefused r a file (Refusal.BadLine bad) = Unit {0}
IsRefused r a file (Refusal.UnknownLabel line) = Unit {0}
IsRefused r a file Refusal.NotPrivileged =
    (is_some (rule_file file) ≡ true)
    × (is_effective (cred_at r.journal r.history a.task a.seq) Cap.MacAdmin (version_of r.journal a.version) ≡ false)
IsRefused r a file (Refusal.JournalFull rows) = (is_some (rule_file file) ≡ true) × (rows ≡ rows_taken (take a.version r.journal))

-- what a line says that is neither a batch nor an object call is so in its version
abbrev pub IsSo : RunRecord → AskedLine → AskedWhat → Type 0
IsSo r a (AskedWhat.Ask v) = v ≡ verdict_of_cases (version_of r.journal a.version) v.subject v.object v.modes
IsSo r a (AskedWhat.Refused file fault) = IsRefused r a file fault
IsSo r a (AskedWhat.Wait pid) = Unit {0}

-- The asked, refused and waited lines.
abbrev pub AreAnswered : RunRecord → Type 0
AreAnswered r = (i : ℕ) (a : AskedLine) → Stands r.asked i a → (a.version ≤ length r.journal) × IsSo r a a.what

-- A task that waited for its child, which an earlier call of its own forked, has been told of all that the child and
-- those that descend from it did.
pub record HasWaited (r : RunRecord) (a : AskedLine) (pid : Pid) : Type 0 where
  pub number : ℕ
  pub place : ℕ
  pub fork : Entry
  pub there : Stands r.history place fork
  pub is : IsForkOf fork number pid
  pub own : fork.task ≡ a.task
  pub after : fork.seq < a.seq
  -- none of their calls reached more than the version of the wait
  pub told : (task seq needs reaches : ℕ) → Descends r.history number task → IsCall r task seq needs reaches
      → reaches ≤ a.version
  -- what the waiter enters afterwards stands behind all their entries
  pub behind : (i k : ℕ) (e f : Entry) → Descends r.history number e.task → Stands r.history i e
      → Stands r.history k f → f.task ≡ a.task → a.seq < f.seq → i < k

-- No call is judged in a version older than its task had seen or been told of.
pub record IsFresh (r : RunRecord) : Type 0 where
  -- seen: what each earlier call of the task reached
  pub seen : (task seq needs reaches seq' needs' reaches' : ℕ) → IsCall r task seq needs reaches
      → IsCall r task seq' needs' reaches' → seq < seq' → reaches ≤ needs'
  -- told by the fork that made the task
  pub forked : (i : ℕ) (fork : Entry) (pid : Pid) (task seq needs reaches : ℕ) → Stands r.history i fork
      → IsForkOf fork task pid → IsCall r task seq needs reaches → fork.version ≤ needs
  -- told by waiting
  pub waited : (i : ℕ) (a : AskedLine) (pid : Pid) → Stands r.asked i a → a.what ≡ AskedWhat.Wait pid → HasWaited r a pid

-- A record is legal: it is one history of one world, under one journal of rules, whatever the order in which the tasks
-- ran.
pub record IsLegal (r : RunRecord) : Type 0 where
  -- the names of its tasks are names, and distinct
  pub names : IsNameTable r.names
  pub calls : IsEachCallOnce r
  pub entries : AreJudged r
  pub batches : ArePrivileged r
  pub asked : AreAnswered r
  pub fresh : IsFresh r
