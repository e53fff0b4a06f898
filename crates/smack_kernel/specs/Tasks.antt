use Rattle.std.specs.Prelude.{◌≡◌, ◌⊎◌, ℕ, ◌+◌, ◌<◌, ◌≤◌, ◌++◌, ◌∷◌, [], List, length}
use Rattle.atomic_table.specs.Seated.{TableId}
use Rattle.rules_spec.specs.declared.Batch.{Batch}
use Rattle.rules_spec.specs.Creds.{Creds, creds_first}
use Rattle.world_spec.specs.declared.Call.{Call}
use Rattle.world_spec.specs.declared.Entry.{Entry}
use Rattle.world_spec.specs.Worlds.{creds_of}
use Rattle.world_spec.specs.Replays.{StandsOver, replay_of}
use Rattle.rule_fold.specs.Index.{IndexValue}
use Rattle.live_table.specs.Lists.{Begins, Has, rest_of}
use Rattle.live_table.specs.Batches.{batches_by, rows_of}
use Rattle.live_table.specs.Machines.{entries_by}
use Rattle.live_table.specs.Seats.{SeatValue, NoticeValue, Rests}
use Rattle.smack_kernel.specs.declared.turns.Entered.{Entered}
use Rattle.smack_kernel.specs.Histories.{world_means}
use Rattle.smack_kernel.specs.Indexes.{StandsAt, version_rows}
use Rattle.smack_kernel.specs.Growth.{Grows, Enters, told_entry}

-- a kernel as contracts see it: which it is, and its labels
pub record KernelValue : Type 0 where
  pub table : TableId
  pub labels : List (List ℕ)

-- A task as contracts see it: its kernel and its number, how many calls it made, the version that its index stands for,
-- its credentials, the numbers that it adopted, and the journal and the history that it has seen. Its own batches are
-- those of its number in that journal, and its own entries those in that history. It counts the rows that it loaded, those
-- that each task had loaded which it adopted, its looks at what is published, and how often it took the pen.
pub record TaskValue : Type 0 where
  pub table : TableId
  pub number : ℕ
  pub made : ℕ
  pub version : ℕ
  pub creds : Creds
  pub ended : List ℕ
  pub journal : List Batch
  pub history : List Entry
  pub loads : ℕ
  pub ended_loads : List ℕ
  pub looks : ℕ
  pub pens : ℕ

-- what a notice tells
pub record ToldValue : Type 0 where
  pub table : TableId
  pub journal : List Batch
  pub history : List Entry

-- the most calls of a task
abbrev pub most_calls : ℕ
most_calls = 1048575

-- Seen together: each entry of the history is what its call came to, at a version that the journal has.
abbrev pub AreSeen : List Batch → List Entry → Type 0
AreSeen journal history = StandsOver journal history (replay_of journal history)

-- what holds of each task between its calls: its credentials are those that its number has in the world that the seen
-- history leaves
pub record IsTaskState (seat : SeatValue Entry) (rules : IndexValue) (rows : ℕ) (creds : Creds) : Type 0 where
  pub rests : Rests seat.view
  pub stands : StandsAt rules rows seat.view.journal
  pub apart : Has seat.number (rest_of seat.view.numbers) → ⊥
  pub numbered : seat.view.numbers ≡ seat.number ∷ rest_of seat.view.numbers
  pub low : seat.number < 4096
  pub seen : AreSeen seat.view.journal seat.view.history
  pub alive : seat.number < length (replay_of seat.view.journal seat.view.history).tasks
  pub is_creds : creds ≡ creds_of (replay_of seat.view.journal seat.view.history) seat.number

-- what holds of each notice
pub record IsTold (notice : NoticeValue Entry) : Type 0 where
  pub unnumbered : notice.view.numbers ≡ []
  pub seen : AreSeen notice.view.journal notice.view.history

-- the task of a seat, an index, a count of calls and credentials
abbrev pub task_of : SeatValue Entry → IndexValue → ℕ → Creds → TaskValue
task_of s rules made creds = record {
  table = s.table;
  number = s.number;
  made = made;
  version = rules.version;
  creds = creds;
  ended = rest_of s.view.numbers;
  journal = s.view.journal;
  history = s.view.history;
  loads = s.view.loads;
  ended_loads = s.view.ended_loads;
  looks = s.view.looks;
  pens = s.view.pens;
}

-- What a task has seen is sound: its number is that of a task in the world that the seen history leaves, and its
-- credentials are those of the number there; each entry is what its call came to, at a version that was seen.
pub record IsSound (v : TaskValue) : Type 0 where
  pub creds : v.creds ≡ creds_of (replay_of v.journal v.history) v.number
  pub alive : v.number < length (replay_of v.journal v.history).tasks
  pub seen : AreSeen v.journal v.history

-- the task of a new kernel
abbrev pub booted_task : TableId → TaskValue
booted_task table = record {
  table = table;
  number = 0;
  made = 0;
  version = 0;
  creds = creds_first;
  ended = [];
  journal = [];
  history = [];
  loads = 0;
  ended_loads = [];
  looks = 0;
  pens = 0;
}

-- A call of a task changes neither its kernel nor its number, and not its ended numbers; what it has seen grows, by these
-- batches and entries of its own; its index does not fall, and stands for a version of what it has seen.
pub record Does (v w : TaskValue) (bs : List Batch) (es : List Entry) : Type 0 where
  pub table : w.table ≡ v.table
  pub number : w.number ≡ v.number
  pub ended : w.ended ≡ v.ended
  pub grows : Grows v.number v.ended v.journal w.journal v.history w.history bs es
  pub later : v.version ≤ w.version
  pub within : w.version ≤ length w.journal
  pub ended_loads : w.ended_loads ≡ v.ended_loads

-- a call that is not counted
pub record Stays (v w : TaskValue) : Type 0 where
  pub does : Does v w [] []
  pub made : w.made ≡ v.made
  pub creds : w.creds ≡ v.creds

-- a counted call that makes neither batch nor entry: it answers in this version, which is all that the task has seen
pub record Answers (v w : TaskValue) (version : ℕ) : Type 0 where
  pub does : Does v w [] []
  pub made : w.made ≡ v.made + 1
  pub creds : w.creds ≡ v.creds
  pub now : version ≡ w.version
  pub whole : w.version ≡ length w.journal

-- the entry of a task's next call, with what the call answers
abbrev pub next_entry : TaskValue → Call → Entered → Entry
next_entry v call r = told_entry v.number (v.made + 1) call r.version r.checks r.reply

-- An object call: one entry more. The task's credentials are those that the history then leaves it with, and its index
-- stands for the version of the entry.
pub record Calls (v w : TaskValue) (call : Call) (r : Entered) : Type 0 where
  pub does : Does v w [] (next_entry v call r ∷ [])
  pub made : w.made ≡ v.made + 1
  pub now : r.version ≡ w.version
  pub creds : w.creds ≡ creds_of (replay_of w.journal w.history) v.number
  pub enters : Enters v.number v.ended v.journal w.journal v.history w.history (next_entry v call r) r.place

-- The child of a fork, beside its parent after the call: it has seen what its parent has, and has neither made nor loaded
-- anything.
pub record Starts (w c : TaskValue) (number : ℕ) : Type 0 where
  pub table : c.table ≡ w.table
  pub is_number : c.number ≡ number
  pub made : c.made ≡ 0
  pub version : c.version ≡ w.version
  pub creds : c.creds ≡ w.creds
  pub ended : c.ended ≡ []
  pub journal : Begins c.journal w.journal
  pub history : Begins c.history w.history
  pub batches : batches_by number c.journal ≡ []
  pub entries : entries_by world_means number c.history ≡ []
  pub within : c.version ≤ length c.journal
  pub loads : c.loads ≡ 0
  pub ended_loads : c.ended_loads ≡ []
  pub looks : c.looks ≡ 0
  pub pens : c.pens ≡ 0

-- the task has loaded no row since, nor looked, nor taken the pen
pub record KeepsCounts (v w : TaskValue) : Type 0 where
  pub loads : w.loads ≡ v.loads
  pub looks : w.looks ≡ v.looks
  pub pens : w.pens ≡ v.pens

-- a task that heard a notice has seen what the notice has, and its index is as before
pub record Hears (v : TaskValue) (n : ToldValue) (w : TaskValue) : Type 0 where
  pub stays : Stays v w
  pub version : w.version ≡ v.version
  pub counts : KeepsCounts v w
  pub told_journal : Begins w.journal n.journal
  pub told_history : Begins w.history n.history

-- A task that adopted another has seen what both had. The numbers of the other are ended numbers of it, and each number
-- has the batches and entries that it had; its index has the greater version of the two.
pub record Adopts (v c w : TaskValue) : Type 0 where
  pub table : w.table ≡ v.table
  pub number : w.number ≡ v.number
  pub made : w.made ≡ v.made
  pub creds : w.creds ≡ v.creds
  pub ended : w.ended ≡ v.ended ++ c.number ∷ c.ended
  pub journal : Begins w.journal v.journal
  pub history : Begins w.history v.history
  pub told_journal : Begins w.journal c.journal
  pub told_history : Begins w.history c.history
  pub apart : (k : ℕ) → Has k (v.number ∷ v.ended) → Has k (c.number ∷ c.ended) → ⊥
  pub batches : (k : ℕ) → Has k (v.number ∷ v.ended) → batches_by k w.journal ≡ batches_by k v.journal
  pub entries : (k : ℕ) → Has k (v.number ∷ v.ended)
      → entries_by world_means k w.history ≡ entries_by world_means k v.history
  pub told_batches : (k : ℕ) → Has k (c.number ∷ c.ended) → batches_by k w.journal ≡ batches_by k c.journal
  pub told_entries : (k : ℕ) → Has k (c.number ∷ c.ended)
      → entries_by world_means k w.history ≡ entries_by world_means k c.history
  pub version : v.version ≤ w.version
  pub told_version : c.version ≤ w.version
  pub greater : (w.version ≡ v.version) ⊎ (w.version ≡ c.version)
  pub ended_loads : w.ended_loads ≡ v.ended_loads ++ c.loads ∷ c.ended_loads
  pub counts : KeepsCounts v w
  pub within : w.version ≤ length w.journal

-- In one call no more rows are loaded than those that the task has seen after it and its index had not taken before it.
abbrev pub Loads : TaskValue → TaskValue → Type 0
Loads v w = w.loads + version_rows v.journal v.version ≤ v.loads + rows_of w.journal

-- Without want of memory no more are loaded than those that its index has taken in the call: no row twice.
abbrev pub LoadsOnce : TaskValue → TaskValue → Type 0
LoadsOnce v w = w.loads + version_rows v.journal v.version ≤ v.loads + version_rows w.journal w.version
