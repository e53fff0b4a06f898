use Rattle.std.specs.Prelude.{◌≡◌, ℕ, ◌+◌, ◌<◌, ◌≤◌, ◌++◌, ◌∷◌, [], List, length, Option, Some, None, true, false}
use Rattle.smack_base.specs.declared.ids.Pid.{Pid}
use Rattle.world_spec.specs.declared.Call.TheVariants as Call
use Rattle.world_spec.specs.declared.tasks.TaskCall.TheVariants as TaskCall
use Rattle.world_spec.specs.declared.Entry.{Entry}
use Rattle.world_spec.specs.Replays.{StandsOver}
use Rattle.smack_world.specs.Stepping.{WorldValue}
use Rattle.live_table.specs.declared.view.View.{View}
use Rattle.live_table.specs.Lists.{Begins, Has}
use Rattle.live_table.specs.Batches.{batches_by}
use Rattle.live_table.specs.Machines.{made, last_version, entries_by}
use Rattle.live_table.specs.Core.{opening_view}
use Rattle.live_table.specs.Seats.{Rests, SameCounts}
use Rattle.smack_kernel.specs.declared.turns.Turned.{Turned}
use Rattle.smack_kernel.specs.declared.turns.Turned.TheVariants as Turned
use Rattle.world_spec.specs.Replies.{child_of}
use Rattle.smack_kernel.specs.Histories.{world_means}
use Rattle.smack_kernel.specs.Tasks.{TaskValue, Starts}
use Rattle.smack_kernel.specs.Turns.{IsTurned}

-- the number of the task that a call in a turn made
abbrev pub task_made : Turned → Option ℕ
task_made (Turned.Entry r) = child_of r.reply
task_made (Turned.TrailFull back) = None

-- what came of a fork in a turn, which is not counted yet: the child is there exactly where a task was made
abbrev pub IsBranched : TaskValue → TaskValue → Pid → Turned → Option TaskValue → Type 0
IsBranched v w pid turned None = IsTurned v w (Call.Task (TaskCall.Fork pid)) turned × (task_made turned ≡ None)
IsBranched v w pid turned (Some c) =
    IsTurned v w (Call.Task (TaskCall.Fork pid)) turned × (task_made turned ≡ Some c.number) × Starts w c c.number

-- A world with one entry more than the seat has met, which has the turn: the entry is the seat's own and makes the next
-- task, and there is room for it.
pub record MayFork (v : View Entry) (x : WorldValue) (e : Entry) : Type 0 where
  pub history : x.trail ≡ v.history ++ e ∷ []
  pub stands : StandsOver v.journal x.trail x.world
  pub number : ℕ
  pub ended : List ℕ
  pub numbers : v.numbers ≡ number ∷ ended
  pub own : e.task ≡ number
  pub within : e.version ≤ length v.journal
  pub late : last_version world_means v.history ≤ e.version
  pub child : child_of e.reply ≡ Some (made world_means v.history + 1)
  pub few : made world_means v.history + 1 < 4096

-- A seat with the turn drew a number for a child, which has counted nothing, and knows that it is drawn.
pub record Drew (v w c : View Entry) (number : ℕ) : Type 0 where
  pub numbers : w.numbers ≡ v.numbers
  pub turn : w.turn ≡ v.turn
  pub pen : w.pen ≡ v.pen
  pub noticed : w.noticed ≡ true
  pub history : w.history ≡ v.history
  pub journal : Begins w.journal v.journal
  pub known : made world_means v.history + 2 ≤ w.known
  pub batches : (k : ℕ) → Has k v.numbers → batches_by k w.journal ≡ batches_by k v.journal
  pub is : number ≡ made world_means v.history + 1
  pub child_numbers : c.numbers ≡ number ∷ []
  pub child_history : c.history ≡ v.history
  pub child_rests : Rests c
  pub child_entries : entries_by world_means number c.history ≡ []
  pub child_batches : batches_by number c.journal ≡ []
  pub counts : SameCounts v w
  pub child_counts : SameCounts opening_view c

-- A seat gave the turn back with an entry that makes a task; its child has the number of that task and has seen what the
-- seat then has.
pub record Forks (v w c : View Entry) (number : ℕ) (e : Entry) : Type 0 where
  pub numbers : w.numbers ≡ v.numbers
  pub pen : w.pen ≡ v.pen
  pub turn : w.turn ≡ false
  pub history : w.history ≡ v.history ++ e ∷ []
  pub journal : Begins w.journal v.journal
  pub batches : (k : ℕ) → Has k v.numbers → batches_by k w.journal ≡ batches_by k v.journal
  pub is : number ≡ made world_means v.history + 1
  pub child_numbers : c.numbers ≡ number ∷ []
  pub child_journal : Begins c.journal w.journal
  pub child_history : c.history ≡ w.history
  pub child_rests : Rests c
  pub child_entries : entries_by world_means number c.history ≡ []
  pub child_batches : batches_by number c.journal ≡ []
  pub ended_loads : w.ended_loads ≡ v.ended_loads
  pub child_counts : SameCounts opening_view c
