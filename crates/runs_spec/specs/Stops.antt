use Rattle.std.specs.Prelude.{◌⊎◌, ◌≡◌, ℕ, ◌+◌, ◌<◌, ◌≤◌, List, ◌∷◌, length, None}
use Rattle.smack_base.specs.declared.ids.Pid.{Pid}
use Rattle.world_spec.specs.declared.Call.TheVariants as Call
use Rattle.world_spec.specs.declared.tasks.TaskCall.TheVariants as TaskCall
use Rattle.world_spec.specs.declared.Entry.{Entry}
use Rattle.script_spec.specs.Lines.{ScriptLine}
use Rattle.legal_spec.specs.Calls.{IsForkOf}
use Rattle.smack_world.specs.Stepping.{most_entries}
use Rattle.live_table.specs.Lists.{Has}
use Rattle.world_spec.specs.Replies.{child_of}
use Rattle.smack_kernel.specs.Tasks.{TaskValue, most_calls}
use Rattle.runs_spec.specs.Scripts.{Scripted, lines_by}
use Rattle.runs_spec.specs.Deeds.{Deed, Made, FitsTo}

-- number k is that of a forked script task, and its calls are those of the first lines of this task
pub record IsForkedTask (s : Scripted) (w : TaskValue) (k : ℕ) : Type 0 where
  pub fork : Entry
  pub there : Has fork w.history
  pub pid : ℕ
  pub is : IsForkOf fork k (record { 0 = pid })
  pub calls : List Deed
  pub made : Made w.journal w.history k calls
  pub rest : List ScriptLine
  pub fits : FitsTo s k 1 calls (lines_by pid s.lines) rest

-- such a task is among those that the task adopted, and this holds of it
abbrev pub OfEnded : (s : Scripted) → (w : TaskValue) → ((k : ℕ) → IsForkedTask s w k → Type 0) → Type 0
OfEnded s w P = (k : ℕ) × Has k w.ended × (f : IsForkedTask s w k) × P k f

-- A task that was v and is w has made no call for some of these lines, or a task that it adopted has made none for some
-- of its own.
abbrev pub LacksCalls : Scripted → List ScriptLine → TaskValue → TaskValue → Type 0
LacksCalls s ls v w = (w.made < v.made + length ls) ⊎ OfEnded s w (λ k f. 0 < length f.rest)

-- the history has all entries that it may have, and some lines have no call
pub record IsOutOfEntries (s : Scripted) (ls : List ScriptLine) (v w : TaskValue) : Type 0 where
  pub full : most_entries ≤ length w.history
  pub lacks : LacksCalls s ls v w

-- a task, or one that it adopted, has made all calls that it may make
abbrev pub IsOutOfCalls : Scripted → TaskValue → Type 0
IsOutOfCalls s w = (most_calls ≤ w.made) ⊎ OfEnded s w (λ k f. most_calls ≤ length f.calls)

-- a fork of the task, or of one that it adopted, made no task
pub record HasForkedNone (w : TaskValue) : Type 0 where
  pub fork : Entry
  pub there : Has fork w.history
  pub own : Has fork.task (w.number ∷ w.ended)
  pub pid : Pid
  pub is : fork.call ≡ Call.Task (TaskCall.Fork pid)
  pub none : child_of fork.reply ≡ None
