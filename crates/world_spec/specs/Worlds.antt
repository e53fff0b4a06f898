use Rattle.std.specs.Prelude.{ℕ, ◌+◌, ◌&&◌, ◌==◌, Bool, true, false, List, [], ◌∷◌, ◌++◌, Option, Some, None, length, map, position, zero, suc}
use Rattle.std.specs.List.{find, list_any, position_or_len, remove, slice_get}
use Rattle.std.specs.Option.{option_map}
use Rattle.std.specs.Str.{bytes_eq}
use Rattle.smack_base.specs.declared.ids.LabelId.{LabelId}
use Rattle.smack_base.specs.declared.ids.Pid.{Pid}
use Rattle.world_spec.specs.declared.FileRow.{FileRow}
use Rattle.rules_spec.specs.Versions.{floor}
use Rattle.rules_spec.specs.Creds.{Creds, creds_first}
pub use Rattle.tree_spec.specs.Listed.{in_byte_order}

-- A task: the caller's name for it, whether it is live, its credentials, and the signals that wait for it. A task that
-- has exited stays, with its credentials.
pub record TaskRow : Type 0 where
  pub pid : Pid
  pub live : Bool
  pub creds : Creds
  pub pending : List ℕ

-- The world: the tasks that were ever made, each at the place of its number; the label of the root directory; and the
-- files of the root, the oldest first.
pub record World : Type 0 where
  pub tasks : List TaskRow
  pub root : LabelId
  pub files : List FileRow

-- a task that begins, with no signal that waits
abbrev pub task_begun : Pid → Creds → TaskRow
task_begun pid creds = record { pid = pid; live = true; creds = creds; pending = [] }

-- the first task: number 0, pid 0
abbrev pub task_first : TaskRow
task_first = task_begun (record { 0 = 0 }) creds_first

-- the world before any call
abbrev pub world_first : World
world_first = record { tasks = task_first ∷ []; root = floor; files = [] }

-- the most tasks that are ever made, the first included
abbrev pub most_tasks : ℕ
most_tasks = 64

abbrev pub is_of_pid : Pid → TaskRow → Bool
is_of_pid pid r = r.pid.0 == pid.0

-- whether a task ever had the pid
abbrev pub was_made : List TaskRow → Pid → Bool
was_made tasks pid = list_any (is_of_pid pid) tasks

-- the number of the live task that has the pid, where there is one
abbrev pub live_task : List TaskRow → Pid → Option ℕ
live_task tasks pid = position (λ r. r.live && is_of_pid pid r) tasks

abbrev pub is_live_row : Option TaskRow → Bool
is_live_row None = false
is_live_row (Some r) = r.live

-- whether the task of a number is live; a number that no task ever had is not
abbrev pub is_live : List TaskRow → ℕ → Bool
is_live tasks task = is_live_row (slice_get tasks task)

-- the credentials of the task of a number, live or not, where there is one
abbrev pub creds_in : List TaskRow → ℕ → Option Creds
creds_in tasks task = option_map (λ r. r.creds) (slice_get tasks task)

abbrev pub creds_or_first : Option Creds → Creds
creds_or_first None = creds_first
creds_or_first (Some c) = c

-- the credentials of a task; those of the first task stand for a number that no task ever had
abbrev pub creds_of : World → ℕ → Creds
creds_of w task = creds_or_first (creds_in w.tasks task)

-- the signals that wait for the task of a number, where there is one
abbrev pub pending_in : List TaskRow → ℕ → Option (List ℕ)
pending_in tasks task = option_map (λ r. r.pending) (slice_get tasks task)

abbrev pub pending_or_none : Option (List ℕ) → List ℕ
pending_or_none None = []
pending_or_none (Some pending) = pending

-- the signals that wait for a task
abbrev pub pending_of : World → ℕ → List ℕ
pending_of w task = pending_or_none (pending_in w.tasks task)

-- the tasks when the row of a number is changed; all other rows are as before
abbrev pub changed_at : List TaskRow → ℕ → (TaskRow → TaskRow) → List TaskRow
changed_at [] task change = []
changed_at (r ∷ rs) zero change = change r ∷ rs
changed_at (r ∷ rs) (suc n) change = r ∷ changed_at rs n change

-- the task of a number has these credentials
abbrev pub with_creds : List TaskRow → ℕ → Creds → List TaskRow
with_creds tasks task creds = changed_at tasks task (λ r. record r { creds = creds })

-- these signals wait for the task of a number
abbrev pub with_pending : List TaskRow → ℕ → List ℕ → List TaskRow
with_pending tasks task pending = changed_at tasks task (λ r. record r { pending = pending })

-- the task of a number is not live
abbrev pub without_life : List TaskRow → ℕ → List TaskRow
without_life tasks task = changed_at tasks task (λ r. record r { live = false })

-- one more task, with the next number
abbrev pub with_child : List TaskRow → Pid → Creds → List TaskRow
with_child tasks pid creds = tasks ++ task_begun pid creds ∷ []

-- the most nodes of the tree, the root included
abbrev pub most_nodes : ℕ
most_nodes = 65536

-- the nodes of the tree, the root included
abbrev pub node_count : World → ℕ
node_count w = length w.files + 1

-- a file of this name
abbrev pub is_named : List ℕ → FileRow → Bool
is_named name r = bytes_eq r.name name

-- the label of the file of this name, where there is one
abbrev pub label_of : List FileRow → List ℕ → Option LabelId
label_of files name = option_map (λ r. r.label) (find (is_named name) files)

-- a file more
abbrev pub with_file : List FileRow → FileRow → List FileRow
with_file files f = files ++ f ∷ []

-- the file of this name is gone
abbrev pub without_file : List FileRow → List ℕ → List FileRow
without_file files name = remove files (position_or_len (is_named name) files)

abbrev pub file_names : List FileRow → List (List ℕ)
file_names files = map (λ f. f.name) files
