use Rattle.std.specs.Prelude.{ℕ, Bool, ◌||◌, not, List, [], ◌∷◌, Option, Some, None, is_none, length, nat_le, nat_lt, if◌then◌else◌}
use Rattle.smack_base.specs.declared.ids.LabelId.{LabelId}
use Rattle.smack_base.specs.declared.cap.Cap.TheVariants as Cap
use Rattle.rules_spec.specs.Rulings.{Ruling}
use Rattle.rules_spec.specs.AskedModes.{read, write}
use Rattle.rules_spec.specs.Creds.{Creds, is_effective, is_listed, with_self_rules, most_self_rules, most_relabels, with_label, without_cap}
use Rattle.world_spec.specs.declared.Why.{Why}
use Rattle.world_spec.specs.declared.Why.TheVariants as Why
use Rattle.world_spec.specs.declared.Question.{Question}
use Rattle.world_spec.specs.declared.Question.TheVariants as Question
use Rattle.world_spec.specs.declared.Part.{Part}
use Rattle.world_spec.specs.declared.Part.TheVariants as Part
use Rattle.world_spec.specs.declared.tasks.TaskCall.{TaskCall}
use Rattle.world_spec.specs.declared.tasks.TaskCall.TheVariants as TaskCall
use Rattle.world_spec.specs.Signals.{is_signal, least_signal, with_signal, without_least}
use Rattle.world_spec.specs.Worlds.{World, was_made, live_task, creds_of, pending_of, most_tasks, TaskRow, creds_in, creds_or_first, pending_in, pending_or_none, with_creds, with_pending, without_life, with_child}
use Rattle.smack_base.specs.declared.ids.Pid.{Pid}
use Rattle.world_spec.specs.declared.Answer.{Answer}
use Rattle.world_spec.specs.declared.Answer.TheVariants as Answer
use Rattle.world_spec.specs.Questions.{asks_for, if_found}

abbrev pub may_relabel : Creds → Ruling → LabelId → Bool
may_relabel c version l = is_effective c Cap.MacAdmin version || is_listed c l

-- what a call on tasks is refused for and what it asks, where the caller has these credentials
abbrev pub task_asks : World → Ruling → ℕ → Creds → TaskCall → List Part
task_asks w version task c (TaskCall.Fork pid) =
    Part.Refuses (was_made w.tasks pid) Why.Exists ∷ Part.Refuses (nat_le most_tasks (length w.tasks)) (Why.TasksFull most_tasks) ∷ []
task_asks w version task c TaskCall.Exit = []
task_asks w version task c (TaskCall.Relabel l) = Part.Refuses (not (may_relabel c version l)) Why.NotPrivileged ∷ []
task_asks w version task c (TaskCall.DropCap cap) = []
task_asks w version task c (TaskCall.SelfRules rules) =
    Part.Refuses (nat_lt most_self_rules (length (with_self_rules c.self_rules rules))) (Why.SelfFull most_self_rules) ∷ []
task_asks w version task c (TaskCall.Relabels labels) =
    Part.Refuses (not (is_effective c Cap.MacAdmin version)) Why.NotPrivileged
    ∷ Part.Refuses (nat_lt most_relabels (length labels)) (Why.RelabelFull most_relabels) ∷ []
task_asks w version task c (TaskCall.Kill pid sig) = if_found (live_task w.tasks pid) Why.NoSuchTask
    (λ n. asks_for task c write (creds_of w n).label ∷ Part.Refuses (not (is_signal sig)) Why.Range ∷ [])
task_asks w version task c TaskCall.Take = Part.Refuses (is_none (least_signal (pending_of w task))) Why.Again ∷ []
task_asks w version task c (TaskCall.TraceRead pid) =
    if_found (live_task w.tasks pid) Why.NoSuchTask (λ n. asks_for task c read (creds_of w n).label ∷ [])
task_asks w version task c (TaskCall.TraceAttach pid) =
    if_found (live_task w.tasks pid) Why.NoSuchTask (λ n. Part.Asks (Question.Attach task (creds_of w n).label) ∷ [])

-- a task without CAP_MAC_ADMIN may take another label once
abbrev pub relabelled : Creds → Ruling → LabelId → Creds
relabelled c version l =
    if is_effective c Cap.MacAdmin version then with_label c l else record (with_label c l) { relabels = [] }

-- What a call does to the tasks: it keeps all as they are, the caller has these credentials, it is not live any more, it
-- begins a child of this pid, a signal comes to wait for the task of a number, or the caller takes its least signal.
pub data TaskEffect : Type 0 where
  NoChange : TaskEffect
  NewCreds : Creds → TaskEffect
  LifeEnds : TaskEffect
  NewChild : Pid → TaskEffect
  NewSignal : ℕ → ℕ → TaskEffect
  SignalTaken : TaskEffect

-- The tasks after a call of a task. A child has a copy of its parent's credentials and no signal that waits, and the
-- next number.
abbrev pub tasks_after : List TaskRow → ℕ → TaskEffect → List TaskRow
tasks_after tasks task NoChange = tasks
tasks_after tasks task (NewCreds creds) = with_creds tasks task creds
tasks_after tasks task LifeEnds = without_life tasks task
tasks_after tasks task (NewChild pid) = with_child tasks pid (creds_or_first (creds_in tasks task))
tasks_after tasks task (NewSignal n sig) = with_pending tasks n (with_signal (pending_or_none (pending_in tasks n)) sig)
tasks_after tasks task SignalTaken = with_pending tasks task (without_least (pending_or_none (pending_in tasks task)))

-- a signal comes to wait for the task of a number, where there is one
abbrev pub signalled : Option ℕ → ℕ → TaskEffect
signalled None sig = NoChange
signalled (Some n) sig = NewSignal n sig

-- the answer that tells a signal, where there is one
abbrev pub signal_answer : Option ℕ → Answer
signal_answer None = Answer.Ok
signal_answer (Some sig) = Answer.Signal sig

-- what a call on tasks leaves: what it does to the tasks, and an answer
pub record TaskLeft : Type 0 where
  pub change : TaskEffect
  pub answer : Answer

-- the call does this and says no more than that it was done
abbrev pub only_does : TaskEffect → TaskLeft
only_does change = record { change = change; answer = Answer.Ok }

abbrev pub task_left : World → Ruling → ℕ → TaskCall → TaskLeft
task_left w version task (TaskCall.Fork pid) = only_does (NewChild pid)
task_left w version task TaskCall.Exit = only_does LifeEnds
task_left w version task (TaskCall.Relabel l) = only_does (NewCreds (relabelled (creds_of w task) version l))
task_left w version task (TaskCall.DropCap cap) = only_does (NewCreds (without_cap (creds_of w task) cap))
task_left w version task (TaskCall.SelfRules rules) =
    only_does (NewCreds (record (creds_of w task) { self_rules = with_self_rules (creds_of w task).self_rules rules }))
task_left w version task (TaskCall.Relabels labels) = only_does (NewCreds (record (creds_of w task) { relabels = labels }))
task_left w version task (TaskCall.Kill pid sig) = only_does (signalled (live_task w.tasks pid) sig)
task_left w version task TaskCall.Take = record { change = SignalTaken; answer = signal_answer (least_signal (pending_of w task)) }
task_left w version task (TaskCall.TraceRead pid) = only_does NoChange
task_left w version task (TaskCall.TraceAttach pid) = only_does NoChange
