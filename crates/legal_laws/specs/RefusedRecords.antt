use Rattle.std.specs.Prelude.{◌≡◌, ℕ, List, [], ◌∷◌, ◌++◌, Some, None, true, false, codes}
use Rattle.smack_base.specs.declared.ids.LabelId.{LabelId}
use Rattle.smack_base.specs.declared.ids.Pid.{Pid}
use Rattle.smack_base.specs.declared.cap.Cap.TheVariants as Cap
use Rattle.smack_base.specs.declared.rule_op.RuleOp.{RuleOp}
use Rattle.text_spec.specs.Names.{predefined}
use Rattle.rules_spec.specs.AskedModes.{read}
use Rattle.rules_spec.specs.Versions.{floor}
use Rattle.rules_spec.specs.declared.Batch.{Batch}
use Rattle.rules_spec.specs.declared.Verdict.{Verdict}
use Rattle.file_spec.specs.declared.Refusal.TheVariants as Refusal
use Rattle.world_spec.specs.declared.Call.TheVariants as Call
use Rattle.world_spec.specs.declared.tasks.TaskCall.{TaskCall}
use Rattle.world_spec.specs.declared.trees.TreeCall.TheVariants as TreeCall
use Rattle.world_spec.specs.declared.Reply.{Reply}
use Rattle.world_spec.specs.declared.Why.TheVariants as Why
use Rattle.world_spec.specs.declared.Entry.{Entry}
use Rattle.record_spec.specs.declared.AskedLine.{AskedLine}
use Rattle.record_spec.specs.declared.AskedWhat.{AskedWhat}
use Rattle.record_spec.specs.declared.RunRecord.{RunRecord}
use Rattle.legal_spec.specs.Legal.{IsLegal}
use Rattle.legal_forms.specs.Forms.{wrong_place}

-- two labels that the table has behind the predefined ones
abbrev pub a_label : LabelId
a_label = record { 0 = 5 }

abbrev pub c_label : LabelId
c_label = record { 0 = 6 }

-- a child, and a child of the child
abbrev pub b_pid : Pid
b_pid = record { 0 = 1 }

abbrev pub c_pid : Pid
c_pid = record { 0 = 2 }

-- a record of two tasks and two labels
abbrev pub record_of : List Batch → List Entry → List AskedLine → RunRecord
record_of journal history asked = record {
  labels = predefined ++ codes "A" ∷ codes "C" ∷ [];
  names = codes "init" ∷ codes "B" ∷ [];
  journal = journal;
  history = history;
  asked = asked;
}

abbrev pub batch_of_one : ℕ → ℕ → RuleOp → Batch
batch_of_one task seq op = record { task = task; seq = seq; ops = op ∷ [] }

abbrev pub entered_call : ℕ → ℕ → ℕ → TaskCall → Reply → Entry
entered_call task seq version call reply = record {
  task = task;
  seq = seq;
  call = Call.Task call;
  version = version;
  checks = [];
  reply = reply;
}

abbrev pub asked_at : ℕ → ℕ → ℕ → AskedWhat → AskedLine
asked_at task seq version what = record { task = task; seq = seq; version = version; what = what }

-- reading is allowed by a rule; without one it is denied
abbrev pub by_rule : Verdict
by_rule = record { allowed = true; case = 6; over = 0; subject = a_label; object = c_label; modes = read }

abbrev pub without_rule : Verdict
without_rule = record { allowed = false; case = 7; over = 0; subject = a_label; object = c_label; modes = read }

-- an ask in a version older than that of its task's own batch
abbrev pub stale_ask : RunRecord
stale_ask = record_of (batch_of_one 0 1 (RuleOp.Set a_label c_label read) ∷ []) [] (asked_at 0 2 0 (AskedWhat.Ask without_rule) ∷ [])

-- an ask with another answer than the ordered cases give in its version
abbrev pub wrong_answer : RunRecord
wrong_answer = record_of [] [] (asked_at 0 1 0 (AskedWhat.Ask by_rule) ∷ [])

-- a child that asks in a version older than that of the fork that made it
abbrev pub stale_child : RunRecord
stale_child = record_of (batch_of_one 0 1 (RuleOp.Set a_label c_label read) ∷ []) (entered_call 0 2 1 (TaskCall.Fork b_pid) (Reply.Child 1) ∷ [])
    (asked_at 1 1 0 (AskedWhat.Ask without_rule) ∷ [])

-- a wait in a version older than the one that the child reached by its batch
abbrev pub early_wait : RunRecord
early_wait = record_of (batch_of_one 1 1 (RuleOp.Set a_label c_label read) ∷ []) (entered_call 0 1 0 (TaskCall.Fork b_pid) (Reply.Child 1) ∷ [])
    (asked_at 0 2 0 (AskedWhat.Wait b_pid) ∷ [])

-- an object call of a waiter that stands before one of the task that it waited for
abbrev pub early_entry : RunRecord
early_entry = record_of [] (entered_call 0 1 0 (TaskCall.Fork b_pid) (Reply.Child 1) ∷ entered_call 0 3 0 TaskCall.Take (Reply.Refused Why.Again) ∷ entered_call 1 1 0 TaskCall.Exit Reply.Ok ∷ [])
    (asked_at 0 2 0 (AskedWhat.Wait b_pid) ∷ [])

-- an object call of a child before the fork that made it
abbrev pub early_child : RunRecord
early_child = record_of [] (entered_call 1 1 0 TaskCall.Take (Reply.Refused Why.NoSuchTask) ∷ entered_call 0 1 0 (TaskCall.Fork b_pid) (Reply.Child 1) ∷ []) []

-- batches that stand in another order than their task made them
abbrev pub swapped_batches : RunRecord
swapped_batches = record_of (batch_of_one 0 2 (RuleOp.Revoke a_label) ∷ batch_of_one 0 1 (RuleOp.Set a_label c_label read) ∷ []) [] []

-- a batch of a task that gave CAP_MAC_ADMIN up
abbrev pub unprivileged_batch : RunRecord
unprivileged_batch = record_of (batch_of_one 0 2 (RuleOp.Set a_label c_label read) ∷ []) (entered_call 0 1 0 (TaskCall.DropCap Cap.MacAdmin) Reply.Ok ∷ []) []

-- an object call in a version below that of the one before it, which another task made
abbrev pub falling_version : RunRecord
falling_version = record_of (batch_of_one 0 2 (RuleOp.Set a_label c_label read) ∷ [])
    (entered_call 0 1 0 (TaskCall.Fork b_pid) (Reply.Child 1) ∷ entered_call 0 3 1 TaskCall.Take (Reply.Refused Why.Again) ∷ entered_call 1 1 0 TaskCall.Take (Reply.Refused Why.Again) ∷ []) []

-- asked lines that stand in another order than their task asked them
abbrev pub swapped_lines : RunRecord
swapped_lines = record_of [] [] (asked_at 0 2 0 (AskedWhat.Ask without_rule) ∷ asked_at 0 1 0 (AskedWhat.Ask without_rule) ∷ [])

-- a call of a task that nobody made
abbrev pub unknown_task : RunRecord
unknown_task = record_of [] [] (asked_at 1 1 0 (AskedWhat.Ask without_rule) ∷ [])

-- a call number that is left out
abbrev pub missing_number : RunRecord
missing_number = record_of [] (entered_call 0 2 0 TaskCall.Take (Reply.Refused Why.Again) ∷ []) []

-- two tasks of one name
abbrev pub name_twice : RunRecord
name_twice = record (record_of [] [] []) { names = codes "init" ∷ codes "init" ∷ [] }

-- an object call with another reply than its step gives: no signal waits
abbrev pub wrong_reply : RunRecord
wrong_reply = record_of [] (entered_call 0 1 0 TaskCall.Take Reply.Ok ∷ []) []

-- the first task lists the root with these checks
abbrev pub listed_with : List Verdict → RunRecord
listed_with checks = record_of [] (record {
  task = 0;
  seq = 1;
  call = Call.Tree (TreeCall.ListDir [] 0);
  version = 0;
  checks = checks;
  reply = Reply.Names 0 [];
} ∷ []) []

-- an object call with another check than its step makes, which is case 3, and one without it
abbrev pub wrong_check : RunRecord
wrong_check = listed_with (record { allowed = true; case = 5; over = 0; subject = floor; object = floor; modes = read } ∷ [])

abbrev pub missing_check : RunRecord
missing_check = listed_with []

-- an object call in a version that the journal lacks
abbrev pub entry_beyond : RunRecord
entry_beyond = record_of [] (entered_call 0 1 1 TaskCall.Take (Reply.Refused Why.Again) ∷ []) []

-- an ask in a version that the journal lacks
abbrev pub ask_beyond : RunRecord
ask_beyond = record_of [] [] (asked_at 0 1 1 (AskedWhat.Ask without_rule) ∷ [])

-- a write that is refused for want of the privilege that its task has
abbrev pub privileged_refusal : RunRecord
privileged_refusal = record_of [] [] (asked_at 0 1 0 (AskedWhat.Refused (codes "load2") Refusal.NotPrivileged) ∷ [])

-- a write of self rules, which wants no privilege, that is refused for want of it
abbrev pub own_file_refusal : RunRecord
own_file_refusal = record_of [] (entered_call 0 1 0 (TaskCall.DropCap Cap.MacAdmin) Reply.Ok ∷ [])
    (asked_at 0 2 0 (AskedWhat.Refused (codes "load-self2") Refusal.NotPrivileged) ∷ [])

-- a write that is refused for want of room beside more rows than the journal has
abbrev pub wrong_rows : RunRecord
wrong_rows = record_of [] [] (asked_at 0 1 0 (AskedWhat.Refused (codes "load2") (Refusal.JournalFull 1048576)) ∷ [])

-- a wait in a version older than the one that the child's child reached by its batch
abbrev pub wait_below_grandchild : RunRecord
wait_below_grandchild = record_of (batch_of_one 2 1 (RuleOp.Set a_label c_label read) ∷ [])
    (entered_call 0 1 0 (TaskCall.Fork b_pid) (Reply.Child 1) ∷ entered_call 1 1 0 (TaskCall.Fork c_pid) (Reply.Child 2) ∷ []) (asked_at 0 2 0 (AskedWhat.Wait b_pid) ∷ [])

-- a wait that stands before the fork of the task that it waits for
abbrev pub wait_before_fork : RunRecord
wait_before_fork = record_of [] (entered_call 0 2 0 (TaskCall.Fork b_pid) (Reply.Child 1) ∷ [])
    (asked_at 0 1 0 (AskedWhat.Wait b_pid) ∷ asked_at 1 1 0 (AskedWhat.Ask without_rule) ∷ [])

-- a wait for the child of another task
abbrev pub wait_for_sibling : RunRecord
wait_for_sibling = record_of [] (entered_call 0 1 0 (TaskCall.Fork b_pid) (Reply.Child 1) ∷ entered_call 0 2 0 (TaskCall.Fork c_pid) (Reply.Child 2) ∷ [])
    (asked_at 2 1 0 (AskedWhat.Wait b_pid) ∷ [])

-- a wait for a task that nobody made
abbrev pub wait_for_nobody : RunRecord
wait_for_nobody = record_of [] [] (asked_at 0 1 0 (AskedWhat.Wait b_pid) ∷ [])

-- What the definitions refuse.
pub record RefusedRecords : Type 0 where
  pub ask : IsLegal stale_ask → ⊥
  pub answer : IsLegal wrong_answer → ⊥
  pub child : IsLegal stale_child → ⊥
  pub wait : IsLegal early_wait → ⊥
  pub waiter : IsLegal early_entry → ⊥
  pub fork : IsLegal early_child → ⊥
  pub batches : IsLegal swapped_batches → ⊥
  pub privilege : IsLegal unprivileged_batch → ⊥
  pub version : IsLegal falling_version → ⊥
  pub lines : IsLegal swapped_lines → ⊥
  pub task : IsLegal unknown_task → ⊥
  pub number : IsLegal missing_number → ⊥
  pub name : IsLegal name_twice → ⊥
  pub reply : IsLegal wrong_reply → ⊥
  pub check : IsLegal wrong_check → ⊥
  pub no_check : IsLegal missing_check → ⊥
  pub entry_within : IsLegal entry_beyond → ⊥
  pub ask_within : IsLegal ask_beyond → ⊥
  pub effective : IsLegal privileged_refusal → ⊥
  pub own_file : IsLegal own_file_refusal → ⊥
  pub rows : IsLegal wrong_rows → ⊥
  pub descendant : IsLegal wait_below_grandchild → ⊥
  pub early : IsLegal wait_before_fork → ⊥
  pub other_child : IsLegal wait_for_sibling → ⊥
  pub no_child : IsLegal wait_for_nobody → ⊥
  -- the place of the first entry that is not judged, counted from 0; all entries of the last are
  pub falls_at : wrong_place falling_version ≡ Some 2
  pub replies_at : wrong_place wrong_reply ≡ Some 0
  pub nowhere : wrong_place early_entry ≡ None
