use Rattle.std.specs.Prelude.{◌≡◌, ℕ, true, false, List, [], ◌∷◌, map, codes}
use Rattle.smack_base.specs.declared.modes.Modes.{Modes}
use Rattle.smack_base.specs.declared.ids.LabelId.{LabelId}
use Rattle.smack_base.specs.declared.ids.Pid.{Pid}
use Rattle.smack_base.specs.declared.rule_op.RuleOp.TheVariants as RuleOp
use Rattle.smack_base.specs.Modes.{no_modes}
use Rattle.rules_spec.specs.declared.Batch.{Batch}
use Rattle.rules_spec.specs.declared.Verdict.{Verdict}
use Rattle.world_spec.specs.declared.Call.TheVariants as Call
use Rattle.world_spec.specs.declared.tasks.TaskCall.TheVariants as TaskCall
use Rattle.world_spec.specs.declared.Reply.TheVariants as Reply
use Rattle.world_spec.specs.declared.Entry.{Entry}
use Rattle.record_spec.specs.declared.AskedLine.{AskedLine}
use Rattle.record_spec.specs.declared.AskedWhat.TheVariants as AskedWhat
use Rattle.record_spec.specs.declared.RunRecord.{RunRecord}
use Rattle.record_spec.specs.Show.{labels_shown, names_shown}

abbrev pub numbered_label : ℕ → LabelId
numbered_label n = record { 0 = n }

abbrev pub task_pid : ℕ → Pid
task_pid n = record { 0 = n }

-- `init` writes a rule on A and B and forks `tom`, whose signal to `init` is denied; `init` waits for `tom`
abbrev pub worked_batch : Batch
worked_batch = record { task = 0; seq = 1; ops = RuleOp.Set (numbered_label 1) (numbered_label 2) no_modes ∷ [] }

abbrev pub worked_fork : Entry
worked_fork = record {
  task = 0;
  seq = 2;
  version = 1;
  call = Call.Task (TaskCall.Fork (task_pid 1));
  checks = [];
  reply = Reply.Child 1;
}

abbrev pub worked_check : Verdict
worked_check = record { allowed = false; case = 7; over = 0; subject = numbered_label 2; object = numbered_label 0; modes = no_modes }

abbrev pub worked_kill : Entry
worked_kill = record {
  task = 1;
  seq = 1;
  version = 1;
  call = Call.Task (TaskCall.Kill (task_pid 0) 15);
  checks = worked_check ∷ [];
  reply = Reply.Denied 7;
}

abbrev pub worked_wait : AskedLine
worked_wait = record { task = 0; seq = 3; version = 1; what = AskedWhat.Wait (task_pid 1) }

abbrev pub worked_record : RunRecord
worked_record = record {
  labels = codes "_" ∷ codes "A" ∷ codes "B" ∷ [];
  names = codes "init" ∷ codes "tom" ∷ [];
  journal = worked_batch ∷ [];
  history = worked_fork ∷ worked_kill ∷ [];
  asked = worked_wait ∷ [];
}

-- its text shows A and B in the rule, then B and _ in the check, and again in the line of the system's log; and it names
-- the two tasks in their lines, then each where it is forked, signalled and waited for
pub record ShowsInOrder : Type 0 where
  pub labels : labels_shown worked_record ≡ map numbered_label (1 ∷ 2 ∷ 2 ∷ 0 ∷ 2 ∷ 0 ∷ [])
  pub names : names_shown worked_record ≡ map task_pid (0 ∷ 1 ∷ 1 ∷ 0 ∷ 1 ∷ [])
