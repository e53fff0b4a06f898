use Rattle.std.specs.Prelude.{ℕ, Bool, List, [], ◌∷◌, ◌++◌, Option, Some, None, Result, Ok, Err, if◌then◌else◌, length, fold, nat_lt}
use Rattle.smack_base.specs.declared.cap.Cap.TheVariants as Cap
use Rattle.smack_base.specs.declared.rule_op.RuleOp.{RuleOp}
use Rattle.rules_spec.specs.declared.Batch.{Batch}
use Rattle.rules_spec.specs.Rulings.{ruling}
use Rattle.rules_spec.specs.Cases.{verdict_of_cases}
use Rattle.rules_spec.specs.Creds.{is_effective}
use Rattle.file_spec.specs.declared.Refusal.{Refusal}
use Rattle.file_spec.specs.declared.Compiled.{Compiled}
use Rattle.file_spec.specs.Files.{compiled}
use Rattle.script_spec.specs.Lines.{ScriptLine, word_in, table_of}
use Rattle.script_spec.specs.Tasks.{task_names}
use Rattle.world_spec.specs.declared.tasks.TaskCall.TheVariants as TaskCall
use Rattle.world_spec.specs.declared.Call.{Call}
use Rattle.world_spec.specs.declared.Entry.{Entry}
use Rattle.world_spec.specs.Worlds.{World, world_first, live_task, creds_of}
use Rattle.world_spec.specs.Steps.{step}
use Rattle.record_spec.specs.declared.AskedLine.{AskedLine}
use Rattle.record_spec.specs.declared.AskedWhat.{AskedWhat}
use Rattle.record_spec.specs.declared.RunRecord.{RunRecord}
use Rattle.replay_spec.specs.declared.Act.{Act}
use Rattle.replay_spec.specs.Acts.{act_of_line}

-- what the calls so far have left
pub record Run : Type 0 where
  pub journal : List Batch
  pub world : World
  pub history : List Entry
  pub asked : List AskedLine

abbrev pub run_first : Run
run_first = record { journal = []; world = world_first; history = []; asked = [] }

abbrev pub or_none_yet : World → Option ℕ → ℕ
or_none_yet w None = length w.tasks
or_none_yet w (Some task) = task

-- the number of the task of a line: that of the live task with its pid, or else a number that no task has yet
abbrev pub number_of_task : Run → ScriptLine → ℕ
number_of_task run l = or_none_yet run.world (live_task run.world.tasks (record { 0 = l.task }))

-- a line stands before those of higher tasks; lines of one task come in the order of their calls
abbrev pub is_before : AskedLine → AskedLine → Bool
is_before a b = nat_lt a.task b.task

-- a line comes to stand before the first that it is before, and so behind the earlier ones of its own task
abbrev pub with_asked : List AskedLine → AskedLine → List AskedLine
with_asked [] a = a ∷ []
with_asked (b ∷ bs) a = if is_before a b then a ∷ b ∷ bs else b ∷ with_asked bs a

-- a line that is neither a batch nor an object call is answered in the newest version
abbrev pub noted : Run → ScriptLine → AskedWhat → Run
noted run l what = record run {
  asked = with_asked run.asked (record {
    task = number_of_task run l;
    seq = l.seq;
    version = length run.journal;
    what = what;
  });
}

-- the writes of a text are published as one batch
abbrev pub published : Run → ScriptLine → List RuleOp → Run
published run l ops = record run {
  journal = run.journal ++ (record { task = number_of_task run l; seq = l.seq; ops = ops }) ∷ [];
}

-- an object call is a step of the world in the newest version, and leaves an entry
abbrev pub stepped_by : Run → ScriptLine → Call → Run
stepped_by run l call = let stepped = step run.world (ruling run.journal) (number_of_task run l) call in record run {
  world = stepped.world;
  history = run.history ++ (record {
    task = number_of_task run l;
    seq = l.seq;
    call = call;
    version = length run.journal;
    checks = stepped.checks;
    reply = stepped.reply;
  }) ∷ [];
}

-- A text of rules that is accepted is published where its writer has CAP_MAC_ADMIN in the newest version, and one of
-- the writing task is an object call.
abbrev pub written : Run → ScriptLine → Result Compiled Refusal → Run
written run l (Ok (Compiled.Rules ops)) =
    if is_effective (creds_of run.world (number_of_task run l)) Cap.MacAdmin (ruling run.journal) then published run l ops
    else noted run l (AskedWhat.Refused (word_in 1 l) Refusal.NotPrivileged)
written run l (Ok (Compiled.SelfRules rules)) = stepped_by run l (Call.Task (TaskCall.SelfRules rules))
written run l (Ok (Compiled.Relabels list)) = stepped_by run l (Call.Task (TaskCall.Relabels list))
written run l (Err fault) = noted run l (AskedWhat.Refused (word_in 1 l) fault)

-- The run after a line that does this, by the labels. A question is answered by the ordered cases in the newest version.
abbrev pub after_act : List (List ℕ) → Run → ScriptLine → Act → Run
after_act labels run l Act.Write = written run l (compiled labels (word_in 1 l) l.text.bytes)
after_act labels run l (Act.Ask s o m) = noted run l (AskedWhat.Ask (verdict_of_cases (ruling run.journal) s o m))
after_act labels run l (Act.Wait pid) = noted run l (AskedWhat.Wait pid)
after_act labels run l (Act.Fork pid) = stepped_by run l (Call.Task (TaskCall.Fork pid))
after_act labels run l (Act.Make call) = stepped_by run l call

abbrev pub after_acting : List (List ℕ) → Run → ScriptLine → Option Act → Run
after_acting labels run l None = run
after_acting labels run l (Some act) = after_act labels run l act

-- the run after one more line, by the labels and the names of the tasks
abbrev pub after_line : List (List ℕ) → List (List ℕ) → Run → ScriptLine → Run
after_line labels names run l = after_acting labels run l (act_of_line labels names l)

-- the calls of a script in written order
abbrev pub run_of : List (List ℕ) → List (List ℕ) → List ScriptLine → Run
run_of labels names lines = fold (after_line labels names) run_first lines

-- the record of a script that is replayed
abbrev pub replayed : List ScriptLine → RunRecord
replayed lines = let run = run_of (table_of lines) (task_names lines) lines in record {
  labels = table_of lines;
  names = task_names lines;
  journal = run.journal;
  history = run.history;
  asked = run.asked;
}
