use Rattle.std.proofs.Common.{◌≡◌, ◌<◌, ℕ, Bool, true, false, if◌then◌else◌, not, List, [], ◌∷◌, ◌++◌, length, refl, Option, Some, None}
use Rattle.std.specs.List.{AllByRecursion}
use Rattle.std.specs.Option.{IfSome}
use Rattle.smack_base.specs.declared.ids.LabelId.{LabelId}
use Rattle.smack_base.specs.declared.cap.Cap.{Cap}
use Rattle.rules_spec.specs.Rulings.{Ruling}
use Rattle.rules_spec.specs.Creds.{Creds, is_effective, with_label, without_cap}
use Rattle.world_spec.specs.declared.Question.{Question}
use Rattle.world_spec.specs.declared.Part.{Part}
use Rattle.world_spec.specs.declared.Why.TheVariants as Why
use Rattle.world_spec.specs.declared.tasks.TaskCall.{TaskCall}
use Rattle.world_spec.specs.declared.trees.TreeCall.TheVariants as TreeCall
use Rattle.world_spec.specs.declared.Call.{Call}
use Rattle.world_spec.specs.declared.Answer.{Answer}
use Rattle.world_spec.specs.Replies.{answered}
use Rattle.world_spec.specs.Signals.{least_signal}
use Rattle.world_spec.specs.Worlds.{World, TaskRow, is_live, live_task, creds_of, pending_of}
use Rattle.world_spec.specs.Questions.{if_found}
use Rattle.world_spec.specs.TreeCalls.{walk_to_last, first_name, label_at}
use Rattle.world_spec.specs.Steps.{call_asks, verdict_of, task_reply, went, effect, stepped, step}
use Rattle.world_spec.specs.TaskCalls.{relabelled, TaskEffect, NewChild, signal_answer, task_left}
use Rattle.replay_spec.specs.Plain.{HasId, IsPlainVerdict, IsPlainReply, IsPlainCall}
use Rattle.replay_spec.proofs.ReadCalls.{IsReadCall, plain_is_read}
use Rattle.plain_laws.proofs.Lists.{all_append}
use Rattle.plain_laws.proofs.Steps.{IsPlainQuestion, IsPlainPart, IsPlainEffect, IsPlainStepped, found_is_plain, step_by_parts}
use Rattle.plain_laws.proofs.PlainVerdicts.{verdict_is_plain, attach_is_plain}
use Rattle.plain_laws.proofs.PathWords.{path_has_words}
use Rattle.plain_laws.proofs.PlainWorlds.{IsPlainWorld, task_label_is_known, IsPlainChange, signalled_is_plain, tasks_after_are_plain, file_label_is_known, files_with_one, files_without_one, listed_are_words}

label_without_cap : (c : Creds) (cap : Cap) → (without_cap c cap).label ≡ c.label
label_without_cap c Cap.MacAdmin = refl
label_without_cap c Cap.MacOverride = refl
label_without_cap c Cap.SysPtrace = refl

relabelled_label : (c : Creds) (version : Ruling) (l : LabelId) → (relabelled c version l).label ≡ l
relabelled_label c version l = by (is_effective c Cap.MacAdmin version)
  where
    by : (privileged : Bool) → (if privileged then with_label c l else record (with_label c l) { relabels = [] }).label ≡ l
    by true = refl
    by false = refl

signal_answer_is_plain : (sig : Option ℕ) → IsPlainReply (answered (signal_answer sig))
signal_answer_is_plain None = tt
signal_answer_is_plain (Some sig) = tt

task_reply_is_plain : (tasks : List TaskRow) (change : TaskEffect) (answer : Answer) → IsPlainReply (answered answer) → IsPlainReply (task_reply tasks change answer)
task_reply_is_plain tasks (NewChild pid) answer known = tt
task_reply_is_plain tasks change answer known = known

module _ (table : List (List ℕ)) (first : 0 < length table) (w : World) (plain : IsPlainWorld table w) (version : Ruling) (task : ℕ) where
  own_label : HasId table (creds_of w task).label
  own_label = task_label_is_known table first w plain task

  -- a walk asks on the root alone
  walk_to_last_is_plain : (path : List (List ℕ)) → AllByRecursion (IsPlainPart table) (walk_to_last w task (creds_of w task) path)
  walk_to_last_is_plain [] = tt
  walk_to_last_is_plain (n ∷ []) = ((own_label, plain.root), tt)
  walk_to_last_is_plain (n ∷ m ∷ ns) = ((own_label, plain.root), (tt, (tt, tt)))

  label_at_is_known : (path : List (List ℕ)) → IfSome (label_at w path) (HasId table)
  label_at_is_known [] = plain.root
  label_at_is_known (n ∷ ns) = file_label_is_known table w.files n plain.files

  -- parts that go on with a task, which has a known label
  task_found : (found : Option ℕ) (more : ℕ → List Part) → ((n : ℕ) → HasId table (creds_of w n).label → AllByRecursion (IsPlainPart table) (more n))
      → AllByRecursion (IsPlainPart table) (if_found found Why.NoSuchTask more)
  task_found found more serves = found_is_plain table (λ n. HasId table (creds_of w n).label) found Why.NoSuchTask more tt (known found) serves
    where
      known : (found : Option ℕ) → IfSome found (λ n. HasId table (creds_of w n).label)
      known None = tt
      known (Some n) = task_label_is_known table first w plain n

  -- parts that go on with the label at a path
  label_found : (path : List (List ℕ)) (more : LabelId → List Part) → ((l : LabelId) → HasId table l → AllByRecursion (IsPlainPart table) (more l))
      → AllByRecursion (IsPlainPart table) (walk_to_last w task (creds_of w task) path ++ if_found (label_at w path) Why.NoSuchName more)
  label_found path more serves =
      all_append (IsPlainPart table) (walk_to_last w task (creds_of w task) path) _ (walk_to_last_is_plain path)
      (found_is_plain table (HasId table) (label_at w path) Why.NoSuchName more tt (label_at_is_known path) serves)

  -- the parts of a call in a plain world are plain
  parts_are_plain : (call : Call) → AllByRecursion (IsPlainPart table) (call_asks w version task (creds_of w task) call)
  parts_are_plain (Call.Task (TaskCall.Fork pid)) = (tt, (refl, tt))
  parts_are_plain (Call.Task TaskCall.Exit) = tt
  parts_are_plain (Call.Task (TaskCall.Relabel l)) = (tt, tt)
  parts_are_plain (Call.Task (TaskCall.DropCap cap)) = tt
  parts_are_plain (Call.Task (TaskCall.SelfRules rules)) = (refl, tt)
  parts_are_plain (Call.Task (TaskCall.Relabels list)) = (tt, (refl, tt))
  parts_are_plain (Call.Task (TaskCall.Kill pid sig)) = task_found (live_task w.tasks pid) _ (λ n known. ((own_label, known), (tt, tt)))
  parts_are_plain (Call.Task TaskCall.Take) = (tt, tt)
  parts_are_plain (Call.Task (TaskCall.TraceRead pid)) = task_found (live_task w.tasks pid) _ (λ n known. ((own_label, known), tt))
  parts_are_plain (Call.Task (TaskCall.TraceAttach pid)) = task_found (live_task w.tasks pid) _ (λ n known. (known, tt))
  parts_are_plain (Call.Tree (TreeCall.Create path)) =
      (tt, all_append (IsPlainPart table) (walk_to_last w task (creds_of w task) path) _ (walk_to_last_is_plain path) ((own_label, plain.root), (tt, (refl, tt))))
  parts_are_plain (Call.Tree (TreeCall.Unlink path)) = (tt, label_found path _ (λ l known. ((own_label, plain.root), ((own_label, known), tt))))
  parts_are_plain (Call.Tree (TreeCall.ListDir path at)) = label_found path _ (λ l known. ((own_label, known), (tt, tt)))

  -- a question of and on known labels has a plain verdict
  question_is_plain : (q : Question) → IsPlainQuestion table q → IsPlainVerdict table (verdict_of w version q)
  unfolding verdict_of
  question_is_plain (Question.Full by s o m) known = verdict_is_plain table (creds_of w by) version s o m known.0 known.1
  question_is_plain (Question.Attach by o) known = attach_is_plain table (creds_of w by) version o (task_label_is_known table first w plain by) known

  step_by_effect : (call : Call) → IsPlainEffect table (effect w version task call) → IsPlainStepped table (step w version task call)
  step_by_effect call done = step_by_parts table w version task call question_is_plain (tt, parts_are_plain call) plain done

  refused_at_root : IsPlainStepped table (step w version task (Call.Tree (TreeCall.Create [])))
  refused_at_root = by (not (is_live w.tasks task))
    where
      by : (gone : Bool)
          → IsPlainStepped table (let through = went (verdict_of w version) (Part.Refuses gone Why.NoSuchTask ∷ call_asks w version task (creds_of w task) (Call.Tree (TreeCall.Create []))) in
          stepped w (effect w version task (Call.Tree (TreeCall.Create []))) through.checks through.stop)
      by true = record { world = plain; checks = tt; reply = tt }
      by false = record { world = plain; checks = tt; reply = tt }

  -- what a call of plain words does to the tasks has a known label
  change_is_plain : (names : List (List ℕ)) (call : TaskCall) → IsReadCall table names (Call.Task call) → IsPlainChange table (task_left w version task call).change
  change_is_plain names (TaskCall.Relabel l) read = rw (relabelled_label (creds_of w task) version l) read.values.0
  change_is_plain names (TaskCall.DropCap cap) read = rw (label_without_cap (creds_of w task) cap) own_label
  change_is_plain names (TaskCall.SelfRules rules) read = own_label
  change_is_plain names (TaskCall.Relabels list) read = own_label
  change_is_plain names (TaskCall.Kill pid sig) read = signalled_is_plain table (live_task w.tasks pid) sig
  change_is_plain names call read = tt

  answer_is_plain : (call : TaskCall) → IsPlainReply (answered (task_left w version task call).answer)
  answer_is_plain TaskCall.Take = signal_answer_is_plain (least_signal (pending_of w task))
  answer_is_plain call = tt

  task_step : (names : List (List ℕ)) (call : TaskCall) → IsReadCall table names (Call.Task call) → IsPlainStepped table (step w version task (Call.Task call))
  task_step names call read =
      let left = task_left w version task call in
      step_by_effect (Call.Task call)
      (record {
        world = record {
          tasks = tasks_after_are_plain table first w.tasks task left.change plain.tasks (change_is_plain names call read);
          root = plain.root;
          files = plain.files;
        };
        reply = task_reply_is_plain w.tasks left.change left.answer (answer_is_plain call);
      })

  -- A call of plain words has a plain step; a path without a name is refused before a file is made of it.
  step_of_words : (names : List (List ℕ)) (call : Call) → IsReadCall table names call → IsPlainStepped table (step w version task call)
  step_of_words names (Call.Task call) read = task_step names call read
  step_of_words names (Call.Tree (TreeCall.Create [])) read = refused_at_root
  step_of_words names (Call.Tree (TreeCall.Create (n ∷ ns))) read =
      step_by_effect (Call.Tree (TreeCall.Create (n ∷ ns)))
      (record {
        world = record {
          tasks = plain.tasks;
          root = plain.root;
          files = files_with_one table w.files _ plain.files (record { name = (path_has_words read.values.0.0 (n ∷ ns) read.values.0.1).0; label = own_label });
        };
        reply = tt;
      })
  step_of_words names (Call.Tree (TreeCall.Unlink path)) read =
      step_by_effect (Call.Tree (TreeCall.Unlink path))
      (record {
        world = record { tasks = plain.tasks; root = plain.root; files = files_without_one table w.files (first_name path) plain.files };
        reply = tt;
      })
  step_of_words names (Call.Tree (TreeCall.ListDir path at)) read =
      step_by_effect (Call.Tree (TreeCall.ListDir path at)) (record { world = plain; reply = listed_are_words table w.files at plain.files })

  -- the step of a plain call in a plain world is plain
  pub step_is_plain : (names : List (List ℕ)) (call : Call) → IsPlainCall table names call → IsPlainStepped table (step w version task call)
  step_is_plain names call given = step_of_words names call (plain_is_read table names call given)
