use Rattle.std.specs.Prelude.{ℕ, not, List, [], ◌∷◌, Option, Some, None, length, if◌then◌else◌}
use Rattle.rules_spec.specs.Rulings.{Ruling}
use Rattle.rules_spec.specs.Creds.{Creds}
use Rattle.world_spec.specs.declared.Why.{Why}
use Rattle.world_spec.specs.declared.Why.TheVariants as Why
use Rattle.world_spec.specs.declared.Question.{Question}
use Rattle.world_spec.specs.declared.Question.TheVariants as Question
use Rattle.world_spec.specs.declared.Part.{Part}
use Rattle.world_spec.specs.declared.Part.TheVariants as Part
use Rattle.world_spec.specs.declared.Call.{Call}
use Rattle.world_spec.specs.declared.Call.TheVariants as Call
use Rattle.world_spec.specs.Worlds.{World, is_live, creds_of, TaskRow}
use Rattle.rules_spec.specs.declared.Verdict.{Verdict}
use Rattle.rules_spec.specs.Verdicts.{full_verdict, attach_verdict}
use Rattle.world_spec.specs.declared.Answer.{Answer}
use Rattle.world_spec.specs.declared.Reply.{Reply}
use Rattle.world_spec.specs.declared.Reply.TheVariants as Reply
use Rattle.world_spec.specs.Replies.{answered}
use Rattle.world_spec.specs.TaskCalls.{task_asks, TaskEffect, tasks_after, TaskLeft, task_left, NewChild}
use Rattle.world_spec.specs.TreeCalls.{tree_asks, TreeLeft, tree_left}

abbrev pub call_asks : World → Ruling → ℕ → Creds → Call → List Part
call_asks w version task c (Call.Task call) = task_asks w version task c call
call_asks w version task c (Call.Tree call) = tree_asks w version task c call

-- the refusals and questions of a call of a task, in order; first of all, the task must be live
abbrev pub asks : World → Ruling → ℕ → Call → List Part
asks w version task call = Part.Refuses (not (is_live w.tasks task)) Why.NoSuchTask ∷ call_asks w version task (creds_of w task) call

-- what the refusals and questions of a call came to: the verdicts asked, and the reply where one ends the call
pub record Went : Type 0 where
  pub checks : List Verdict
  pub stop : Option Reply

-- a question that is allowed, before what comes after it; a denied one ends the call
abbrev pub asked : Verdict → Went → Went
asked v more = if v.allowed then record { checks = v ∷ more.checks; stop = more.stop } else record { checks = v ∷ []; stop = Some (Reply.Denied v.case) }

-- the questions are asked in order, until one is denied or the call is refused
abbrev pub went : (Question → Verdict) → List Part → Went
went verdict [] = record { checks = []; stop = None }
went verdict (Part.Refuses holds why ∷ more) = if holds then record { checks = []; stop = Some (Reply.Refused why) } else went verdict more
went verdict (Part.Asks question ∷ more) = asked (verdict question) (went verdict more)

-- the verdict of a question in a version
unfoldable pub verdict_of : World → Ruling → Question → Verdict
verdict_of w version (Question.Full by s o m) = full_verdict (creds_of w by) version s o m
verdict_of w version (Question.Attach by o) = attach_verdict (creds_of w by) version o

-- the world and the reply that an effect leaves
pub record Effect : Type 0 where
  pub world : World
  pub reply : Reply

-- a call that begins a task replies the number of that task, and any other its answer
abbrev pub task_reply : List TaskRow → TaskEffect → Answer → Reply
task_reply tasks (NewChild pid) answer = Reply.Child (length tasks)
task_reply tasks _ answer = answered answer

abbrev pub with_tasks : World → ℕ → TaskLeft → Effect
with_tasks w task left = record {
  world = record w { tasks = tasks_after w.tasks task left.change };
  reply = task_reply w.tasks left.change left.answer;
}

abbrev pub with_tree : World → TreeLeft → Effect
with_tree w left = record { world = record w { files = left.files }; reply = answered left.answer }

-- what a call does, where nothing ends it before: a row puts what a family leaves into the world
abbrev pub effect : World → Ruling → ℕ → Call → Effect
effect w version task (Call.Task call) = with_tasks w task (task_left w version task call)
effect w version task (Call.Tree call) = with_tree w (tree_left w version task call)

-- what a call leaves: the world, the verdicts asked, and the reply
pub record Stepped : Type 0 where
  pub world : World
  pub checks : List Verdict
  pub reply : Reply

-- a call that is refused or denied leaves the world as it was
abbrev pub stepped : World → Effect → List Verdict → Option Reply → Stepped
stepped w e checks (Some reply) = record { world = w; checks = checks; reply = reply }
stepped w e checks None = record { world = e.world; checks = checks; reply = e.reply }

-- the step of a call of a task in a rule version
abbrev pub step : World → Ruling → ℕ → Call → Stepped
step w version task call = let through = went (verdict_of w version) (asks w version task call) in
    stepped w (effect w version task call) through.checks through.stop
