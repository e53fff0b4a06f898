use Rattle.std.specs.Prelude.{◌≡◌, ◌≤◌, ◌<◌, ℕ, true, ◌&&◌, not, ◌==◌, List, [], Some, length, slice_index_or}
use Rattle.std.specs.List.{AllByRecursion}
use Rattle.smack_base.specs.declared.ids.LabelId.{LabelId}
use Rattle.smack_base.specs.declared.ids.Pid.{Pid}
use Rattle.smack_base.specs.declared.rule_op.RuleOp.{RuleOp}
use Rattle.text_spec.specs.Names.{place_of, IsLabelTable}
use Rattle.rules_spec.specs.declared.Batch.{Batch}
use Rattle.rules_spec.specs.declared.Verdict.{Verdict}
use Rattle.rules_spec.specs.Creds.{most_self_rules, most_relabels}
use Rattle.rules_spec.specs.Verdicts.{goes_over}
use Rattle.verb_spec.specs.Words.{is_task_name, is_file_name}
use Rattle.script_spec.specs.Lines.{ScriptLine}
use Rattle.world_spec.specs.declared.Call.{Call}
use Rattle.world_spec.specs.declared.Why.{Why}
use Rattle.world_spec.specs.declared.Reply.{Reply}
use Rattle.world_spec.specs.declared.Entry.{Entry}
use Rattle.world_spec.specs.Worlds.{most_tasks, most_nodes}
use Rattle.record_spec.specs.declared.AskedLine.{AskedLine}
use Rattle.record_spec.specs.declared.AskedWhat.{AskedWhat}
use Rattle.record_spec.specs.declared.RunRecord.{RunRecord}
use Rattle.log_spec.specs.Audits.{is_word}
use Rattle.replay_spec.specs.Acts.{call_of_line}

-- The names of tasks by pid: each is a name of a task, and none stands twice (the place of a name is its pid).
pub record IsNameTable (names : List (List ℕ)) : Type 0 where
  pub are : AllByRecursion (λ name. is_task_name name ≡ true) names
  pub once : (pid : ℕ) → pid < length names → place_of names (slice_index_or names pid []) ≡ pid
  pub some : 0 < length names

-- an id that a table has
abbrev pub HasId : List (List ℕ) → LabelId → Type 0
HasId labels l = l.0 < length labels

-- a pid that has a name
abbrev pub HasPid : List (List ℕ) → Pid → Type 0
HasPid names pid = pid.0 < length names

-- a write to rules or settings: its labels are known, and its number is one that its file takes
abbrev pub IsPlainOp : List (List ℕ) → RuleOp → Type 0
IsPlainOp labels (RuleOp.Set s o m) = HasId labels s × HasId labels o
IsPlainOp labels (RuleOp.Change s o allow deny) = HasId labels s × HasId labels o
IsPlainOp labels (RuleOp.Revoke s) = HasId labels s
IsPlainOp labels RuleOp.OnlyClear = Unit {0}
IsPlainOp labels (RuleOp.OnlyAdd l) = HasId labels l
IsPlainOp labels (RuleOp.Ambient l) = HasId labels l
IsPlainOp labels (RuleOp.Ptrace n) = n ≤ 2
IsPlainOp labels (RuleOp.Logging n) = n ≤ 3

abbrev pub IsPlainBatch : List (List ℕ) → Batch → Type 0
IsPlainBatch labels b = AllByRecursion (IsPlainOp labels) b.ops

-- a verdict: its labels are known, its case is a number of one byte, and it has a case that it went over exactly where it
-- is allowed by one that goes over a case
pub record IsPlainVerdict (labels : List (List ℕ)) (v : Verdict) : Type 0 where
  pub subject : HasId labels v.subject
  pub object : HasId labels v.object
  pub case : v.case < 256
  pub over : not (v.over == 0) ≡ (v.allowed && goes_over v.case)

-- an answer to a question is one of the guide's ordered cases
pub record IsPlainAnswer (labels : List (List ℕ)) (v : Verdict) : Type 0 where
  pub verdict : IsPlainVerdict labels v
  pub first : 1 ≤ v.case
  pub last : v.case ≤ 7

-- a call is what some line of a script gives
pub record IsPlainCall (labels names : List (List ℕ)) (call : Call) : Type 0 where
  pub line : ScriptLine
  pub gives : call_of_line labels names line ≡ Some call

-- a refusal: where it has a limit, it is the limit of that kind
abbrev pub IsPlainWhy : Why → Type 0
IsPlainWhy Why.Exists = Unit {0}
IsPlainWhy Why.IsRoot = Unit {0}
IsPlainWhy Why.NotDirectory = Unit {0}
IsPlainWhy Why.NotPrivileged = Unit {0}
IsPlainWhy Why.NoSuchTask = Unit {0}
IsPlainWhy Why.NoSuchName = Unit {0}
IsPlainWhy Why.Range = Unit {0}
IsPlainWhy Why.Again = Unit {0}
IsPlainWhy (Why.TasksFull limit) = limit ≡ most_tasks
IsPlainWhy (Why.SelfFull limit) = limit ≡ most_self_rules
IsPlainWhy (Why.RelabelFull limit) = limit ≡ most_relabels
IsPlainWhy (Why.TreeFull limit) = limit ≡ most_nodes

-- a reply: the names in it are words
abbrev pub IsPlainReply : Reply → Type 0
IsPlainReply Reply.Ok = Unit {0}
IsPlainReply (Reply.Child k) = Unit {0}
IsPlainReply (Reply.Signal sig) = Unit {0}
IsPlainReply (Reply.Names count names) = AllByRecursion (λ name. is_word name ≡ true) names
IsPlainReply (Reply.Denied case) = Unit {0}
IsPlainReply (Reply.Refused why) = IsPlainWhy why

pub record IsPlainEntry (labels names : List (List ℕ)) (e : Entry) : Type 0 where
  pub call : IsPlainCall labels names e.call
  pub checks : AllByRecursion (IsPlainVerdict labels) e.checks
  pub reply : IsPlainReply e.reply

-- a line that is neither a batch nor an object call: a refused write was to a word that names a file
abbrev pub IsPlainWhat : List (List ℕ) → List (List ℕ) → AskedWhat → Type 0
IsPlainWhat labels names (AskedWhat.Ask v) = IsPlainAnswer labels v
IsPlainWhat labels names (AskedWhat.Refused file fault) = is_file_name file ≡ true
IsPlainWhat labels names (AskedWhat.Wait pid) = HasPid names pid

abbrev pub IsPlainAsked : List (List ℕ) → List (List ℕ) → AskedLine → Type 0
IsPlainAsked labels names a = IsPlainWhat labels names a.what

-- A record whose text tells all of it: what stands in it could have been written in a script, and its labels and tasks
-- are known.
pub record IsPlain (r : RunRecord) : Type 0 where
  pub labels : IsLabelTable r.labels
  pub names : IsNameTable r.names
  pub journal : AllByRecursion (IsPlainBatch r.labels) r.journal
  pub history : AllByRecursion (IsPlainEntry r.labels r.names) r.history
  pub asked : AllByRecursion (IsPlainAsked r.labels r.names) r.asked
