use Rattle.std.specs.Prelude.{◌≡◌, ℕ, zero, suc, true, false, List, [], ◌∷◌, ◌++◌, map, codes}
use Rattle.smack_base.specs.declared.modes.Modes.{Modes}
use Rattle.smack_base.specs.declared.ids.LabelId.{LabelId}
use Rattle.smack_base.specs.declared.ids.Pid.{Pid}
use Rattle.smack_base.specs.declared.cap.Cap.TheVariants as Cap
use Rattle.smack_base.specs.declared.rule_op.RuleOp.{RuleOp}
use Rattle.smack_base.specs.declared.rule_op.RuleOp.TheVariants as RuleOp
use Rattle.rules_spec.specs.declared.Verdict.{Verdict}
use Rattle.rules_spec.specs.Versions.{floor}
use Rattle.rules_spec.specs.Rulings.{Ruling, ruling}
use Rattle.rules_spec.specs.AskedModes.{read, write, execute, read_write}
use Rattle.world_spec.specs.declared.Call.{Call}
use Rattle.world_spec.specs.declared.Call.TheVariants as Call
use Rattle.world_spec.specs.declared.tasks.TaskCall.{TaskCall}
use Rattle.world_spec.specs.declared.tasks.TaskCall.TheVariants as TaskCall
use Rattle.world_spec.specs.declared.trees.TreeCall.{TreeCall}
use Rattle.world_spec.specs.declared.trees.TreeCall.TheVariants as TreeCall
use Rattle.world_spec.specs.declared.Reply.{Reply}
use Rattle.world_spec.specs.declared.Reply.TheVariants as Reply
use Rattle.world_spec.specs.declared.Why.TheVariants as Why
use Rattle.world_spec.specs.Worlds.{World, world_first}
use Rattle.world_spec.specs.Steps.{step}

-- a call that a task makes in a version
pub record WorkedCall : Type 0 where
  pub version : Ruling
  pub task : ℕ
  pub call : Call

-- what came of a call
pub record Outcome : Type 0 where
  pub checks : List Verdict
  pub reply : Reply

-- what came of some calls, one after another
abbrev pub outcomes : World → List WorkedCall → List Outcome
outcomes w [] = []
outcomes w (m ∷ ms) = let s = step w m.version m.task m.call in record { checks = s.checks; reply = s.reply } ∷ outcomes s.world ms

-- the calls come to this in the first world
abbrev pub come_to : List WorkedCall → List Outcome → Type 0
come_to calls outs = outcomes world_first calls ≡ outs

abbrev pub label : ℕ → LabelId
label n = record { 0 = n }

abbrev pub pid : ℕ → Pid
pid n = record { 0 = n }

-- a version of one batch with these writes
abbrev pub with_writes : List RuleOp → Ruling
with_writes ops = ruling (record { task = 0; seq = 1; ops = ops } ∷ [])

-- version 0
abbrev pub no_rules : Ruling
no_rules = ruling []

abbrev pub makes_call : Ruling → ℕ → TaskCall → WorkedCall
makes_call version task call = record { version = version; task = task; call = Call.Task call }

-- a call on the tree by the first task, in version 0
abbrev pub on_tree : TreeCall → WorkedCall
on_tree call = record { version = no_rules; task = 0; call = Call.Tree call }

-- a reply without a check
abbrev pub replies : Reply → Outcome
replies reply = record { checks = []; reply = reply }

-- a check that is allowed, and the reply
abbrev pub allowed_then : LabelId → LabelId → Modes → ℕ → ℕ → Reply → Outcome
allowed_then s o m case over reply = record {
  checks = record { allowed = true; case = case; over = over; subject = s; object = o; modes = m } ∷ [];
  reply = reply;
}

-- a check that is denied, and the reply that says so
abbrev pub denied : LabelId → LabelId → Modes → ℕ → Outcome
denied s o m case = record {
  checks = record { allowed = false; case = case; over = 0; subject = s; object = o; modes = m } ∷ [];
  reply = Reply.Denied case;
}

-- Signals come in rising order; a task that has exited is nobody's target, makes no call, and its pid stays taken.
abbrev pub Signals : Type 0
Signals = come_to
    (makes_call no_rules 0 (TaskCall.Fork (pid 1)) ∷ makes_call no_rules 0 (TaskCall.Kill (pid 1) 9) ∷ makes_call no_rules 0 (TaskCall.Kill (pid 1) 3)
    ∷ makes_call no_rules 0 (TaskCall.Kill (pid 1) 32) ∷ makes_call no_rules 1 TaskCall.Take ∷ makes_call no_rules 1 TaskCall.Take ∷ makes_call no_rules 1 TaskCall.Take
    ∷ makes_call no_rules 1 TaskCall.Exit ∷ makes_call no_rules 0 (TaskCall.Kill (pid 1) 1) ∷ makes_call no_rules 1 TaskCall.Take
    ∷ makes_call no_rules 0 (TaskCall.Fork (pid 1)) ∷ makes_call no_rules 0 (TaskCall.Fork (pid 2)) ∷ [])
    (replies (Reply.Child 1) ∷ allowed_then floor floor write 5 0 Reply.Ok ∷ allowed_then floor floor write 5 0 Reply.Ok
    ∷ allowed_then floor floor write 5 0 (Reply.Refused Why.Range) ∷ replies (Reply.Signal 3) ∷ replies (Reply.Signal 9) ∷ replies (Reply.Refused Why.Again)
    ∷ replies Reply.Ok ∷ replies (Reply.Refused Why.NoSuchTask) ∷ replies (Reply.Refused Why.NoSuchTask)
    ∷ replies (Reply.Refused Why.Exists) ∷ replies (Reply.Child 2) ∷ [])

-- Under policy 1 CAP_SYS_PTRACE attaches to another label, under policy 2 nothing does; reading asks by the rules.
abbrev pub Traces : Type 0
Traces = come_to
    (makes_call no_rules 0 (TaskCall.Fork (pid 1)) ∷ makes_call no_rules 1 (TaskCall.Relabel (label 5))
    ∷ makes_call (with_writes (RuleOp.Ptrace 1 ∷ [])) 0 (TaskCall.TraceAttach (pid 1)) ∷ makes_call (with_writes (RuleOp.Ptrace 2 ∷ [])) 0 (TaskCall.TraceAttach (pid 1))
    ∷ makes_call (with_writes (RuleOp.Set floor (label 5) read ∷ RuleOp.Ptrace 2 ∷ [])) 0 (TaskCall.TraceRead (pid 1))
    ∷ makes_call no_rules 0 (TaskCall.TraceAttach (pid 1)) ∷ makes_call no_rules 0 (TaskCall.DropCap Cap.SysPtrace)
    ∷ makes_call (with_writes (RuleOp.Ptrace 1 ∷ [])) 0 (TaskCall.TraceAttach (pid 1)) ∷ [])
    (replies (Reply.Child 1) ∷ replies Reply.Ok
    ∷ allowed_then floor (label 5) read_write 9 10 Reply.Ok ∷ denied floor (label 5) read_write 10
    ∷ allowed_then floor (label 5) read 6 0 Reply.Ok
    ∷ allowed_then floor (label 5) read_write 9 7 Reply.Ok ∷ replies Reply.Ok
    ∷ denied floor (label 5) read_write 10 ∷ [])

-- A task without CAP_MAC_ADMIN takes one label of its list.
abbrev pub OneRelabel : Type 0
OneRelabel = come_to
    (makes_call no_rules 0 (TaskCall.Relabels (label 5 ∷ label 6 ∷ [])) ∷ makes_call no_rules 0 (TaskCall.DropCap Cap.MacAdmin)
    ∷ makes_call no_rules 0 (TaskCall.Relabel (label 5)) ∷ makes_call no_rules 0 (TaskCall.Relabel (label 6))
    ∷ makes_call no_rules 0 (TaskCall.Relabels []) ∷ [])
    (replies Reply.Ok ∷ replies Reply.Ok ∷ replies Reply.Ok ∷ replies (Reply.Refused Why.NotPrivileged) ∷ replies (Reply.Refused Why.NotPrivileged) ∷ [])

-- A child has its parent's self rules and label, and what it changes is its own.
abbrev pub SelfRulesOfChild : Type 0
SelfRulesOfChild = come_to
    (makes_call no_rules 0 (TaskCall.Relabel (label 5)) ∷ makes_call no_rules 0 (TaskCall.SelfRules (record { s = label 5; o = label 5; m = read } ∷ []))
    ∷ makes_call no_rules 0 (TaskCall.DropCap Cap.MacOverride) ∷ makes_call no_rules 0 (TaskCall.Fork (pid 1)) ∷ makes_call no_rules 1 (TaskCall.Kill (pid 0) 1)
    ∷ makes_call no_rules 1 (TaskCall.TraceRead (pid 0)) ∷ makes_call no_rules 1 (TaskCall.Relabel (label 6)) ∷ makes_call no_rules 0 (TaskCall.TraceRead (pid 1)) ∷ [])
    (replies Reply.Ok ∷ replies Reply.Ok ∷ replies Reply.Ok ∷ replies (Reply.Child 1) ∷ denied (label 5) (label 5) write 8
    ∷ allowed_then (label 5) (label 5) read 5 0 Reply.Ok ∷ replies Reply.Ok ∷ denied (label 5) (label 6) read 7 ∷ [])

abbrev pub check : LabelId → Modes → ℕ → Verdict
check s m case = record { allowed = true; case = case; over = 0; subject = s; object = floor; modes = m }

-- a change of the root that is allowed to the floor label: the root is searched, and written
abbrev pub changes_root : Outcome
changes_root = record { checks = check floor execute 3 ∷ check floor read_write 5 ∷ []; reply = Reply.Ok }

-- a listing of the root that is allowed
abbrev pub lists : LabelId → ℕ → List (List ℕ) → Outcome
lists s count names = record { checks = check s read 3 ∷ []; reply = Reply.Names count names }

-- A file stays where its unlink is denied, and a label where its change is refused.
abbrev pub Files : Type 0
Files = come_to
    (on_tree (TreeCall.Create (codes "f" ∷ [])) ∷ makes_call no_rules 0 (TaskCall.Relabel (label 5)) ∷ on_tree (TreeCall.ListDir [] 0)
    ∷ makes_call no_rules 0 (TaskCall.DropCap Cap.MacOverride) ∷ on_tree (TreeCall.Unlink (codes "f" ∷ [])) ∷ on_tree (TreeCall.ListDir [] 0)
    ∷ makes_call no_rules 0 (TaskCall.DropCap Cap.MacAdmin) ∷ makes_call no_rules 0 (TaskCall.Relabel (label 6)) ∷ [])
    (changes_root ∷ replies Reply.Ok ∷ lists (label 5) 1 (codes "f" ∷ []) ∷ replies Reply.Ok
    ∷ record {
      checks = check (label 5) execute 3 ∷ record { allowed = false; case = 7; over = 0; subject = label 5; object = floor; modes = read_write } ∷ [];
      reply = Reply.Denied 7;
    }
    ∷ lists (label 5) 1 (codes "f" ∷ []) ∷ replies Reply.Ok ∷ replies (Reply.Refused Why.NotPrivileged) ∷ [])

-- names of one byte
abbrev pub one_byte_names : List ℕ → List (List ℕ)
one_byte_names bytes = map (λ b. b ∷ []) bytes

-- A listing has at most 16 names, in byte order, from a place on.
abbrev pub Listings : Type 0
Listings = come_to
    (map (λ b. on_tree (TreeCall.Create ((b ∷ []) ∷ []))) (codes "gbaqrkcnfdhpeijlom")
    ++ on_tree (TreeCall.ListDir [] 0) ∷ on_tree (TreeCall.ListDir [] 1) ∷ on_tree (TreeCall.ListDir [] 17) ∷ on_tree (TreeCall.ListDir [] 18) ∷ [])
    (map (λ b. changes_root) (codes "gbaqrkcnfdhpeijlom")
    ++ lists floor 18 (one_byte_names (codes "abcdefghijklmnop")) ∷ lists floor 18 (one_byte_names (codes "bcdefghijklmnopq"))
    ∷ lists floor 18 (one_byte_names (codes "r")) ∷ lists floor 18 [] ∷ [])

-- forks of pids from 1 to this one, and their replies
abbrev pub forks_to : ℕ → List WorkedCall
forks_to zero = []
forks_to (suc n) = forks_to n ++ makes_call no_rules 0 (TaskCall.Fork (pid (suc n))) ∷ []

abbrev pub children : ℕ → List Outcome
children zero = []
children (suc n) = children n ++ replies (Reply.Child (suc n)) ∷ []

-- The first task and 63 others are the most.
abbrev pub ManyTasks : Type 0
ManyTasks = come_to (forks_to 64) (children 63 ++ replies (Reply.Refused (Why.TasksFull 64)) ∷ [])

pub record WorkedCalls : Type 0 where
  pub signals : Signals
  pub traces : Traces
  pub one_relabel : OneRelabel
  pub self_rules : SelfRulesOfChild
  pub files : Files
  pub listings : Listings
  pub many_tasks : ManyTasks
