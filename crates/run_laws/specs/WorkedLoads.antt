use Rattle.std.specs.Prelude.{◌≡◌, ◌≤◌, ◌+◌, ℕ, List, [], ◌∷◌, ◌++◌, length, false}
use Rattle.atomic_table.specs.Seated.{TableId}
use Rattle.smack_base.specs.declared.ids.LabelId.{LabelId}
use Rattle.smack_base.specs.declared.rule_op.RuleOp.{RuleOp}
use Rattle.rules_spec.specs.AskedModes.{read, write}
use Rattle.rules_spec.specs.declared.Batch.{Batch}
use Rattle.script_spec.specs.Lines.{ScriptLine}
use Rattle.live_table.specs.Lists.{Has}
use Rattle.live_table.specs.Batches.{rows_of}
use Rattle.record_spec.specs.declared.AskedLine.{AskedLine}
use Rattle.smack_kernel.specs.Indexes.{version_rows}
use Rattle.smack_kernel.specs.Tasks.{TaskValue, Starts, LoadsOnce, booted_task}
use Rattle.runs_spec.specs.Scripts.{Scripted}
use Rattle.runs_spec.specs.Runs.{Ran}

-- a batch of the first task
abbrev pub own_batch : ℕ → List RuleOp → Batch
own_batch seq ops = record { task = 0; seq = seq; ops = ops }

-- the writes of a text of two lines
abbrev pub two_rules : LabelId → LabelId → List RuleOp
two_rules s o = RuleOp.Set s o read ∷ RuleOp.Set o s write ∷ []

-- the journal after three texts of two lines each
abbrev pub three_texts : LabelId → LabelId → List Batch
three_texts s o = own_batch 2 (two_rules s o) ∷ own_batch 3 (two_rules s o) ∷ own_batch 4 (two_rules s o) ∷ []

-- a task that has seen this journal, and whose index has taken this version of it
abbrev pub at : TaskValue → List Batch → ℕ → TaskValue
at task journal version = record task { journal = journal; version = version }

-- How many rows a task loads at most where memory is found.
pub record WorkedLoads : Type 0 where
  -- over all its lines, the first task of a kernel: those of the version that its rules have then taken
  pub first : (s : Scripted) (ls rest : List ScriptLine) (table : TableId) (w : TaskValue) (x y : List AskedLine)
      → Ran false s ls rest (booted_task table) w x y → w.loads ≤ version_rows w.journal w.version
  -- and each task that it adopted, at most those of the journal
  pub others : (s : Scripted) (ls rest : List ScriptLine) (table : TableId) (w : TaskValue) (x y : List AskedLine)
      → Ran false s ls rest (booted_task table) w x y
      → (length w.ended_loads ≡ length w.ended) × ((n : ℕ) → Has n w.ended_loads → n ≤ rows_of w.journal)
  -- over all its lines, the child of a fork: those of that version, less those that it began with
  pub child : (s : Scripted) (ls rest : List ScriptLine) (u c w : TaskValue) (x y : List AskedLine)
      → Starts u c c.number → Ran false s ls rest c w x y
      → w.loads + version_rows c.journal c.version ≤ version_rows w.journal w.version
  -- three texts of two lines each: two rows for the lines of each, and one for its head
  pub texts : (child : TaskValue) (s o : LabelId) (after : ℕ)
      → LoadsOnce (at child [] 0) (record (at child (three_texts s o) 3) { loads = after }) → after ≤ child.loads + 9
  -- nothing new
  pub again : (child : TaskValue) (s o : LabelId) (after : ℕ)
      → LoadsOnce (at child (three_texts s o) 3) (record (at child (three_texts s o) 3) { loads = after }) → after ≤ child.loads
  -- an empty batch
  pub empty : (child : TaskValue) (s o : LabelId) (after : ℕ)
      → LoadsOnce (at child (three_texts s o) 3) (record (at child (three_texts s o ++ own_batch 5 [] ∷ []) 4) { loads = after })
      → after ≤ child.loads + 1
