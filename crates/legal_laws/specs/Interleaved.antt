use Rattle.std.specs.Prelude.{◌≡◌, ℕ, List, [], ◌∷◌, Result, Ok, Err, codes}
use Rattle.smack_base.specs.declared.rule_op.RuleOp.TheVariants as RuleOp
use Rattle.rules_spec.specs.AskedModes.{read}
use Rattle.script_spec.specs.declared.ScriptFault.{ScriptFault}
use Rattle.script_spec.specs.Lines.{ScriptLine}
use Rattle.script_spec.specs.Grammar.{parse}
use Rattle.world_spec.specs.declared.tasks.TaskCall.TheVariants as TaskCall
use Rattle.world_spec.specs.declared.Reply.TheVariants as Reply
use Rattle.record_spec.specs.declared.AskedWhat.TheVariants as AskedWhat
use Rattle.record_spec.specs.declared.RunRecord.{RunRecord}
use Rattle.replay_spec.specs.Replays.{replayed}
use Rattle.legal_spec.specs.Fits.{IsLegalFor}
use Rattle.legal_laws.specs.RefusedRecords.{a_label, c_label, b_pid, batch_of_one, entered_call, asked_at, by_rule, record_of}

-- a parent asks before and after it waits for its child, which writes a rule
abbrev pub script : List ℕ
script = codes "init fork B\ninit ask A C r\nB write load2 1\nA C r\ninit wait B\ninit ask A C r\n"

abbrev pub lines_read : Result (List ScriptLine) ScriptFault → List ScriptLine
lines_read (Ok lines) = lines
lines_read (Err fault) = []

abbrev pub script_lines : List ScriptLine
script_lines = lines_read (parse script)

-- the record of a run in which the child was faster than the parent's first question
abbrev pub faster_child : RunRecord
faster_child = record_of (batch_of_one 1 1 (RuleOp.Set a_label c_label read) ∷ []) (entered_call 0 1 0 (TaskCall.Fork b_pid) (Reply.Child 1) ∷ [])
    (asked_at 0 2 1 (AskedWhat.Ask by_rule) ∷ asked_at 0 3 1 (AskedWhat.Wait b_pid) ∷ asked_at 0 4 1 (AskedWhat.Ask by_rule) ∷ [])

-- Another order of a script's lines than that of its replay is legal for it.
pub record OtherOrder : Type 0 where
  pub read : parse script ≡ Ok script_lines
  pub legal : IsLegalFor script_lines faster_child
  pub other : faster_child ≡ replayed script_lines → ⊥
