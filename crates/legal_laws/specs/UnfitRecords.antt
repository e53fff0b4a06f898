use Rattle.std.specs.Prelude.{ℕ, List, [], ◌∷◌, ◌++◌, codes}
use Rattle.smack_base.specs.declared.rule_op.RuleOp.TheVariants as RuleOp
use Rattle.text_spec.specs.Names.{predefined}
use Rattle.rules_spec.specs.AskedModes.{read}
use Rattle.rules_spec.specs.Versions.{floor}
use Rattle.rules_spec.specs.declared.Batch.{Batch}
use Rattle.file_spec.specs.declared.Refusal.TheVariants as Refusal
use Rattle.script_spec.specs.Lines.{ScriptLine}
use Rattle.world_spec.specs.declared.tasks.TaskCall.TheVariants as TaskCall
use Rattle.world_spec.specs.declared.Reply.TheVariants as Reply
use Rattle.world_spec.specs.declared.Why.TheVariants as Why
use Rattle.world_spec.specs.declared.Entry.{Entry}
use Rattle.record_spec.specs.declared.AskedLine.{AskedLine}
use Rattle.record_spec.specs.declared.AskedWhat.TheVariants as AskedWhat
use Rattle.record_spec.specs.declared.RunRecord.{RunRecord}
use Rattle.legal_spec.specs.Fits.{FitsScript}
use Rattle.legal_laws.specs.RefusedRecords.{batch_of_one, entered_call, asked_at}

-- one line: init take
abbrev pub take_line : ScriptLine
take_line = record {
  task = 0;
  seq = 1;
  line = 1;
  words = record { at = 5; bytes = codes "take" } ∷ [];
  text = record { at = 10; bytes = [] };
}

-- one line, init write load2 1, and its text
abbrev pub write_line : List ℕ → ScriptLine
write_line text = record {
  task = 0;
  seq = 1;
  line = 1;
  words = record { at = 5; bytes = codes "write" } ∷ record { at = 11; bytes = codes "load2" } ∷ record { at = 17; bytes = codes "1" } ∷ [];
  text = record { at = 19; bytes = text };
}

abbrev pub one_task : List Batch → List Entry → List AskedLine → RunRecord
one_task journal history asked = record {
  labels = predefined;
  names = codes "init" ∷ [];
  journal = journal;
  history = history;
  asked = asked;
}

abbrev pub taken : ℕ → Entry
taken seq = entered_call 0 seq 0 TaskCall.Take (Reply.Refused Why.Again)

-- a record without the line, one that has it twice, and one that has another call in its place
abbrev pub line_left_out : RunRecord
line_left_out = one_task [] [] []

abbrev pub line_twice : RunRecord
line_twice = one_task [] (taken 1 ∷ taken 2 ∷ []) []

abbrev pub other_call : RunRecord
other_call = one_task [] (entered_call 0 1 0 TaskCall.Exit Reply.Ok ∷ []) []

-- a text that is refused, and one that is published
abbrev pub text_refused : RunRecord
text_refused = one_task [] [] (asked_at 0 1 0 (AskedWhat.Refused (codes "load2") (Refusal.UnknownLabel 1)) ∷ [])

abbrev pub text_published : RunRecord
text_published = one_task (batch_of_one 0 1 (RuleOp.Set floor floor read) ∷ []) [] []

-- a label, and a task, that the script does not name
abbrev pub other_labels : RunRecord
other_labels = record (one_task [] (taken 1 ∷ []) []) { labels = predefined ++ codes "A" ∷ [] }

abbrev pub other_names : RunRecord
other_names = record (one_task [] (taken 1 ∷ []) []) { names = codes "init" ∷ codes "B" ∷ [] }

-- Records that do not fit a script.
pub record UnfitRecords : Type 0 where
  pub left_out : FitsScript (take_line ∷ []) line_left_out → ⊥
  pub twice : FitsScript (take_line ∷ []) line_twice → ⊥
  pub other : FitsScript (take_line ∷ []) other_call → ⊥
  -- the text is good
  pub refused : FitsScript (write_line (codes "_ _ r\n") ∷ []) text_refused → ⊥
  -- the text has a bad line, and the text has other modes
  pub bad : FitsScript (write_line (codes "_ _ z\n") ∷ []) text_published → ⊥
  pub writes : FitsScript (write_line (codes "_ _ w\n") ∷ []) text_published → ⊥
  pub labels : FitsScript (take_line ∷ []) other_labels → ⊥
  pub names : FitsScript (take_line ∷ []) other_names → ⊥
