use Rattle.std.specs.Prelude.{ℕ, ◌+◌, List, [], ◌∷◌, ◌++◌, length, map, codes}
use Rattle.std.specs.List.{flat_map}
use Rattle.smack_base.specs.declared.ids.LabelId.{LabelId}
use Rattle.smack_base.specs.declared.ids.Pid.{Pid}
use Rattle.smack_base.specs.declared.rule_op.RuleOp.{RuleOp}
use Rattle.smack_base.specs.Modes.{letters_of}
use Rattle.rules_spec.specs.declared.Batch.{Batch}
use Rattle.record_spec.specs.declared.AskedLine.{AskedLine}
use Rattle.record_spec.specs.declared.AskedWhat.{AskedWhat}
use Rattle.record_spec.specs.declared.NumberedTask.{NumberedTask}
use Rattle.record_spec.specs.declared.RunRecord.{RunRecord}
use Rattle.world_spec.specs.Replays.{version_of}
use Rattle.log_spec.specs.Numerals.{numeral}
use Rattle.log_spec.specs.Audits.{action_of}
use Rattle.log_spec.specs.Words.{call_number, version_word, decision}
use Rattle.log_spec.specs.Shown.{Shown, Plain, LabelAt, NameOf, plain_words, triple, PrintedLine, Says, spell_lines, labels_in_lines, names_in_lines}
use Rattle.record_spec.specs.Tasks.{run_tasks}
use Rattle.record_spec.specs.Entries.{entry_lines}
use Rattle.record_spec.specs.Refusals.{refusal_words}

-- a rule write: its name and its words
abbrev pub op_words : RuleOp → List Shown
op_words (RuleOp.Set s o m) = Plain (codes "set") ∷ triple s o m
op_words (RuleOp.Change s o allow deny) = Plain (codes "change") ∷ triple s o allow ++ Plain (letters_of deny) ∷ []
op_words (RuleOp.Revoke s) = Plain (codes "revoke") ∷ LabelAt s ∷ []
op_words RuleOp.OnlyClear = Plain (codes "only-clear") ∷ []
op_words (RuleOp.OnlyAdd l) = Plain (codes "only-add") ∷ LabelAt l ∷ []
op_words (RuleOp.Ambient l) = Plain (codes "ambient") ∷ LabelAt l ∷ []
op_words (RuleOp.Ptrace n) = Plain (codes "ptrace") ∷ Plain (numeral n) ∷ []
op_words (RuleOp.Logging n) = Plain (codes "logging") ∷ Plain (numeral n) ∷ []

abbrev pub op_line : RuleOp → PrintedLine
op_line op = Says (codes "o") (op_words op)

-- the version that a batch makes, the call that published it, and how many writes it has
abbrev pub batch_head : ℕ → Batch → PrintedLine
batch_head version b =
    Says (codes "j") (Plain (numeral version) ∷ Plain (call_number b.task b.seq) ∷ Plain (numeral (length b.ops)) ∷ [])

-- a batch that makes this version
abbrev pub batch_lines : ℕ → Batch → List PrintedLine
batch_lines version b = batch_head version b ∷ map op_line b.ops

-- the call that asked, and the version that it was answered in
abbrev pub asked_head : AskedLine → List Shown
asked_head a = Plain (call_number a.task a.seq) ∷ Plain (version_word a.version) ∷ []

-- what was asked, which file was written, or which task was waited for
abbrev pub what_words : AskedWhat → List Shown
what_words (AskedWhat.Ask v) = Plain (codes "ask") ∷ triple v.subject v.object v.modes
what_words (AskedWhat.Refused file fault) = Plain (codes "write") ∷ Plain file ∷ []
what_words (AskedWhat.Wait pid) = Plain (codes "wait") ∷ NameOf pid ∷ []

-- what was answered
abbrev pub answer_words : AskedWhat → List (List ℕ)
answer_words (AskedWhat.Ask v) = decision v
answer_words (AskedWhat.Refused file fault) = refusal_words fault
answer_words (AskedWhat.Wait pid) = codes "ok" ∷ []

-- an asked, refused or waited line and its answer
abbrev pub asked_lines : AskedLine → List PrintedLine
asked_lines a = Says (codes "q") (asked_head a ++ what_words a.what) ∷ Says (codes "=") (plain_words (answer_words a.what)) ∷ []

-- the lines of some items, each by its place, of which the first has this one
abbrev pub lines_in_turn : {X : Type 0} → (ℕ → X → List PrintedLine) → ℕ → List X → List PrintedLine
lines_in_turn f place [] = []
lines_in_turn f place (x ∷ xs) = f place x ++ lines_in_turn f (place + 1) xs

-- batches by the version that each makes, object calls by their place among them, and the other lines
abbrev pub journal_lines : RunRecord → List PrintedLine
journal_lines r = lines_in_turn batch_lines 1 r.journal

-- a version beyond the last batch is that of the whole journal
abbrev pub history_lines : RunRecord → List PrintedLine
history_lines r = lines_in_turn (λ place e. entry_lines (action_of (version_of r.journal e.version)) place e) 1 r.history

abbrev pub question_lines : RunRecord → List PrintedLine
question_lines r = lines_in_turn (λ place a. asked_lines a) 1 r.asked

abbrev pub first_line : PrintedLine
first_line = Says (codes "smack") (Plain (codes "1") ∷ [])

abbrev pub task_line : NumberedTask → PrintedLine
task_line t = Says (codes "task") (Plain (numeral t.number) ∷ NameOf t.pid ∷ [])

-- the numbers of batches, of object calls and of the other lines
abbrev pub end_line : RunRecord → PrintedLine
end_line r =
    Says (codes "end") (Plain (numeral (length r.journal)) ∷ Plain (numeral (length r.history)) ∷ Plain (numeral (length r.asked)) ∷ [])

-- the tasks of the run by rising number
abbrev pub task_lines : RunRecord → List PrintedLine
task_lines r = map task_line (run_tasks r.history)

-- the format, and the tasks
abbrev pub head_lines : RunRecord → List PrintedLine
head_lines r = first_line ∷ task_lines r

-- the lines of a record
abbrev pub record_lines : RunRecord → List PrintedLine
record_lines r =
    head_lines r ++ journal_lines r ++ history_lines r ++ question_lines r ++ end_line r ∷ []

-- all the bytes of some lines
abbrev pub joined : List (List ℕ) → List ℕ
joined lines = flat_map (λ l. l) lines

-- the bytes of lines of a record with these labels and names
abbrev pub spelled_text : List (List ℕ) → List (List ℕ) → List PrintedLine → List ℕ
spelled_text labels names lines = joined (spell_lines labels names lines)

-- the text of a record
abbrev pub show : RunRecord → List ℕ
show r = spelled_text r.labels r.names (record_lines r)

-- the labels that the text of a record shows, in order, each as often as it stands there
abbrev pub labels_shown : RunRecord → List LabelId
labels_shown r = labels_in_lines (record_lines r)

-- the tasks that it names
abbrev pub names_shown : RunRecord → List Pid
names_shown r = names_in_lines (record_lines r)
