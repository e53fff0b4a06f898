use Rattle.std.specs.Prelude.{ℕ, List, [], ◌∷◌, Option, Some, None, map}
use Rattle.std.specs.List.{flat_map}
use Rattle.smack_base.specs.declared.modes.Modes.{Modes}
use Rattle.smack_base.specs.declared.ids.LabelId.{LabelId}
use Rattle.smack_base.specs.declared.ids.Pid.{Pid}
use Rattle.smack_base.specs.Modes.{letters_of}
use Rattle.rules_spec.specs.declared.Verdict.{Verdict}
use Rattle.log_spec.specs.declared.Action.{Action}
use Rattle.log_spec.specs.Words.{line, name_at, task_name}
use Rattle.log_spec.specs.Audits.{audit_line}

-- a word of a line: a plain text, the text of a label, or the name of a task
pub data Shown : Type 0 where
  Plain : List ℕ → Shown
  LabelAt : LabelId → Shown
  NameOf : Pid → Shown

abbrev pub plain_words : List (List ℕ) → List Shown
plain_words texts = map Plain texts

-- subject, object and modes
abbrev pub triple : LabelId → LabelId → Modes → List Shown
triple s o m = LabelAt s ∷ LabelAt o ∷ Plain (letters_of m) ∷ []

-- A line of a record: its first word, which says what it is, and its other words; or what the system's log says of a
-- check that a call of a verb asked.
pub data PrintedLine : Type 0 where
  Says : List ℕ → List Shown → PrintedLine
  Logs : List ℕ → Verdict → Action → PrintedLine

-- the bytes of a word, by the texts of the labels and the names of the tasks
abbrev pub spell : List (List ℕ) → List (List ℕ) → Shown → List ℕ
spell labels names (Plain text) = text
spell labels names (LabelAt id) = name_at labels id
spell labels names (NameOf pid) = task_name names pid

abbrev pub spelled : List (List ℕ) → List (List ℕ) → List Shown → List (List ℕ)
spelled labels names shown = map (spell labels names) shown

-- the bytes of a line
abbrev pub spell_line : List (List ℕ) → List (List ℕ) → PrintedLine → List ℕ
spell_line labels names (Says first shown) = line first (spelled labels names shown)
spell_line labels names (Logs verb v action) = audit_line labels verb v action

abbrev pub spell_lines : List (List ℕ) → List (List ℕ) → List PrintedLine → List (List ℕ)
spell_lines labels names lines = map (spell_line labels names) lines

abbrev pub logged_as : List ℕ → Verdict → Option Action → List PrintedLine
logged_as verb v None = []
logged_as verb v (Some action) = Logs verb v action ∷ []

-- what the system's log says of the checks of a call, in their order, by what each is logged as
abbrev pub audit_lines : (Verdict → Option Action) → List ℕ → List Verdict → List PrintedLine
audit_lines action verb checks = flat_map (λ v. logged_as verb v (action v)) checks

-- the words of a line: in the system's log these are the labels of the check, within its pairs
abbrev pub words_in : PrintedLine → List Shown
words_in (Says first shown) = shown
words_in (Logs verb v action) = LabelAt v.subject ∷ LabelAt v.object ∷ []

-- the label that a word shows
abbrev pub label_shown : Shown → List LabelId
label_shown (Plain text) = []
label_shown (LabelAt id) = id ∷ []
label_shown (NameOf pid) = []

-- the task whose name a word shows
abbrev pub name_shown : Shown → List Pid
name_shown (Plain text) = []
name_shown (LabelAt id) = []
name_shown (NameOf pid) = pid ∷ []

-- the labels that some lines show, in order, each as often as it stands there
abbrev pub labels_in_lines : List PrintedLine → List LabelId
labels_in_lines lines = flat_map label_shown (flat_map words_in lines)

-- the tasks that some lines name, in order, each as often as it stands there
abbrev pub names_in_lines : List PrintedLine → List Pid
names_in_lines lines = flat_map name_shown (flat_map words_in lines)
