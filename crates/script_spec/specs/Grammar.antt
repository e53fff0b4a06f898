use Rattle.std.specs.Prelude.{ℕ, ◌+◌, ◌-◌, Bool, true, false, ◌||◌, ◌==◌, if◌then◌else◌, List, [], ◌∷◌, ◌++◌, Option, Some, None, Result, Ok, Err, length, take, drop, nat_lt, nat_le}
use Rattle.std.specs.Option.{option_map}
use Rattle.text_spec.specs.Texts.{Placed, TextLine, lines_from, words_from, whole_line, whole_lines, is_space}
use Rattle.script_spec.specs.declared.What.TheVariants as What
use Rattle.script_spec.specs.declared.ScriptFault.{ScriptFault}
use Rattle.script_spec.specs.declared.ScriptFault.TheVariants as ScriptFault
use Rattle.verb_spec.specs.Words.{number_of, word_at}
use Rattle.verb_spec.specs.Kinds.{lines_word}
use Rattle.verb_spec.specs.Verbs.{verb_of, kinds_by}
use Rattle.script_spec.specs.Lines.{ScriptLine, table_of, rows_in}
use Rattle.script_spec.specs.Tasks.{Tasks, tasks_of, task_names, pid_of}
use Rattle.script_spec.specs.Causes.{line_cause}

-- the most bytes and lines of a script, and the most bytes of one text
abbrev pub most_bytes : ℕ
most_bytes = 4194304

abbrev pub most_lines : ℕ
most_lines = 131072

abbrev pub most_text : ℕ
most_text = 65536

-- the most rows of a journal
abbrev pub most_rows : ℕ
most_rows = 1048576

-- the most labels of a script, the predefined ones included
abbrev pub most_labels : ℕ
most_labels = 65535

-- the most tasks of a script, the first one included
abbrev pub most_script_tasks : ℕ
most_script_tasks = 64

abbrev pub spaced_words : TextLine → List Placed
spaced_words l = words_from is_space l.at l.bytes

abbrev pub is_comment : List ℕ → Bool
is_comment [] = false
is_comment (b ∷ bs) = b == 35

abbrev pub is_bare : List Placed → Bool
is_bare [] = true
is_bare (w ∷ ws) = false

-- a line that is skipped: empty, of spaces, or one that begins with #
abbrev pub is_skipped : TextLine → Bool
is_skipped l = is_comment l.bytes || is_bare (spaced_words l)

abbrev pub or_zero : Option ℕ → ℕ
or_zero None = 0
or_zero (Some n) = n

abbrev pub number_at : Option (List ℕ) → ℕ
number_at None = 0
number_at (Some word) = or_zero (number_of word)

-- how many of the lines behind a line of these words are its text
abbrev pub text_count : List Placed → ℕ
text_count (task ∷ verb ∷ ws) = number_at (lines_word (kinds_by (verb_of verb.bytes) ws) ws)
text_count ws = 0

-- a line that is neither skipped nor text: its number, its words, the place behind it, and the lines behind it
pub record Item : Type 0 where
  pub line : ℕ
  pub words : List Placed
  pub behind : ℕ
  pub after : List TextLine

abbrev pub item_of : ℕ → TextLine → List TextLine → Item
item_of line l after = record {
  line = line;
  words = spaced_words l;
  behind = l.at + length (whole_line l);
  after = after;
}

-- the items of lines from this number on, of which so many are text of an item before
abbrev pub items : ℕ → ℕ → List TextLine → List Item
items line text [] = []
items line text (l ∷ ls) =
    if text == 0
    then (if is_skipped l then items (line + 1) 0 ls
    else item_of line l ls ∷ items (line + 1) (text_count (spaced_words l)) ls)
    else items (line + 1) (text - 1) ls

-- the bytes of the text of an item
abbrev pub text_bytes : Item → List ℕ
text_bytes i = whole_lines (take (text_count i.words) i.after)

-- the call of an item behind calls that say this of tasks; the words behind its task are its words
abbrev pub call_in : Tasks → Item → ScriptLine
call_in tasks i = let task = pid_of tasks (word_at 0 i.words).bytes in record {
  task = task;
  seq = tasks.calls task + 1;
  line = i.line;
  words = drop 1 i.words;
  text = record { at = i.behind; bytes = text_bytes i };
}

-- the call of an item behind the calls above it
abbrev pub call_of : List ScriptLine → Item → ScriptLine
call_of above i = call_in (tasks_of above) i

-- the text of an item is all there
abbrev pub has_text : Item → Bool
has_text i = nat_le (text_count i.words) (length i.after)

abbrev pub fault_if : Bool → ScriptFault → Option ScriptFault
fault_if bad fault = if bad then Some fault else None

-- the first fault of some, in their order
abbrev pub first_script_fault : List (Option ScriptFault) → Option ScriptFault
first_script_fault [] = None
first_script_fault (None ∷ more) = first_script_fault more
first_script_fault (Some f ∷ more) = Some f

-- the limits: the tasks of a script, the bytes of a text, the rows of a journal, the labels of a script
abbrev pub tasks_fault : List (List ℕ) → Option ScriptFault
tasks_fault names = fault_if (nat_lt most_script_tasks (length names)) (ScriptFault.TooLarge What.Tasks)

abbrev pub text_fault : ScriptLine → Option ScriptFault
text_fault l = fault_if (nat_lt most_text (length l.text.bytes)) (ScriptFault.TooLarge What.Text)

abbrev pub rows_fault : ℕ → Option ScriptFault
rows_fault rows = fault_if (nat_lt most_rows rows) (ScriptFault.TooLarge What.Rows)

abbrev pub labels_fault : List (List ℕ) → Option ScriptFault
labels_fault table = fault_if (nat_lt most_labels (length table)) (ScriptFault.TooLarge What.Labels)

-- which of the limits calls exceed of which this is the last
abbrev pub limit_faults : List ScriptLine → ScriptLine → List (Option ScriptFault)
limit_faults lines last =
    tasks_fault (task_names lines) ∷ text_fault last ∷ rows_fault (rows_in lines) ∷ labels_fault (table_of lines) ∷ []

-- what an item breaks behind the calls above it: the limit of lines, then the grammar, then the other limits
abbrev pub item_fault : List ScriptLine → Item → Option ScriptFault
item_fault above i = let call = call_of above i in
    first_script_fault
    (fault_if (nat_lt most_lines i.line) (ScriptFault.TooLarge What.Lines)
    ∷ option_map (λ cause. ScriptFault.Malformed i.line cause) (line_cause (tasks_of above) i.words (has_text i))
    ∷ limit_faults (above ++ call ∷ []) call)

abbrev pub unless_script_fault : Option ScriptFault → Result (List ScriptLine) ScriptFault → Result (List ScriptLine) ScriptFault
unless_script_fault None more = more
unless_script_fault (Some e) more = Err e

-- the calls above and those of items, or the first fault; what stands behind the items may have one, too
abbrev pub calls_of : Option ScriptFault → List ScriptLine → List Item → Result (List ScriptLine) ScriptFault
calls_of behind above [] = unless_script_fault behind (Ok above)
calls_of behind above (i ∷ is) =
    unless_script_fault (item_fault above i) (calls_of behind (above ++ call_of above i ∷ []) is)

-- lines are too many, whatever stands in the last of them
abbrev pub lines_fault : List TextLine → Option ScriptFault
lines_fault lines = fault_if (nat_lt most_lines (length lines)) (ScriptFault.TooLarge What.Lines)

abbrev pub script_of : List TextLine → Result (List ScriptLine) ScriptFault
script_of lines = calls_of (lines_fault lines) [] (items 1 0 lines)

-- the script that these bytes are, or the first line that breaks the grammar or a limit
abbrev pub parse : List ℕ → Result (List ScriptLine) ScriptFault
parse bytes = if nat_lt most_bytes (length bytes) then Err (ScriptFault.TooLarge What.Bytes) else script_of (lines_from 0 bytes)
