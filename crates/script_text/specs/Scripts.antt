use Rattle.std.specs.Prelude.{◌≡◌, ◌≤◌, ◌<◌, ℕ, ◌+◌, List, ◌++◌, [], ◌∷◌, Option, Some, None, Result, Ok, Err, length, map, take, drop}
use Rattle.std.specs.List.{AllByRecursion}
use Rattle.std.specs.Option.{option_map}
use Rattle.text_spec.specs.Texts.{TextLine, whole_lines, is_space}
use Rattle.text_spec.specs.Names.{with_names}
use Rattle.rule_text.specs.declared.part.Part.{Part}
use Rattle.rule_text.specs.Parts.{lines_of, part_words, end_of, FitsPlaces}
use Rattle.script_spec.specs.declared.ScriptFault.{ScriptFault}
use Rattle.script_spec.specs.Lines.{ScriptLine, line_rows, rows_in, labels_of, table_of}
use Rattle.script_spec.specs.Tasks.{Tasks, tasks_of, change_of, forked_name}
use Rattle.script_spec.specs.Causes.{line_cause}
use Rattle.script_spec.specs.Grammar.{Item, text_count, call_in, call_of, item_fault, script_of, parse, has_text, first_script_fault, tasks_fault, text_fault, rows_fault, labels_fault, most_bytes, most_lines, most_rows, most_labels}
use Rattle.script_text.specs.declared.reading.Draft.{Draft}
use Rattle.script_text.specs.declared.reading.Place.{Place}
use Rattle.script_text.specs.declared.reading.Found.{Found}
use Rattle.script_text.specs.declared.spelled.Spelled.{Spelled}
use Rattle.script_text.specs.declared.tasks.TaskTable.{TaskTable}
use Rattle.script_text.specs.Lines.{call_seen}
use Rattle.script_text.specs.Spelled.{spelled_seen, IsSpelledCall}
use Rattle.script_text.specs.TaskTables.{tasks_seen, count_in, IsWaitThere, IsTable}

-- why a reading ended; want of memory is free
abbrev pub Fails : ScriptFault → Result (List ScriptLine) ScriptFault → Type 0
Fails ScriptFault.Memory read = Unit {0}
Fails (ScriptFault.Malformed line cause) read = read ≡ Err (ScriptFault.Malformed line cause)
Fails (ScriptFault.TooLarge what) read = read ≡ Err (ScriptFault.TooLarge what)

-- what was read is what the grammar gives
abbrev pub Reads : Result (List ScriptLine) ScriptFault → Result (List ScriptLine) ScriptFault → Type 0
Reads (Ok lines) read = read ≡ Ok lines
Reads (Err e) read = Fails e read

-- the calls are those of some bytes that are a script
abbrev pub AreRead : List ScriptLine → Type 0
AreRead lines = (bytes : List ℕ) × (parse bytes ≡ Ok lines)

-- the calls of a draft
abbrev pub calls_seen : Draft → List ScriptLine
calls_seen d = map call_seen d.lines.items

-- each task that one of the calls waits for is there
abbrev pub AreWaitsThere : List ScriptLine → Type 0
AreWaitsThere lines = AllByRecursion (λ l. IsWaitThere (tasks_of lines) (change_of l)) lines

-- what a draft keeps of its calls is what they say
pub record IsDraft (d : Draft) : Type 0 where
  pub tasks : tasks_seen d.tasks ≡ tasks_of (calls_seen d)
  pub rows : d.rows ≡ rows_in (calls_seen d)
  pub labels : d.labels ≡ table_of (calls_seen d)
  pub waits : AreWaitsThere (calls_seen d)
  pub table : IsTable d.tasks
  pub most_rows : d.rows ≤ most_rows
  pub most_labels : length d.labels ≤ most_labels

-- no task of a table has so many calls
abbrev pub HasFewCalls : TaskTable → Type 0
HasFewCalls t = (task : ℕ) → count_in t.calls.items task < most_lines

-- why an item was not read; want of memory is free
abbrev pub HasFault : Option ScriptFault → ScriptFault → Type 0
HasFault fault ScriptFault.Memory = Unit {0}
HasFault fault (ScriptFault.Malformed line cause) = fault ≡ Some (ScriptFault.Malformed line cause)
HasFault fault (ScriptFault.TooLarge what) = fault ≡ Some (ScriptFault.TooLarge what)

-- a part is the text of the first lines of another, and a part is what follows it
pub record IsTextOf (count : ℕ) (after text rest : Part) : Type 0 where
  pub at : text.at ≡ after.at
  pub bytes : text.bytes.now ≡ whole_lines (take count (lines_of after))
  pub there : count ≤ length (lines_of after)
  pub behind : lines_of rest ≡ drop count (lines_of after)
  pub ends : end_of rest ≡ end_of after
  pub fewer : count + length rest.bytes.now ≤ length after.bytes.now
  pub short : length text.bytes.now ≤ length after.bytes.now

-- the item that a line is which was found
abbrev pub item_found : Found → Item
item_found f = record {
  line = f.number;
  words = part_words is_space f.line;
  behind = f.after.at;
  after = lines_of f.after;
}

-- what is wrong with the words, the text or the tasks of an item
abbrev pub words_fault : Tasks → Item → Option ScriptFault
words_fault tasks i = option_map (λ cause. ScriptFault.Malformed i.line cause) (line_cause tasks i.words (has_text i))

-- what is wrong with a call by the limits, behind what is kept of the calls above it
abbrev pub limits_fault : Tasks → ℕ → List (List ℕ) → ScriptLine → Option ScriptFault
limits_fault tasks rows labels l =
    first_script_fault
    (tasks_fault (tasks.names ++ forked_name (change_of l)) ∷ text_fault l ∷ rows_fault (rows + line_rows l)
    ∷ labels_fault (with_names labels (labels_of l)) ∷ [])

-- a line that was found lies in an input of a script's size
pub record IsWithin (f : Found) : Type 0 where
  pub line : FitsPlaces f.line
  pub after : end_of f.after ≤ most_bytes
  pub count : f.number + length f.after.bytes.now ≤ most_bytes

-- reading goes on behind the text of an item
pub record IsBehind (f : Found) (place : Place) : Type 0 where
  pub rest : lines_of place.rest ≡ drop (text_count (item_found f).words) (lines_of f.after)
  pub line : place.line ≡ f.number + 1 + text_count (item_found f).words
  pub there : text_count (item_found f).words ≤ length (lines_of f.after)
  pub ends : end_of place.rest ≡ end_of f.after
  pub fewer : place.line + length place.rest.bytes.now ≤ f.number + 1 + length f.after.bytes.now

-- a call is that of the item, and reading goes on behind its text
pub record IsSpelled (tasks : Tasks) (f : Found) (c : Spelled) (place : Place) : Type 0 where
  pub good : words_fault tasks (item_found f) ≡ None
  pub is : spelled_seen c ≡ call_in tasks (item_found f)
  pub call : IsSpelledCall c
  pub task : c.task < length tasks.names
  pub wait : IsWaitThere tasks (change_of (spelled_seen c))
  pub behind : IsBehind f place

-- one more call
pub record IsAdded (old new : Draft) (call : ScriptLine) : Type 0 where
  pub good : limits_fault (tasks_seen old.tasks) old.rows old.labels call ≡ None
  pub calls : calls_seen new ≡ calls_seen old ++ call ∷ []
  pub draft : IsDraft new
  pub count : length new.lines.items ≡ length old.lines.items + 1

-- an item is read: it has no fault, its call is added, and reading goes on behind its text
pub record IsItemRead (old new : Draft) (f : Found) (place : Place) : Type 0 where
  pub good : item_fault (calls_seen old) (item_found f) ≡ None
  pub calls : calls_seen new ≡ calls_seen old ++ call_of (calls_seen old) (item_found f) ∷ []
  pub draft : IsDraft new
  pub within : f.number ≤ most_lines
  pub count : length new.lines.items ≡ length old.lines.items + 1
  pub behind : IsBehind f place

-- a draft has all the calls of some lines, and what they say
pub record IsWholeDraft (d : Draft) (lines : List TextLine) : Type 0 where
  pub calls : script_of lines ≡ Ok (calls_seen d)
  pub draft : IsDraft d
  pub few : length d.lines.items ≤ most_lines
