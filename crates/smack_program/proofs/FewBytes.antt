use Rattle.std.proofs.Common.{◌≡◌, ◌≤◌, ℕ, Bool, true, false, List, [], ◌∷◌, ◌++◌, length, Some, None, Ok, Err}
use Rattle.std.specs.Prelude.{Option, Result, nat_lt}
use Rattle.std.proofs.lemmas.Bool.{le-ltb}
use Rattle.std.specs.Option.{option_map}
use Rattle.text_spec.specs.Texts.{lines_from}
use Rattle.script_spec.specs.declared.Cause.{Cause}
use Rattle.script_spec.specs.declared.What.TheVariants as What
use Rattle.script_spec.specs.declared.ScriptFault.{ScriptFault}
use Rattle.script_spec.specs.declared.ScriptFault.TheVariants as ScriptFault
use Rattle.script_spec.specs.Lines.{ScriptLine, table_of, rows_in}
use Rattle.script_spec.specs.Tasks.{tasks_of, task_names}
use Rattle.script_spec.specs.Causes.{line_cause}
use Rattle.script_spec.specs.Grammar.{Item, parse, calls_of, call_of, items, first_script_fault, fault_if, unless_script_fault, has_text, most_bytes, most_lines, most_script_tasks, most_text, most_rows, most_labels}

-- no item exceeds the limit of bytes
item_few : (lines : Bool) (cause : Option Cause) (tasks text rows labels : Bool) (line : ℕ) (more : Result (List ScriptLine) ScriptFault)
    → unless_script_fault
    (first_script_fault
    (fault_if lines (ScriptFault.TooLarge What.Lines) ∷ option_map (λ w. ScriptFault.Malformed line w) cause ∷ fault_if tasks (ScriptFault.TooLarge What.Tasks) ∷ fault_if text (ScriptFault.TooLarge What.Text)
    ∷ fault_if rows (ScriptFault.TooLarge What.Rows) ∷ fault_if labels (ScriptFault.TooLarge What.Labels) ∷ [])) more ≡ Err (ScriptFault.TooLarge What.Bytes)
    → more ≡ Err (ScriptFault.TooLarge What.Bytes)
item_few true cause tasks text rows labels line more e = cc
item_few false (Some w) tasks text rows labels line more e = cc
item_few false None true text rows labels line more e = cc
item_few false None false true rows labels line more e = cc
item_few false None false false true labels line more e = cc
item_few false None false false false true line more e = cc
item_few false None false false false false line more e = e

ends_few : (lines : Bool) (above : List ScriptLine) → unless_script_fault (fault_if lines (ScriptFault.TooLarge What.Lines)) (Ok above) ≡ Err (ScriptFault.TooLarge What.Bytes) → ⊥
ends_few true above e = cc
ends_few false above e = cc

calls_few : (lines : Bool) (above : List ScriptLine) (is : List Item) → calls_of (fault_if lines (ScriptFault.TooLarge What.Lines)) above is ≡ Err (ScriptFault.TooLarge What.Bytes) → ⊥
calls_few lines above [] e = ends_few lines above e
calls_few lines above (i ∷ is) e =
    let call : ScriptLine = call_of above i in
    let now : List ScriptLine = above ++ call ∷ [] in
    calls_few lines now is
    (item_few (nat_lt most_lines i.line) (line_cause (tasks_of above) i.words (has_text i)) (nat_lt most_script_tasks (length (task_names now)))
    (nat_lt most_text (length call.text.bytes)) (nat_lt most_rows (rows_in now)) (nat_lt most_labels (length (table_of now))) i.line
    (calls_of (fault_if lines (ScriptFault.TooLarge What.Lines)) now is) e)

-- few bytes do not exceed the limit of bytes
pub few_bytes : (bytes : List ℕ) → length bytes ≤ most_bytes → parse bytes ≡ Err (ScriptFault.TooLarge What.Bytes) → ⊥
few_bytes bytes few e =
    calls_few (nat_lt most_lines (length (lines_from 0 bytes))) [] (items 1 0 (lines_from 0 bytes))
    (rw (le-ltb most_bytes (length bytes) few) at e)
