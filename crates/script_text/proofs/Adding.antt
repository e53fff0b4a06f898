use Rattle.std.proofs.Common.{◌≡◌, ◌≤◌, ◌<◌, ◌+◌, ℕ, false, nat_eq, List, [], ◌∷◌, ◌++◌, length, length-append, refl, sym, ap, ◌∙◌, subst, arith, None}
use Rattle.std.specs.Prelude.{Option, map, nat_lt}
use Rattle.std.specs.List.{flat_map}
use Rattle.std.proofs.lemmas.Bool.{le-ltb}
use Rattle.std.proofs.lemmas.List.{append-nil, map-append, length-map}
use Rattle.std.proofs.lemmas.List.Sums.{sum_by-append, count_by-le-length}
use Rattle.std.proofs.lemmas.Grind.{fold-append, flat_map-append}
use Rattle.text_spec.specs.Names.{with_name, with_names, predefined}
use Rattle.script_spec.specs.declared.ScriptFault.{ScriptFault}
use Rattle.script_spec.specs.Lines.{ScriptLine, labels_of, line_rows, rows_in, table_of}
use Rattle.script_spec.specs.Tasks.{Tasks, tasks_of, task_names, change_of, forked_name}
use Rattle.script_spec.specs.Grammar.{first_script_fault, tasks_fault, text_fault, rows_fault, labels_fault, limit_faults, item_fault, call_in, call_of, most_script_tasks, most_text, most_rows, most_lines, most_labels}
use Rattle.script_text.specs.declared.reading.Draft.{Draft}
use Rattle.script_text.specs.declared.reading.Found.{Found}
use Rattle.script_text.specs.declared.reading.Place.{Place}
use Rattle.script_text.specs.declared.spelled.Spelled.{Spelled}
use Rattle.script_text.specs.Spelled.{spelled_seen}
use Rattle.script_text.specs.declared.line.Line.{Line}
use Rattle.script_text.specs.Lines.{call_seen}
use Rattle.script_text.specs.TaskTables.{tasks_seen, table_after, count_in, IsWaitThere, IsTasksAfter}
use Rattle.script_text.specs.Scripts.{calls_seen, item_found, IsDraft, HasFault, IsSpelled, IsAdded, IsItemRead, words_fault, limits_fault}
use Rattle.script_text.proofs.TaskSteps.{tasks_more, waits_more}

-- the label table of one more call
pub table_more : (lines : List ScriptLine) (x : ScriptLine) → table_of (lines ++ x ∷ []) ≡ with_names (table_of lines) (labels_of x)
table_more lines x =
    ap (λ (t : List (List ℕ)). with_names predefined t) (flat_map-append labels_of lines (x ∷ []) ∙ ap (λ (t : List (List ℕ)). flat_map labels_of lines ++ t) (append-nil (labels_of x)))
    ∙ fold-append with_name predefined (flat_map labels_of lines) (labels_of x)

-- the rows of one more call
pub rows_more : (lines : List ScriptLine) (x : ScriptLine) → rows_in (lines ++ x ∷ []) ≡ rows_in lines + line_rows x
rows_more lines x =
    let last : rows_in lines + (0 + line_rows x) ≡ rows_in lines + line_rows x = omega arith in
    sum_by-append line_rows lines (x ∷ []) ∙ last

-- the limits behind what a draft keeps are those behind its calls
pub limits_are : (d : Draft) (x : ScriptLine) → IsDraft d
    → limits_fault (tasks_seen d.tasks) d.rows d.labels x ≡ first_script_fault (limit_faults (calls_seen d ++ x ∷ []) x)
limits_are d x draft =
    let above = calls_seen d in
    let names : (tasks_seen d.tasks).names ++ forked_name (change_of x) ≡ task_names (above ++ x ∷ []) =
    ap (λ (t : Tasks). t.names ++ forked_name (change_of x)) draft.tasks ∙ sym (ap (λ (t : Tasks). t.names) (tasks_more above x draft.waits)) in
    let rows : d.rows + line_rows x ≡ rows_in (above ++ x ∷ []) = ap (λ (n : ℕ). n + line_rows x) draft.rows ∙ sym (rows_more above x) in
    let labels : with_names d.labels (labels_of x) ≡ table_of (above ++ x ∷ []) =
    ap (λ (t : List (List ℕ)). with_names t (labels_of x)) draft.labels ∙ sym (table_more above x) in
    λ i. first_script_fault (tasks_fault (names i) ∷ text_fault x ∷ rows_fault (rows i) ∷ labels_fault (labels i) ∷ [])

-- a call that keeps the limits is added
pub added : (old new : Draft) (x : ScriptLine) (call : Line) → IsDraft old → IsWaitThere (tasks_seen old.tasks) (change_of x)
    → nat_lt most_script_tasks (length ((tasks_seen old.tasks).names ++ forked_name (change_of x))) ≡ false → length x.text.bytes ≤ most_text
    → new.rows ≡ old.rows + line_rows x → new.rows ≤ most_rows
    → new.labels ≡ with_names old.labels (labels_of x) → length new.labels ≤ most_labels
    → IsTasksAfter x.task (change_of x) old.tasks new.tasks → call_seen call ≡ x → new.lines.items ≡ old.lines.items ++ call ∷ []
    → IsAdded old new x
added old new x call draft there room short rows few_rows labels many after is lines =
    let above = calls_seen old in
    let calls : calls_seen new ≡ above ++ x ∷ [] =
    ap (map call_seen) lines ∙ map-append call_seen old.lines.items (call ∷ []) ∙ ap (λ (l : ScriptLine). map call_seen old.lines.items ++ l ∷ []) is in
    let there_above : IsWaitThere (tasks_of above) (change_of x) =
    subst (λ (t : Tasks). IsWaitThere t (change_of x)) draft.tasks there in
    let size : nat_lt most_text (length x.text.bytes) ≡ false = le-ltb most_text (length x.text.bytes) short in
    let row_size : nat_lt most_rows (old.rows + line_rows x) ≡ false = rw (← rows) (le-ltb most_rows new.rows few_rows) in
    let few_labels : nat_lt most_labels (length (with_names old.labels (labels_of x))) ≡ false =
    rw (← labels) (le-ltb most_labels (length new.labels) many) in
    record {
      good = rw (room, size, row_size, few_labels) refl;
      calls = calls;
      draft = record {
        tasks =
            after.says ∙ ap (λ (t : Tasks). table_after t x.task (change_of x)) draft.tasks ∙ sym (tasks_more above x draft.waits) ∙ ap tasks_of (sym calls);
        rows = rows ∙ ap (λ (n : ℕ). n + line_rows x) draft.rows ∙ sym (rows_more above x) ∙ ap rows_in (sym calls);
        labels = labels ∙ ap (λ (t : List (List ℕ)). with_names t (labels_of x)) draft.labels ∙ sym (table_more above x) ∙ ap table_of (sym calls);
        waits = rw calls (waits_more above x draft.waits there_above);
        table = after.table;
        most_rows = few_rows;
        most_labels = many;
      };
      count = ap length lines ∙ length-append old.lines.items (call ∷ []);
    }

-- what an item that is spelled breaks is what its call breaks by the limits
pub item_limits : (d : Draft) (f : Found) (c : Spelled) (place : Place) → IsDraft d → f.number ≤ most_lines
    → IsSpelled (tasks_seen d.tasks) f c place
    → (spelled_seen c ≡ call_of (calls_seen d) (item_found f))
    × (limits_fault (tasks_seen d.tasks) d.rows d.labels (spelled_seen c) ≡ item_fault (calls_seen d) (item_found f))
item_limits d f c place draft within spelled =
    let above = calls_seen d in
    let i = item_found f in
    let same : spelled_seen c ≡ call_of above i = spelled.is ∙ ap (λ (t : Tasks). call_in t i) draft.tasks in
    let lines : nat_lt most_lines f.number ≡ false = le-ltb most_lines f.number within in
    let words : words_fault (tasks_of above) i ≡ None = sym (ap (λ (t : Tasks). words_fault t i) draft.tasks) ∙ spelled.good in
    let item : item_fault above i ≡ first_script_fault (limit_faults (above ++ call_of above i ∷ []) (call_of above i)) = rw (lines, words) refl in (
      same,
      limits_are d (spelled_seen c) draft ∙ ap (λ (x : ScriptLine). first_script_fault (limit_faults (above ++ x ∷ []) x)) same ∙ sym item,
    )

-- an item that is spelled and whose call is added is read
pub item_is_read : (old new : Draft) (f : Found) (c : Spelled) (place : Place) → IsDraft old → f.number ≤ most_lines
    → IsSpelled (tasks_seen old.tasks) f c place → IsAdded old new (spelled_seen c) → IsItemRead old new f place
item_is_read old new f c place draft within spelled added =
    let limits = item_limits old f c place draft within spelled in
    record {
      good = sym limits.1 ∙ added.good;
      calls = added.calls ∙ ap (λ (x : ScriptLine). calls_seen old ++ x ∷ []) limits.0;
      draft = added.draft;
      within = within;
      count = added.count;
      behind = spelled.behind;
    }

-- no task has more calls than a draft
pub few_calls : (d : Draft) (most : ℕ) → IsDraft d → length d.lines.items < most → (task : ℕ) → count_in d.tasks.calls.items task < most
few_calls d most draft few task =
    let same : count_in d.tasks.calls.items task ≡ (tasks_of (calls_seen d)).calls task = ap (λ (t : Tasks). t.calls task) draft.tasks in
    omega (arith, same, count_by-le-length (λ l. nat_eq l.task task) (calls_seen d), length-map d.lines.items call_seen, few)

-- an item whose call breaks a limit
pub fails_by_limits : (d : Draft) (f : Found) (c : Spelled) (place : Place) (e : ScriptFault) → IsDraft d → f.number ≤ most_lines
    → IsSpelled (tasks_seen d.tasks) f c place → HasFault (limits_fault (tasks_seen d.tasks) d.rows d.labels (spelled_seen c)) e
    → HasFault (item_fault (calls_seen d) (item_found f)) e
fails_by_limits d f c place e draft within spelled has =
    subst (λ (fault : Option ScriptFault). HasFault fault e) (item_limits d f c place draft within spelled).1 has
