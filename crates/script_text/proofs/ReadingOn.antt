use Rattle.std.proofs.Common.{◌≡◌, ◌≤◌, ◌<◌, ◌+◌, ◌-◌, ℕ, suc, false, List, [], ◌∷◌, ◌++◌, length, refl, sym, ap, ◌∙◌, arith, length-append}
use Rattle.std.specs.Prelude.{Option, Result, map}
use Rattle.std.proofs.lemmas.List.{length-drop}
use Rattle.text_spec.specs.Texts.{whole_line, whole_lines, is_space}
use Rattle.text_spec.specs.Names.{predefined}
use Rattle.rule_text.proofs.WholeLines.{whole_of_lines}
use Rattle.rule_text.specs.declared.part.Part.{Part}
use Rattle.rule_text.specs.Parts.{lines_of, part_words, end_of, first_text_line, as_line}
use Rattle.script_spec.specs.declared.ScriptFault.{ScriptFault}
use Rattle.script_spec.specs.Lines.{ScriptLine, rows_in, table_of}
use Rattle.script_spec.specs.Tasks.{tasks_of}
use Rattle.script_spec.specs.Grammar.{Item, item_of, items, is_skipped, text_count, item_fault, call_of, calls_of, script_of, lines_fault, unless_script_fault, most_lines}
use Rattle.script_laws.proofs.Items.{items_pass}
use Rattle.script_text.specs.declared.reading.Draft.{Draft}
use Rattle.script_text.specs.declared.reading.Place.{Place}
use Rattle.script_text.specs.declared.reading.Found.{Found}
use Rattle.script_text.specs.Lines.{call_seen}
use Rattle.script_text.specs.TaskTables.{IsFirst}
use Rattle.script_text.specs.Scripts.{Fails, HasFault, calls_seen, item_found, IsDraft, IsItemRead}
use Rattle.script_text.proofs.TaskSteps.{tasks_first, table_first}

-- what is read so far, and what is left, make the whole
pub record ReadsOn (d : Draft) (place : Place) (text : Part) : Type 0 where
  pub reads :
      calls_of (lines_fault (lines_of text)) (calls_seen d) (items place.line 0 (lines_of place.rest)) ≡ script_of (lines_of text)
  pub draft : IsDraft d
  pub ends : end_of place.rest ≡ end_of text
  pub fewer : place.line + length place.rest.bytes.now ≤ 1 + length text.bytes.now
  pub total : place.line + length (lines_of place.rest) ≡ 1 + length (lines_of text)
  pub behind : length d.lines.items < place.line
  pub few : length d.lines.items ≤ most_lines

-- the place behind the first line of a text
behind_line : (text line after : Part) → lines_of text ≡ first_text_line text line ∷ lines_of after → line.at ≡ text.at → end_of after ≡ end_of text
    → line.at + length (whole_line (first_text_line text line)) ≡ after.at
behind_line text line after cut begins ends =
    let whole : text.bytes.now ≡ whole_line (first_text_line text line) ++ after.bytes.now =
    sym (whole_of_lines text.at text.bytes.now) ∙ ap whole_lines cut
    ∙ ap (λ (t : List ℕ). whole_line (first_text_line text line) ++ t) (whole_of_lines after.at after.bytes.now) in
    omega (arith, ap (λ (t : List ℕ). length t) whole, length-append (whole_line (first_text_line text line)) after.bytes.now)

-- the item of a line that was found
item_is : (text : Part) (f : Found) → lines_of text ≡ first_text_line text f.line ∷ lines_of f.after → f.line.at ≡ text.at → end_of f.after ≡ end_of text
    → item_of f.number (first_text_line text f.line) (lines_of f.after) ≡ item_found f
item_is text f cut begins ends =
    λ i. record {
      line = f.number;
      words = part_words is_space f.line;
      behind = behind_line text f.line f.after cut begins ends i;
      after = lines_of f.after;
    }

-- the items of a text that begins with this line
items_cut : (text : Part) (f : Found) → lines_of text ≡ first_text_line text f.line ∷ lines_of f.after → f.line.at ≡ text.at → end_of f.after ≡ end_of text
    → is_skipped (as_line f.line) ≡ false
    → items f.number 0 (lines_of text) ≡ item_found f ∷ items (f.number + 1) (text_count (item_found f).words) (lines_of f.after)
items_cut text f cut begins ends called =
    rw (cut, called) (ap (λ (i : Item). i ∷ items (f.number + 1) (text_count (item_found f).words) (lines_of f.after)) (item_is text f cut begins ends))

fails_as : (e : ScriptFault) (fault : Option ScriptFault) (more whole : Result (List ScriptLine) ScriptFault)
    → HasFault fault e → unless_script_fault fault more ≡ whole → Fails e whole
fails_as ScriptFault.Memory fault more whole has is = tt
fails_as (ScriptFault.Malformed line cause) fault more whole has is = sym is ∙ rw has refl
fails_as (ScriptFault.TooLarge what) fault more whole has is = sym is ∙ rw has refl

-- an item with a fault ends the reading
pub item_fails : (d : Draft) (place : Place) (text line after : Part) (e : ScriptFault) → ReadsOn d place text
    → lines_of place.rest ≡ first_text_line place.rest line ∷ lines_of after → line.at ≡ place.rest.at → end_of after ≡ end_of place.rest
    → is_skipped (as_line line) ≡ false
    → HasFault (item_fault (calls_seen d) (item_found (record { number = place.line; line = line; after = after }))) e
    → Fails e (script_of (lines_of text))
item_fails d place text line after e on cut begins ends called has =
    let f : Found = record { number = place.line; line = line; after = after } in
    let items_are = items_cut place.rest f cut begins ends called in
    fails_as e _ _ _ has (rw items_are at on.reads)

-- no more calls than lines so far
few_more : (calls calls' line : ℕ) → calls < line → line ≤ most_lines → calls' ≡ calls + 1 → calls' ≤ most_lines
few_more calls calls' line behind within more = omega (arith, behind, within, more)

-- an item that is read
pub item_read : (d d' : Draft) (place place' : Place) (text line after : Part) → ReadsOn d place text
    → lines_of place.rest ≡ first_text_line place.rest line ∷ lines_of after → line.at ≡ place.rest.at → end_of after ≡ end_of place.rest
    → length after.bytes.now < length place.rest.bytes.now → is_skipped (as_line line) ≡ false
    → IsItemRead d d' (record { number = place.line; line = line; after = after }) place' → ReadsOn d' place' text
item_read d d' place place' text line after on cut begins ends falls called read =
    let f : Found = record { number = place.line; line = line; after = after } in
    let i = item_found f in
    let above = calls_seen d in
    let count = text_count i.words in
    let behind = lines_fault (lines_of text) in
    let next = read.behind in
    let items_are = items_cut place.rest f cut begins ends called in
    let passed : items place'.line 0 (lines_of place'.rest) ≡ items (place.line + 1) count (lines_of after) =
    rw (next.line, next.rest) (sym (items_pass (place.line + 1) count (lines_of after))) in
    let one : calls_of behind above (items place.line 0 (lines_of place.rest))
    ≡ calls_of behind (above ++ call_of above i ∷ []) (items (place.line + 1) count (lines_of after)) = rw (items_are, read.good) refl in
    let lines : length (lines_of place.rest) ≡ suc (length (lines_of after)) = ap length cut in
    let rest : length (lines_of place'.rest) ≡ length (lines_of after) - count = ap length next.rest ∙ length-drop count (lines_of after) in
    record {
      reads = rw (read.calls, passed) (sym one ∙ on.reads);
      draft = read.draft;
      ends = next.ends ∙ ends ∙ on.ends;
      fewer = omega (arith, next.fewer, falls, on.fewer);
      total = omega (arith, on.total, lines, rest, next.line, next.there);
      behind = omega (arith, read.count, next.line, on.behind);
      few = few_more _ _ place.line on.behind read.within read.count;
    }

-- nothing is read yet
pub reads_first : (d : Draft) (text : Part) → d.lines.items ≡ [] → d.rows ≡ 0 → d.labels ≡ predefined → IsFirst d.tasks
    → ReadsOn d (record { rest = text; line = 1 }) text
reads_first d text lines rows labels first =
    let none : calls_seen d ≡ [] = ap (map call_seen) lines in
    record {
      reads = rw none refl;
      draft = record {
        tasks = tasks_first d.tasks first ∙ ap tasks_of (sym none);
        rows = rows ∙ ap rows_in (sym none);
        labels = labels ∙ ap table_of (sym none);
        waits = rw none tt;
        table = table_first d.tasks first;
        most_rows = omega (arith, rows);
        most_labels = rw labels (omega arith);
      };
      ends = refl;
      fewer = omega arith;
      total = refl;
      behind = rw lines (omega arith);
      few = rw lines (omega arith);
    }
