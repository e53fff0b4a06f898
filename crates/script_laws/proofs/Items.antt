use Rattle.std.proofs.Common.{◌≡◌, ◌+◌, ◌-◌, ℕ, Bool, true, false, zero, suc, ◌&&◌, nat_eq, if◌then◌else◌, List, [], ◌∷◌, ◌++◌, length, length-append, take, drop, refl, sym, ap, ◌∙◌, arith, add-zero, Option, Some, None}
use Rattle.std.specs.Option.{option_map}
use Rattle.std.proofs.lemmas.Bool.{ne_eqb, le-leb}
use Rattle.text_spec.specs.Texts.{TextLine, Placed, whole_lines}
use Rattle.script_spec.specs.declared.Cause.{Cause}
use Rattle.script_spec.specs.declared.Cause.TheVariants as Cause
use Rattle.verb_spec.specs.declared.Verb.{Verb}
use Rattle.script_spec.specs.declared.ScriptFault.{ScriptFault}
use Rattle.script_spec.specs.declared.ScriptFault.TheVariants as ScriptFault
use Rattle.script_spec.specs.declared.What.TheVariants as What
use Rattle.verb_spec.specs.Verbs.{verb_of, kinds_of, is_unbuilt_verb}
use Rattle.verb_spec.specs.Kinds.{bad_word, has_word}
use Rattle.verb_spec.specs.Words.{is_task_name}
use Rattle.script_spec.specs.Lines.{ScriptLine}
use Rattle.script_spec.specs.Tasks.{Tasks, tasks_of}
use Rattle.script_spec.specs.Causes.{first_cause, cause_if, is_file_unbuilt, is_path_unbuilt, task_causes, verb_cause, behind_task, line_cause}
use Rattle.script_spec.specs.Grammar.{Item, items, item_of, is_skipped, spaced_words, text_count, has_text, call_of, first_script_fault, fault_if}
use Rattle.script_laws.specs.Parses.{AreSkipped, call_spelled}

and_both : (x y : Bool) → (x && y) ≡ true → (x ≡ true) × (y ≡ true)
and_both true y e = (refl, e)
and_both false y e = cc

-- lines of text are passed over
pub items_pass : (line n : ℕ) (ls : List TextLine) → items line n ls ≡ items (line + n) 0 (drop n ls)
items_pass line zero ls = ap (λ (k : ℕ). items k 0 ls) (sym (add-zero line))
items_pass line (suc n) [] = refl
items_pass line (suc n) (l ∷ ls) =
    let some : nat_eq (suc n) 0 ≡ false = ne_eqb (suc n) 0 (λ e. omega (arith, e)) in
    let less : suc n - 1 ≡ n = omega arith in
    let more : line + 1 + n ≡ line + suc n = omega arith in
    rw (some, less) (items_pass (line + 1) n ls ∙ ap (λ (k : ℕ). items k 0 (drop n ls)) more)

-- lines that are skipped have no item
pub items_skipped : (line : ℕ) (skipped ls : List TextLine) → AreSkipped skipped → items line 0 (skipped ++ ls) ≡ items (line + length skipped) 0 ls
items_skipped line [] ls are = ap (λ (k : ℕ). items k 0 ls) (sym (add-zero line))
items_skipped line (s ∷ ss) ls are =
    let both = and_both (is_skipped s) _ are in
    let more : line + 1 + length ss ≡ line + length (s ∷ ss) = omega arith in
    rw (both.0) (items_skipped (line + 1) ss ls (both.1) ∙ ap (λ (k : ℕ). items k 0 ls) more)

pub drop_text : (text after : List TextLine) → drop (length text) (text ++ after) ≡ after
drop_text [] after = refl
drop_text (t ∷ ts) after = drop_text ts after

take_text : (text after : List TextLine) → take (length text) (text ++ after) ≡ text
take_text [] after = refl
take_text (t ∷ ts) after = ap (λ (ls : List TextLine). t ∷ ls) (take_text ts after)

-- the items of a line that is not skipped, of its text, and of what follows
pub items_called : (number : ℕ) (line : TextLine) (text after : List TextLine) → is_skipped line ≡ false
    → length text ≡ text_count (spaced_words line)
    → items number 0 (line ∷ text ++ after)
    ≡ item_of number line (text ++ after) ∷ items (number + 1 + length text) 0 after
items_called number line text after called long =
    let passed : items (number + 1) (text_count (spaced_words line)) (text ++ after) ≡ items (number + 1 + length text) 0 after =
    rw (← long) (items_pass (number + 1) (length text) (text ++ after) ∙ ap (λ (ls : List TextLine). items (number + 1 + length text) 0 ls) (drop_text text after)) in
    rw called (ap (λ (is : List Item). item_of number line (text ++ after) ∷ is) passed)

-- the call of such an item
pub call_is : (above : List ScriptLine) (number : ℕ) (line : TextLine) (text after : List TextLine) → length text ≡ text_count (spaced_words line)
    → call_of above (item_of number line (text ++ after)) ≡ call_spelled (tasks_of above) number line text
call_is above number line text after long =
    let bytes : whole_lines (take (text_count (spaced_words line)) (text ++ after)) ≡ whole_lines text =
    rw (← long) (ap whole_lines (take_text text after)) in
    let call = call_spelled (tasks_of above) number line text in
    λ i. record {
      task = call.task;
      seq = call.seq;
      line = call.line;
      words = call.words;
      text = record { at = call.text.at; bytes = bytes i };
    }

-- its text is all there
pub text_is_there : (number : ℕ) (line : TextLine) (text after : List TextLine) → length text ≡ text_count (spaced_words line)
    → has_text (item_of number line (text ++ after)) ≡ true
text_is_there number line text after long = rw (← long) (le-leb (length text) (length (text ++ after)) (omega (arith, length-append text after)))

some_none : (c : Cause) → Some c ≡ None → ⊥
some_none c e = cc

missing : (file count : Bool) (word : Option ℕ) (deep : Bool) (more : List (Option Cause))
    → first_cause (cause_if file Cause.NotBuilt ∷ cause_if count Cause.Words ∷ option_map (λ k. Cause.Word k) word ∷ cause_if deep Cause.NotBuilt ∷ Some Cause.Text ∷ more) ≡ None
    → ⊥
missing true count word deep more e = some_none Cause.NotBuilt e
missing false true word deep more e = some_none Cause.Words e
missing false false (Some k) deep more e = some_none (Cause.Word k) e
missing false false None true more e = some_none Cause.NotBuilt e
missing false false None false more e = some_none Cause.Text e

not_unless : (b : Bool) → (if b then Some Cause.NotBuilt else Some Cause.Verb) ≡ None → ⊥
not_unless true e = some_none Cause.NotBuilt e
not_unless false e = some_none Cause.Verb e

verb_missing : (tasks : Tasks) (task : List ℕ) (name : Placed) (verb : Option Verb) (ws : List Placed) → verb_cause tasks task name verb ws false ≡ None → ⊥
verb_missing tasks task name None ws e = not_unless (is_unbuilt_verb name.bytes) e
verb_missing tasks task name (Some verb) ws e =
    let kinds = kinds_of verb ws in
    missing (has_word is_file_unbuilt kinds ws) _ (bad_word 3 kinds ws) (has_word is_path_unbuilt kinds ws) (task_causes tasks task kinds ws) e

behind_missing : (tasks : Tasks) (task : List ℕ) (ws : List Placed) → behind_task tasks task ws false ≡ None → ⊥
behind_missing tasks task [] e = some_none Cause.Verb e
behind_missing tasks task (v ∷ ws) e = verb_missing tasks task v (verb_of v.bytes) ws e

if_named : (b : Bool) (behind : Option Cause) → (if b then behind else Some (Cause.Word 1)) ≡ None → behind ≡ None
if_named true behind e = e
if_named false behind e = absurd (some_none (Cause.Word 1) e)

-- a line whose text is not all there has a cause
pub text_is_missing : (tasks : Tasks) (ws : List Placed) → line_cause tasks ws false ≡ None → ⊥
text_is_missing tasks [] e = some_none (Cause.Word 1) e
text_is_missing tasks (t ∷ ws) e = behind_missing tasks t.bytes ws (if_named (is_task_name t.bytes) (behind_task tasks t.bytes ws false) e)

-- what an item breaks, over plain answers
abbrev pub breaks : Bool → ℕ → Option Cause → List (Option ScriptFault) → Option ScriptFault
breaks many line cause limits = first_script_fault (fault_if many (ScriptFault.TooLarge What.Lines) ∷ option_map (λ c. ScriptFault.Malformed line c) cause ∷ limits)

pub breaks_nothing : (many : Bool) (line : ℕ) (cause : Option Cause) (limits : List (Option ScriptFault)) → breaks many line cause limits ≡ None
    → (many ≡ false) × (cause ≡ None) × (first_script_fault limits ≡ None)
breaks_nothing true line cause limits e = cc
breaks_nothing false line (Some c) limits e = cc
breaks_nothing false line None limits e = (refl, refl, e)
