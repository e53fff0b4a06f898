use Rattle.std.proofs.Common.{◌≡◌, ◌+◌, ◌-◌, ℕ, Bool, true, false, nat_eq, if◌then◌else◌, List, [], ◌∷◌, ◌++◌, length, take, drop, refl, sym, ap, subst, ◌∙◌, append_assoc, inl, inr, Option, Some, None, Result, Ok, Err}
use Rattle.std.specs.Prelude.{nat_lt}
use Rattle.std.specs.List.{All}
use Rattle.std.proofs.lemmas.Bool.{cases_Bool}
use Rattle.std.proofs.lemmas.Grind.{flat_map-append}
use Rattle.std.proofs.lemmas.List.{take-append-drop}
use Rattle.std.proofs.lemmas.List.Elements.{All-nil, All-cons, All-head, All-tail, All-push, All-drop, All-weaker}
use Rattle.text_spec.specs.Texts.{TextLine, lines_from, whole_line, whole_lines, is_space}
use Rattle.rule_text.specs.Slices.{LiesIn, Adjoin}
use Rattle.rule_text.proofs.LineSlices.{lies_behind, lies_first, lines_adjoin}
use Rattle.rule_text.proofs.WholeLines.{whole_of_lines}
use Rattle.rule_text.proofs.WordSlices.{words_are, lies_through}
use Rattle.script_spec.specs.declared.ScriptFault.{ScriptFault}
use Rattle.script_spec.specs.declared.ScriptFault.TheVariants as ScriptFault
use Rattle.script_spec.specs.declared.What.TheVariants as What
use Rattle.script_spec.specs.Lines.{ScriptLine}
use Rattle.script_spec.specs.Grammar.{Item, items, item_of, is_skipped, spaced_words, text_count, text_bytes, call_of, item_fault, calls_of, unless_script_fault, lines_fault, script_of, most_bytes}
use Rattle.script_laws.specs.Slices.{IsSliced, CallsAreSlices}

-- the words of an item, and its text, are slices of a text that begins at this place
record IsPart (at : ℕ) (whole : List ℕ) (i : Item) : Type 0 where
  words : All (LiesIn at whole) i.words
  text : LiesIn at whole (record { at = i.behind; bytes = text_bytes i })

-- so are those of an item in the back of a text
part_behind : (front rest : List ℕ) (at : ℕ) (i : Item) → IsPart (at + length front) rest i → IsPart at (front ++ rest) i
part_behind front rest at i part = record {
  words =
      All-weaker (LiesIn (at + length front) rest) (LiesIn at (front ++ rest)) (lies_behind front rest at (at + length front) refl) i.words
      part.words;
  text = lies_behind front rest at (at + length front) refl (record { at = i.behind; bytes = text_bytes i }) part.text;
}

-- the first so many lines lie at the front of the text of all
lines_in_front : (n : ℕ) (ls : List TextLine) → whole_lines (take n ls) ++ whole_lines (drop n ls) ≡ whole_lines ls
lines_in_front n ls = sym (flat_map-append whole_line (take n ls) (drop n ls)) ∙ ap whole_lines (take-append-drop n ls)

-- a line lies at the front of its text
line_in_front : (at : ℕ) (l : TextLine) (rest : List ℕ) → l.at ≡ at
    → LiesIn at (whole_line l ++ rest) (record { at = l.at; bytes = l.bytes })
line_in_front at l rest same =
    elim (cases_Bool l.ended) [
      | inl e ↦ simp (e, append_assoc) (lies_first l.bytes (10 ∷ rest) at l.at same)
      | inr e ↦ simp e (lies_first l.bytes rest at l.at same)
    ]

-- the item of the first line
first_part : (at line : ℕ) (l : TextLine) (ls : List TextLine) → l.at ≡ at → IsPart at (whole_line l ++ whole_lines ls) (item_of line l ls)
first_part at line l ls same = record {
  words =
      All-weaker (LiesIn l.at l.bytes) (LiesIn at (whole_line l ++ whole_lines ls))
      (lies_through at (whole_line l ++ whole_lines ls) (record { at = l.at; bytes = l.bytes }) (line_in_front at l (whole_lines ls) same))
      (spaced_words l) (words_are is_space l.at l.bytes);
  text =
      lies_behind (whole_line l) (whole_lines ls) at (at + length (whole_line l)) refl
      (record { at = l.at + length (whole_line l); bytes = text_bytes (item_of line l ls) })
      (subst (λ (rest : List ℕ). LiesIn (at + length (whole_line l)) rest
      (record { at = l.at + length (whole_line l); bytes = text_bytes (item_of line l ls) }))
      (lines_in_front (text_count (spaced_words l)) ls)
      (lies_first (text_bytes (item_of line l ls)) (whole_lines (drop (text_count (spaced_words l)) ls)) (at + length (whole_line l))
      (l.at + length (whole_line l)) (ap (λ (n : ℕ). n + length (whole_line l)) same)));
}

-- each item of lines that adjoin
parts : (at line text : ℕ) (ls : List TextLine) → Adjoin at ls → All (IsPart at (whole_lines ls)) (items line text ls)
parts at line text [] joined = All-nil (IsPart at [])
parts at line text (l ∷ ls) joined =
    let rest : (n : ℕ) → All (IsPart at (whole_line l ++ whole_lines ls)) (items (line + 1) n ls) =
    λ n. All-weaker (IsPart (at + length (whole_line l)) (whole_lines ls)) (IsPart at (whole_line l ++ whole_lines ls))
    (part_behind (whole_line l) (whole_lines ls) at) (items (line + 1) n ls) (parts (at + length (whole_line l)) (line + 1) n ls joined.1) in
    elim (cases_Bool (nat_eq text 0)) [
      | inl e ↦
          elim (cases_Bool (is_skipped l)) [
            | inl d ↦ simp (e, d) (rest 0)
            | inr d ↦
                simp (e, d)
                (All-cons (IsPart at (whole_line l ++ whole_lines ls)) (item_of line l ls) (items (line + 1) (text_count (spaced_words l)) ls)
                (first_part at line l ls joined.0) (rest (text_count (spaced_words l))))
          ]
      | inr e ↦ simp e (rest (text - 1))
    ]

unless_ok : (fault : Option ScriptFault) (more : Result (List ScriptLine) ScriptFault) (lines : List ScriptLine)
    → unless_script_fault fault more ≡ Ok lines → more ≡ Ok lines
unless_ok None more lines is = is
unless_ok (Some fault) more lines is = cc

same_ok : (xs ys : List ScriptLine) → ◌≡◌ {A = Result (List ScriptLine) ScriptFault} (Ok xs) (Ok ys) → xs ≡ ys
same_ok xs ys is = cc

-- the call of an item
call_sliced : (bytes : List ℕ) (above : List ScriptLine) (i : Item) → IsPart 0 bytes i → IsSliced bytes (call_of above i)
call_sliced bytes above i part = record { words = All-drop (LiesIn 0 bytes) 1 i.words part.words; text = part.text }

-- the calls above, and those of items
calls_sliced : (bytes : List ℕ) (behind : Option ScriptFault) (above : List ScriptLine) (is : List Item) (lines : List ScriptLine)
    → calls_of behind above is ≡ Ok lines → All (IsSliced bytes) above → All (IsPart 0 bytes) is → All (IsSliced bytes) lines
calls_sliced bytes behind above [] lines read sliced lie =
    subst (All (IsSliced bytes)) (same_ok above lines (unless_ok behind (Ok above) lines read)) sliced
calls_sliced bytes behind above (i ∷ is) lines read sliced lie =
    calls_sliced bytes behind (above ++ call_of above i ∷ []) is lines
    (unless_ok (item_fault above i) (calls_of behind (above ++ call_of above i ∷ []) is) lines read)
    (All-push (IsSliced bytes) above (call_of above i) sliced (call_sliced bytes above i (All-head (IsPart 0 bytes) i is lie)))
    (All-tail (IsPart 0 bytes) i is lie)

not_too_large : (many : Bool) (script : Result (List ScriptLine) ScriptFault) (lines : List ScriptLine)
    → (if many then Err (ScriptFault.TooLarge What.Bytes) else script) ≡ Ok lines → script ≡ Ok lines
not_too_large true script lines is = cc
not_too_large false script lines is = is

pub calls_are_slices : CallsAreSlices
calls_are_slices bytes lines is =
    let all = lines_from 0 bytes in
    calls_sliced bytes (lines_fault all) [] (items 1 0 all) lines (not_too_large (nat_lt most_bytes (length bytes)) (script_of all) lines is)
    (All-nil (IsSliced bytes))
    (subst (λ (text : List ℕ). All (IsPart 0 text) (items 1 0 all)) (whole_of_lines 0 bytes) (parts 0 1 0 all (lines_adjoin 0 bytes)))
