use Rattle.std.specs.Prelude.{◌≡◌, ◌≤◌, ◌<◌, ◌⊎◌, ℕ, ◌+◌, true, false, List, [], ◌∷◌, ◌++◌, Option, Some, None, Result, Ok, Err, length, drop}
use Rattle.std.specs.List.{list_all}
use Rattle.text_spec.specs.Texts.{TextLine, lines_from, whole_line, whole_lines}
use Rattle.script_spec.specs.declared.What.TheVariants as What
use Rattle.script_spec.specs.declared.ScriptFault.{ScriptFault}
use Rattle.script_spec.specs.declared.ScriptFault.TheVariants as ScriptFault
use Rattle.verb_spec.specs.Words.{word_at}
use Rattle.script_spec.specs.Lines.{ScriptLine}
use Rattle.script_spec.specs.Tasks.{Tasks, tasks_of, pid_of}
use Rattle.script_spec.specs.Causes.{line_cause}
use Rattle.script_spec.specs.Grammar.{is_skipped, spaced_words, text_count, item_of, item_fault, first_script_fault, limit_faults, lines_fault, most_bytes, most_lines}

-- all of these lines are skipped
abbrev pub AreSkipped : List TextLine → Type 0
AreSkipped lines = list_all is_skipped lines ≡ true

-- the call that a line of this number and the lines of its text spell, behind calls that say this of tasks
abbrev pub call_spelled : Tasks → ℕ → TextLine → List TextLine → ScriptLine
call_spelled tasks number line text = let task = pid_of tasks (word_at 0 (spaced_words line)).bytes in record {
  task = task;
  seq = tasks.calls task + 1;
  line = number;
  words = drop 1 (spaced_words line);
  text = record { at = line.at + length (whole_line line); bytes = whole_lines text };
}

-- A line and the lines of its text spell a call, behind the calls above it: it is not skipped, it is followed by as many
-- lines of text as it says, and neither its words nor any limit forbid it.
pub record Spells (above : List ScriptLine) (number : ℕ) (line : TextLine) (text : List TextLine) (call : ScriptLine) : Type 0 where
  pub called : is_skipped line ≡ false
  pub followed : length text ≡ text_count (spaced_words line)
  pub is : call ≡ call_spelled (tasks_of above) number line text
  pub allowed : line_cause (tasks_of above) (spaced_words line) true ≡ None
  pub within : number ≤ most_lines
  pub limits : first_script_fault (limit_faults (above ++ call ∷ []) call) ≡ None

-- some lines that are skipped, then a line, the lines of its text, and those behind them
pub record LineCut : Type 0 where
  pub skipped : List TextLine
  pub line : TextLine
  pub text : List TextLine
  pub after : List TextLine

abbrev pub lines_cut : LineCut → List TextLine
lines_cut c = c.skipped ++ (c.line ∷ c.text ++ c.after)

-- Lines from a number on begin with the lines of these calls, behind the calls above them: each line that spells a call
-- stands behind lines that are skipped, and before its text. What is left are these lines, from this number on.
abbrev pub BeginsWith : List ScriptLine → ℕ → List TextLine → List ScriptLine → ℕ → List TextLine → Type 0
BeginsWith above number lines [] number' rest = (number ≡ number') × (lines ≡ rest)
BeginsWith above number lines (c ∷ cs) number' rest =
    (cut : LineCut)
    × (lines ≡ lines_cut cut)
    × AreSkipped cut.skipped
    × Spells above (number + length cut.skipped) cut.line cut.text c
    × BeginsWith (above ++ c ∷ []) (number + length cut.skipped + 1 + length cut.text) cut.after cs number' rest

-- the next line that is not skipped has this fault, behind the calls above it
abbrev pub NextBreaks : List ScriptLine → ℕ → List TextLine → ScriptFault → Type 0
NextBreaks above number rest fault =
    (skipped : List TextLine)
    × (line : TextLine)
    × (after : List TextLine)
    × (rest ≡ skipped ++ line ∷ after)
    × AreSkipped skipped
    × (is_skipped line ≡ false)
    × (item_fault above (item_of (number + length skipped) line after) ≡ Some fault)

-- How the lines that are left behind these calls end them: all are skipped, and nothing is wrong with the whole; or
-- the next line, or else the whole, has this fault.
abbrev pub EndsAs : Option ScriptFault → List ScriptLine → ℕ → List TextLine → Result (List ScriptLine) ScriptFault → Type 0
EndsAs whole calls number rest (Ok read) = (read ≡ calls) × AreSkipped rest × (whole ≡ None)
EndsAs whole calls number rest (Err fault) = NextBreaks calls number rest fault ⊎ (AreSkipped rest × (whole ≡ Some fault))

-- lines begin with those of some calls, and end as what is left behind these does
abbrev pub ReadsAs : Option ScriptFault → List ScriptLine → ℕ → List TextLine → Result (List ScriptLine) ScriptFault → Type 0
ReadsAs whole above number lines read =
    (calls : List ScriptLine)
    × (number' : ℕ)
    × (rest : List TextLine)
    × BeginsWith above number lines calls number' rest
    × EndsAs whole (above ++ calls) number' rest read

-- The grammar of scripts: these bytes are too many, or their lines are those of a script, or have this first fault.
abbrev pub Parses : List ℕ → Result (List ScriptLine) ScriptFault → Type 0
Parses bytes read =
    ((most_bytes < length bytes) × (read ≡ Err (ScriptFault.TooLarge What.Bytes)))
    ⊎ ((length bytes ≤ most_bytes) × ReadsAs (lines_fault (lines_from 0 bytes)) [] 1 (lines_from 0 bytes) read)
