use Rattle.std.specs.Prelude.{ℕ, ◌+◌, Bool, ◌==◌, if◌then◌else◌, List, [], ◌∷◌, length}
use Rattle.text_spec.specs.Texts.{Placed, TextLine, words_from, is_blank}
use Rattle.text_spec.specs.declared.RuleForm.{RuleForm}
use Rattle.text_spec.specs.declared.RuleForm.TheVariants as RuleForm
use Rattle.rule_text.specs.Slices.{line_part}
use Rattle.rule_text.specs.Parts.{placed}
use Rattle.rule_text.specs.declared.counted.Skipped.{Skipped}
use Rattle.rule_text.specs.declared.counted.Skipped.TheVariants as Skipped
use Rattle.rule_text.specs.declared.counted.CountedLine.{CountedLine}

-- whether a line is skipped
abbrev pub is_skipped_as : Skipped → Placed → Bool
is_skipped_as Skipped.Bare l = length (words_from is_blank l.at l.bytes) == 0
is_skipped_as Skipped.Empty l = length l.bytes == 0

-- the lines of a form that are skipped
abbrev pub skipped_by : RuleForm → Skipped
skipped_by RuleForm.Long = Skipped.Bare
skipped_by RuleForm.Change = Skipped.Bare
skipped_by RuleForm.Short = Skipped.Empty

-- a line and its number
pub record NumberedLine : Type 0 where
  pub number : ℕ
  pub line : Placed

-- the lines that are not skipped, with their numbers, the first of all lines having this one
abbrev pub numbered : Skipped → ℕ → List TextLine → List NumberedLine
numbered skipped n [] = []
numbered skipped n (l ∷ ls) =
    if is_skipped_as skipped (line_part l) then numbered skipped (n + 1) ls
    else (record { number = n; line = line_part l }) ∷ numbered skipped (n + 1) ls

-- a line that was found
abbrev pub numbered_line : CountedLine → NumberedLine
numbered_line c = record { number = c.number; line = placed c.line }
