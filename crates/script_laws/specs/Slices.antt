use Rattle.std.specs.Prelude.{◌≡◌, ℕ, List, Ok, All}
use Rattle.rule_text.specs.Slices.{LiesIn}
use Rattle.script_spec.specs.Lines.{ScriptLine}
use Rattle.script_spec.specs.Grammar.{parse}

-- Each word of a call, and its text, is the slice of the input at its place.
pub record IsSliced (bytes : List ℕ) (l : ScriptLine) : Type 0 where
  pub words : All (LiesIn 0 bytes) l.words
  pub text : LiesIn 0 bytes l.text

abbrev pub CallsAreSlices : Type 0
CallsAreSlices = (bytes : List ℕ) (lines : List ScriptLine) → parse bytes ≡ Ok lines → All (IsSliced bytes) lines
