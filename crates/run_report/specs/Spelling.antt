use Rattle.std.specs.Prelude.{ℕ, List, []}
use Rattle.log_spec.specs.Shown.{PrintedLine, spell_line, spell_lines}
use Rattle.call_words.specs.declared.spelling.Spelling.{Spelling}

-- the bytes of a line
abbrev pub line_by : Spelling → PrintedLine → List ℕ
line_by by line = spell_line by.labels.now by.names.now line

-- the bytes of a line that shows no label and no name
abbrev pub plain_line : PrintedLine → List ℕ
plain_line line = spell_line [] [] line

-- the bytes of some lines
abbrev pub lines_spelled_by : Spelling → List PrintedLine → List (List ℕ)
lines_spelled_by by lines = spell_lines by.labels.now by.names.now lines
