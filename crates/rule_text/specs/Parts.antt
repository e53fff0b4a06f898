use Rattle.std.specs.Prelude.{ℕ, ◌+◌, ◌^◌, ◌<◌, Bool, false, List, length, nat_lt}
use Rattle.text_spec.specs.Texts.{Placed, TextLine, lines_from, words_from}
use Rattle.rule_text.specs.declared.part.Part.{Part}

-- a part as a run of bytes at its place
abbrev pub placed : Part → Placed
placed p = record { at = p.at; bytes = p.bytes.now }

-- the place behind the last byte of a part
abbrev pub end_of : Part → ℕ
end_of p = p.at + length p.bytes.now

-- each place of a part, its end with them, is a number of 32 bits
abbrev pub FitsPlaces : Part → Type 0
FitsPlaces p = end_of p < 2 ^ 32

-- the lines of a part
abbrev pub lines_of : Part → List TextLine
lines_of p = lines_from p.at p.bytes.now

-- a part of a text as its first line: a line feed ends it, unless it is the whole text
abbrev pub first_text_line : Part → Part → TextLine
first_text_line text line = record {
  at = line.at;
  bytes = line.bytes.now;
  ended = nat_lt (length line.bytes.now) (length text.bytes.now);
}

-- the words of a part
abbrev pub part_words : (ℕ → Bool) → Part → List Placed
part_words blank p = words_from blank p.at p.bytes.now

-- a line without its line feed, as a line of its text
abbrev pub as_line : Part → TextLine
as_line p = record { at = p.at; bytes = p.bytes.now; ended = false }
