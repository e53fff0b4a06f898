use Rattle.std.specs.Prelude.{ℕ, ◌+◌, ◌≤◌, List, ◌++◌, length, map}
use Rattle.text_spec.specs.Texts.{is_blank}
use Rattle.text_spec.specs.RuleTexts.{LineWord, line_words}
use Rattle.rule_text.specs.declared.text_words.TextWords.{TextWords}
use Rattle.rule_text.specs.declared.text_words.NextWord.{NextWord}
use Rattle.rule_text.specs.Parts.{placed, end_of, lines_of, part_words}

-- the words that are left: of the rest of the line of this number, and of the lines behind it
abbrev pub left_words : TextWords → List LineWord
left_words w =
    map (λ p. record { line = w.line; word = p }) (part_words is_blank w.rest)
    ++ line_words (w.line + 1) (lines_of w.after)

-- a word and the number of its line
abbrev pub line_word : NextWord → LineWord
line_word n = record { line = n.line; word = placed n.word }

-- how many bytes are left
abbrev pub left_bytes : TextWords → ℕ
left_bytes w = length w.rest.bytes.now + length w.after.bytes.now

-- its lines, its places and its bytes are at most 65,536
pub record IsShort (w : TextWords) : Type 0 where
  pub lines : w.line + length w.after.bytes.now ≤ 65536
  pub rest : end_of w.rest ≤ 65536
  pub after : end_of w.after ≤ 65536
  pub bytes : left_bytes w ≤ 65536
