use Rattle.std.specs.Prelude.{ℕ, ◌+◌, Bool, true, false, ◌||◌, not, ◌==◌, if◌then◌else◌, List, [], ◌∷◌, ◌++◌}
use Rattle.std.specs.List.{flat_map}

-- a run of bytes of a text, and the place of its first byte, from 0
pub record Placed : Type 0 where
  pub at : ℕ
  pub bytes : List ℕ

-- a line of a text: the place of its first byte, its bytes, and whether a line feed ends it
pub record TextLine : Type 0 where
  pub at : ℕ
  pub bytes : List ℕ
  pub ended : Bool

abbrev pub is_feed : ℕ → Bool
is_feed b = b == 10

-- the byte at this place goes in front of the first line
abbrev pub in_first_line : ℕ → ℕ → List TextLine → List TextLine
in_first_line at b [] = (record { at = at; bytes = b ∷ []; ended = false }) ∷ []
in_first_line at b (l ∷ ls) = (record { at = at; bytes = b ∷ l.bytes; ended = l.ended }) ∷ ls

-- the lines of a text that begins at this place, each without its line feed; the last may end with the text
abbrev pub lines_from : ℕ → List ℕ → List TextLine
lines_from at [] = []
lines_from at (b ∷ bs) =
    if is_feed b then (record { at = at; bytes = []; ended = true }) ∷ lines_from (at + 1) bs
    else in_first_line at b (lines_from (at + 1) bs)

-- the bytes of a line, with its line feed
abbrev pub whole_line : TextLine → List ℕ
whole_line l = if l.ended then l.bytes ++ 10 ∷ [] else l.bytes

-- the bytes of some lines, with their line feeds
abbrev pub whole_lines : List TextLine → List ℕ
whole_lines ls = flat_map whole_line ls

-- the byte at this place goes in front of the first word
abbrev pub in_first_word : ℕ → ℕ → List Placed → List Placed
in_first_word at b [] = (record { at = at; bytes = b ∷ [] }) ∷ []
in_first_word at b (w ∷ ws) = (record { at = at; bytes = b ∷ w.bytes }) ∷ ws

-- whether a text begins with a byte that is no blank
abbrev pub begins_word : (ℕ → Bool) → List ℕ → Bool
begins_word blank [] = false
begins_word blank (b ∷ bs) = not (blank b)

-- the words of a text that begins at this place: the longest runs of bytes that are no blanks
abbrev pub words_from : (ℕ → Bool) → ℕ → List ℕ → List Placed
words_from blank at [] = []
words_from blank at (b ∷ bs) =
    if blank b then words_from blank (at + 1) bs
    else (if begins_word blank bs then in_first_word at b (words_from blank (at + 1) bs)
    else (record { at = at; bytes = b ∷ [] }) ∷ words_from blank (at + 1) bs)

-- what parts words: a space, and in rule texts also a tab
abbrev pub is_space : ℕ → Bool
is_space b = b == 32

abbrev pub is_blank : ℕ → Bool
is_blank b = (b == 32) || (b == 9)
