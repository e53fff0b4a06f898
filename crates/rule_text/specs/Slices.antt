use Rattle.std.specs.Prelude.{◌≡◌, ℕ, ◌+◌, ◌-◌, ◌≤◌, ⊤, ◌⊎◌, IfSome, IsSomeAnd, List, [], ◌∷◌, length, take, drop, slice_get}
use Rattle.text_spec.specs.Texts.{Placed, TextLine, whole_line}
use Rattle.text_spec.specs.RuleTexts.{RuleWords}

-- a run of bytes is the slice at its place of a text that begins at this place
pub record LiesIn (at : ℕ) (text : List ℕ) (p : Placed) : Type 0 where
  pub from : at ≤ p.at
  pub within : p.at + length p.bytes ≤ at + length text
  pub bytes : take (length p.bytes) (drop (p.at - at) text) ≡ p.bytes

-- a run of bytes lies in one of these lines
abbrev pub LiesInALine : List TextLine → Placed → Type 0
LiesInALine [] p = ⊥
LiesInALine (l ∷ ls) p = LiesIn l.at l.bytes p ⊎ LiesInALine ls p

-- a line without its line feed, as a run of bytes
abbrev pub line_part : TextLine → Placed
line_part l = record { at = l.at; bytes = l.bytes }

-- the first line begins at this place, and each other where the one before it ends
abbrev pub Adjoin : ℕ → List TextLine → Type 0
Adjoin at [] = ⊤
Adjoin at (l ∷ ls) = (l.at ≡ at) × Adjoin (at + length (whole_line l)) ls

-- the first word begins at this place or behind it, and each other behind the one before it
abbrev pub AreApart : ℕ → List Placed → Type 0
AreApart at [] = ⊤
AreApart at (w ∷ ws) = (at ≤ w.at) × AreApart (w.at + length w.bytes) ws

-- a line, so many places further on
abbrev pub moved_line : ℕ → TextLine → TextLine
moved_line n l = record { at = l.at + n; bytes = l.bytes; ended = l.ended }

-- a word, so many places further on
abbrev pub moved_word : ℕ → Placed → Placed
moved_word n w = record { at = w.at + n; bytes = w.bytes }

-- each field of a rule lies in this line
pub record FieldsLieIn (l : TextLine) (r : RuleWords) : Type 0 where
  pub subject : LiesIn l.at l.bytes r.subject
  pub object : LiesIn l.at l.bytes r.object
  pub allow : LiesIn l.at l.bytes r.allow
  pub deny : IfSome r.deny (LiesIn l.at l.bytes)

-- a rule has the number of one of these lines, the first of this number, and each of its fields lies in it
pub record LiesInItsLine (first : ℕ) (ls : List TextLine) (r : RuleWords) : Type 0 where
  pub from : first ≤ r.line
  pub fields : IsSomeAnd (slice_get ls (r.line - first)) (λ l. FieldsLieIn l r)
