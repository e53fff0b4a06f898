use Rattle.std.specs.Prelude.{◌≡◌, Bool, false, List, [], ◌∷◌, None, Result, Ok, Err}
use Rattle.smack_base.specs.Labels.{label_fault}
use Rattle.text_spec.specs.declared.BadLine.{BadLine}
use Rattle.text_spec.specs.Texts.{Placed}
use Rattle.text_spec.specs.RuleTexts.{LineWord, is_dash}
use Rattle.rule_text.specs.declared.part.Part.{Part}
use Rattle.rule_text.specs.Parts.{placed}

-- an answer, its word as a run of bytes
abbrev pub seen_word : Result Part BadLine → Result Placed BadLine
seen_word (Ok p) = Ok (placed p)
seen_word (Err b) = Err b

-- whether a dash is the only word
abbrev pub is_sole_dash : List LineWord → Bool
is_sole_dash [] = false
is_sole_dash (w ∷ []) = is_dash w.word.bytes
is_sole_dash (w ∷ v ∷ ws) = false

-- a label that is given is one
abbrev pub IsGoodLabel : Result Part BadLine → Type 0
IsGoodLabel (Ok p) = label_fault p.bytes.now ≡ None
IsGoodLabel (Err b) = Unit {0}
