use Rattle.std.specs.Prelude.{◌≡◌, true, None}
use Rattle.smack_base.specs.Labels.{label_fault}
use Rattle.rule_text.specs.declared.words.JudgedWord.{JudgedWord}

-- a word that is said to be a label has no fault
abbrev pub IsWordJudged : JudgedWord → Type 0
IsWordJudged w = w.is_label ≡ true → label_fault w.word.bytes.now ≡ None
