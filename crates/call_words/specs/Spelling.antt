use Rattle.std.specs.Prelude.{ℕ, List}
use Rattle.log_spec.specs.Words.{words}
use Rattle.log_spec.specs.Shown.{Shown, spelled}
use Rattle.call_words.specs.declared.spelling.Spelling.{Spelling}

-- the bytes of some words, each behind a space
abbrev pub words_by : Spelling → List Shown → List ℕ
words_by by shown = words (spelled by.labels.now by.names.now shown)
