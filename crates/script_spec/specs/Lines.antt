use Rattle.std.specs.Prelude.{ℕ, List, ◌++◌, Option, Some, None, drop}
use Rattle.std.specs.List.{flat_map, sum_by}
use Rattle.text_spec.specs.Texts.{Placed}
use Rattle.text_spec.specs.Names.{predefined, with_names}
use Rattle.file_spec.specs.declared.SmackFile.{SmackFile}
use Rattle.file_spec.specs.Writes.{file_of, names_of_text, rows_of_text}
use Rattle.verb_spec.specs.declared.Verb.{Verb}
use Rattle.verb_spec.specs.declared.WordKind.{WordKind}
use Rattle.verb_spec.specs.Words.{word_at}
use Rattle.verb_spec.specs.Kinds.{label_words, file_word}
use Rattle.verb_spec.specs.Verbs.{verb_of, kinds_by}

-- A call of a script: the pid of its task, its number among the calls of the task, from 1, the number of its line, from
-- 1, its words behind the task, the verb first, and its text, which is empty where it has none.
pub record ScriptLine : Type 0 where
  pub task : ℕ
  pub seq : ℕ
  pub line : ℕ
  pub words : List Placed
  pub text : Placed

-- the bytes of the k-th word behind the verb, from 1; the verb itself is the 0-th
abbrev pub word_in : ℕ → ScriptLine → List ℕ
word_in k l = (word_at k l.words).bytes

abbrev pub verb_in : ScriptLine → Option Verb
verb_in l = verb_of (word_in 0 l)

-- the words behind the verb
abbrev pub words_behind : ScriptLine → List Placed
words_behind l = drop 1 l.words

-- the kinds of the words behind the verb
abbrev pub kinds_in : ScriptLine → List WordKind
kinds_in l = kinds_by (verb_in l) (words_behind l)

abbrev pub file_named : Option (List ℕ) → Option SmackFile
file_named None = None
file_named (Some name) = file_of name

-- the file that a call writes its text to, where it is one
abbrev pub file_in : ScriptLine → Option SmackFile
file_in l = file_named (file_word (kinds_in l) (words_behind l))

-- the labels of a call, in order; those of its text only where its file accepts it whole
abbrev pub labels_of : ScriptLine → List (List ℕ)
labels_of l = label_words (kinds_in l) (words_behind l) ++ names_of_text (file_in l) l.text.bytes

-- the label table of some calls: the predefined labels, and then their own in order, each once
abbrev pub table_of : List ScriptLine → List (List ℕ)
table_of lines = with_names predefined (flat_map labels_of lines)

-- the rows of a journal that a call takes
abbrev pub line_rows : ScriptLine → ℕ
line_rows l = rows_of_text (file_in l) l.text.bytes

-- the rows that some calls take
abbrev pub rows_in : List ScriptLine → ℕ
rows_in lines = sum_by line_rows lines
