use Rattle.std.proofs.Common.{◌≡◌, ◌<◌, ℕ, List, [], ◌∷◌, ◌++◌, length, refl, ap, arith, Option, Some, None, Result, Ok, Err}
use Rattle.std.specs.List.{AllByRecursion, flat_map}
use Rattle.text_spec.specs.Texts.{Placed}
use Rattle.text_spec.specs.declared.BadLine.{BadLine}
use Rattle.text_spec.specs.Names.{predefined, IsLabelTable}
use Rattle.label_table.proofs.LabelTables.{with_labels, predefined_is}
use Rattle.file_spec.specs.declared.SmackFile.{SmackFile}
use Rattle.file_spec.specs.Writes.{NamedWrite, NamedSet, NamedChange, NamedRevoke, NamedClear, NamedAdd, NamedAmbient, NamedPtrace, NamedLogging, labels_named, read_as, writes_of_text, names_of_writes, names_of_text}
use Rattle.verb_spec.specs.declared.WordKind.{WordKind}
use Rattle.verb_spec.specs.Kinds.{label_words}
use Rattle.script_spec.specs.Lines.{ScriptLine, words_behind, kinds_in, file_in, labels_of, table_of}
use Rattle.script_spec.specs.Grammar.{parse}
use Rattle.plain_laws.proofs.Lists.{all_append, all_flat_map}
use Rattle.plain_laws.proofs.GoodLines.{AreOfKinds, IsGoodLine, good_behind, good_kinds, AreGoodLines, good_lines}
use Rattle.plain_laws.proofs.GoodWrites.{IsLabel, IsGoodWrite, good_writes}

-- the labels that a good write names are labels
write_labels : (w : NamedWrite) → IsGoodWrite w → AllByRecursion IsLabel (labels_named w)
write_labels (NamedSet s o m) good = (good.0, (good.1, tt))
write_labels (NamedChange s o allow deny) good = (good.0, (good.1, tt))
write_labels (NamedRevoke s) good = (good, tt)
write_labels NamedClear good = tt
write_labels (NamedAdd l) good = (good, tt)
write_labels (NamedAmbient l) good = (good, tt)
write_labels (NamedPtrace n) good = tt
write_labels (NamedLogging n) good = tt

writes_labels : (writes : Result (List NamedWrite) BadLine) → ((ws : List NamedWrite) → writes ≡ Ok ws → AllByRecursion IsGoodWrite ws)
    → AllByRecursion IsLabel (names_of_writes writes)
writes_labels (Ok ws) good = all_flat_map IsGoodWrite IsLabel labels_named write_labels ws (good ws refl)
writes_labels (Err b) good = tt

-- the labels of a text that its file accepts are labels
file_labels : (file : Option SmackFile) (text : List ℕ) → AllByRecursion IsLabel (names_of_text file text)
file_labels None text = tt
file_labels (Some file) text = writes_labels (writes_of_text (read_as file) text) (good_writes (read_as file) text)

-- the words of kinds that stand for labels are labels
kind_labels : (kinds : List WordKind) (ws : List Placed) → AreOfKinds kinds ws → AllByRecursion IsLabel (label_words kinds ws)
kind_labels (WordKind.Label ∷ kinds) (w ∷ ws) are = (are.0, kind_labels kinds ws are.1)
kind_labels (kind ∷ kinds) (w ∷ ws) are = kind_labels kinds ws are.1
kind_labels kinds ws are = tt

-- the labels of a call of a script are labels
line_labels : (above : List ScriptLine) (l : ScriptLine) → IsGoodLine above l → AllByRecursion IsLabel (labels_of l)
line_labels above l good =
    all_append IsLabel (label_words (kinds_in l) (words_behind l)) (names_of_text (file_in l) l.text.bytes)
    (rw (good_kinds above l good, good_behind above l good) (kind_labels _ good.behind good.kinds)) (file_labels (file_in l) l.text.bytes)

lines_labels : (above lines : List ScriptLine) → AreGoodLines above lines → AllByRecursion IsLabel (flat_map labels_of lines)
lines_labels above [] good = tt
lines_labels above (l ∷ ls) good =
    all_append IsLabel (labels_of l) (flat_map labels_of ls) (line_labels above l good.0) (lines_labels (above ++ l ∷ []) ls good.1)

-- the labels of a script are a table of labels
pub labels_are_a_table : (bytes : List ℕ) (lines : List ScriptLine) → parse bytes ≡ Ok lines → IsLabelTable (table_of lines)
labels_are_a_table bytes lines is =
    with_labels predefined (flat_map labels_of lines) predefined_is (lines_labels [] lines (good_lines bytes lines is))

-- a table of labels is not empty
pub table_has_first : (table : List (List ℕ)) → IsLabelTable table → 0 < length table
table_has_first [] is = let short : 0 ≡ 5 = ap (λ (t : List (List ℕ)). length t) is.begins in absurd (omega (arith, short))
table_has_first (l ∷ ls) is = omega arith
