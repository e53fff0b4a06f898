use Rattle.std.proofs.Common.{◌≡◌, true, List, [], ◌∷◌, ◌++◌, subst}
use Rattle.std.specs.List.{AllByRecursion}
use Rattle.text_spec.specs.Texts.{Placed}
use Rattle.verb_spec.specs.declared.Verb.{Verb}
use Rattle.verb_spec.specs.Words.{word_at, is_file_name}
use Rattle.verb_spec.specs.Verbs.{kinds_of}
use Rattle.script_spec.specs.Lines.{ScriptLine, table_of}
use Rattle.script_spec.specs.Tasks.{task_names}
use Rattle.replay_spec.specs.Laws.{ReplayedIsPlain}
use Rattle.plain_laws.proofs.GoodLines.{AreOfKinds, IsGoodLine, good_verb_is, AreGoodLines, good_lines}
use Rattle.plain_laws.proofs.LabelTables.{labels_are_a_table, table_has_first}
use Rattle.plain_laws.proofs.Tasks.{names_are_a_table}
use Rattle.plain_laws.proofs.PlainRuns.{HasFileName, run_is_plain}

-- the first word behind the verb of a write names a file
write_named : (behind : List Placed) → AreOfKinds (kinds_of Verb.Write behind) behind → is_file_name (word_at 0 behind).bytes ≡ true
write_named [] kinds = absurd kinds
write_named (w ∷ ws) kinds = kinds.0

pub line_named : (above : List ScriptLine) (l : ScriptLine) → IsGoodLine above l → HasFileName l
line_named above l good is =
    rw good.words
    (write_named good.behind
    (subst (λ verb. AreOfKinds (kinds_of verb good.behind) good.behind) (good_verb_is above l good Verb.Write is) good.kinds))

lines_named : (above lines : List ScriptLine) → AreGoodLines above lines → AllByRecursion HasFileName lines
lines_named above [] good = tt
lines_named above (l ∷ ls) good = (line_named above l good.0, lines_named (above ++ l ∷ []) ls good.1)

-- the record of a script that is replayed is plain
pub replayed_is_plain : ReplayedIsPlain
replayed_is_plain bytes lines is =
    let labels = labels_are_a_table bytes lines is in
    let plain = run_is_plain (table_of lines) (task_names lines) (table_has_first (table_of lines) labels) lines (lines_named [] lines (good_lines bytes lines is)) in
    record {
      labels = labels;
      names = names_are_a_table bytes lines is;
      journal = plain.journal;
      history = plain.history;
      asked = plain.asked;
    }
