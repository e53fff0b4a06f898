use Rattle.std.specs.Prelude.{ℕ, ◌==◌, if◌then◌else◌, List, [], ◌∷◌, ◌++◌, codes, slice_index_or}
use Rattle.std.specs.List.{flat_map}
use Rattle.smack_base.specs.declared.ids.LabelId.{LabelId}
use Rattle.smack_base.specs.declared.ids.Pid.{Pid}
use Rattle.rules_spec.specs.declared.Verdict.{Verdict}
use Rattle.log_spec.specs.Numerals.{numeral}

-- a word behind a space
abbrev pub word : List ℕ → List ℕ
word text = codes " " ++ text

-- words, each behind a space
abbrev pub words : List (List ℕ) → List ℕ
words texts = flat_map word texts

abbrev pub feed : List ℕ
feed = codes "\n"

-- a line: its first word, which says what it is, its other words, and a line feed
abbrev pub line : List ℕ → List (List ℕ) → List ℕ
line first more = first ++ words more ++ feed

-- the text of a label
abbrev pub name_at : List (List ℕ) → LabelId → List ℕ
name_at labels id = slice_index_or labels id.0 []

-- the name of a pid
abbrev pub task_name : List (List ℕ) → Pid → List ℕ
task_name names pid = slice_index_or names pid.0 []

-- the task and the number of a call, parted by a dot
abbrev pub call_number : ℕ → ℕ → List ℕ
call_number task seq = numeral task ++ codes "." ++ numeral seq

abbrev pub version_word : ℕ → List ℕ
version_word version = codes "v" ++ numeral version

-- the denying case that an answer went over, where there is one
abbrev pub over_words : ℕ → List (List ℕ)
over_words case = if case == 0 then [] else codes "over" ∷ numeral case ∷ []

-- the answer to a question, and the case that decided it
abbrev pub decision : Verdict → List (List ℕ)
decision v = (if v.allowed then codes "allow" else codes "deny") ∷ numeral v.case ∷ over_words v.over
