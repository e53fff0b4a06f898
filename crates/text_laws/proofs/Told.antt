use Rattle.std.proofs.Common.{◌≡◌, ℕ, Bool, true, length, List, [], Option, Some, slice_index_or, refl, sym, ap, ◌∙◌}
use Rattle.std.specs.Str.{bytes_eq}
use Rattle.std.proofs.lemmas.Bool.{lt-ltb}
use Rattle.std.proofs.lemmas.List.Elements.{All-from_recursion}
use Rattle.smack_base.specs.declared.ids.LabelId.{LabelId}
use Rattle.smack_base.specs.declared.ids.Pid.{Pid}
use Rattle.smack_base.specs.Labels.{is_label}
use Rattle.text_spec.specs.Names.{IsLabelTable, place_of, id_of}
use Rattle.verb_spec.specs.Words.{is_task_name}
use Rattle.log_spec.specs.Words.{name_at, task_name}
use Rattle.verb_spec.specs.Values.{pid_in}
use Rattle.replay_spec.specs.Plain.{IsNameTable, HasId, HasPid}
use Rattle.text_laws.proofs.Clean.{is_clean, label_clean, task_name_clean}

-- what is read back from equal texts is equal
pub told : {W X : Type 0} (read : W → X) (shown : X → W) (x y : X) → read (shown x) ≡ x → read (shown y) ≡ y → shown x ≡ shown y → x ≡ y
told read shown x y read_x read_y same = sym read_x ∙ ap read same ∙ read_y

same_some : {X : Type 0} (x y : X) → ◌≡◌ {A = Option X} (Some x) (Some y) → x ≡ y
same_some x y same = cc

-- the same, where not each text is read
pub told_where_read : {W X : Type 0} (read : W → Option X) (shown : X → W) (x y : X) → read (shown x) ≡ Some x → read (shown y) ≡ Some y
    → shown x ≡ shown y → x ≡ y
told_where_read read shown x y read_x read_y same = same_some x y (sym read_x ∙ ap read same ∙ read_y)

-- the word at a place, from 0
abbrev pub word_at : ℕ → List (List ℕ) → List ℕ
word_at n ws = slice_index_or ws n []

-- the first of some words is this one
abbrev pub begins_with : List ℕ → List (List ℕ) → Bool
begins_with text ws = bytes_eq text (word_at 0 ws)

-- the label that a word is
abbrev pub label_in : List (List ℕ) → List ℕ → LabelId
label_in labels text = record { 0 = place_of labels text }

-- the pid that a word names
abbrev pub task_in : List (List ℕ) → List ℕ → Pid
task_in names text = record { 0 = place_of names text }

-- a printed label is read back
pub label_read : (labels : List (List ℕ)) → IsLabelTable labels → (l : LabelId) → HasId labels l → label_in labels (name_at labels l) ≡ l
label_read labels table l has = λ i. record { 0 = table.once l.0 has i }

pub label_again : (labels : List (List ℕ)) → IsLabelTable labels → (l : LabelId) → HasId labels l → id_of labels (name_at labels l) ≡ Some l
label_again labels table l has = rw (table.once l.0 has, lt-ltb l.0 (length labels) has) refl

-- and so is the name of a task
pub task_read : (names : List (List ℕ)) → IsNameTable names → (pid : Pid) → HasPid names pid → task_in names (task_name names pid) ≡ pid
task_read names table pid has = λ i. record { 0 = table.once pid.0 has i }

pub task_again : (names : List (List ℕ)) → IsNameTable names → (pid : Pid) → HasPid names pid → pid_in names (task_name names pid) ≡ Some pid
task_again names table pid has = rw (table.once pid.0 has, lt-ltb pid.0 (length names) has) refl

-- the text of a label of the table is a label
pub name_is_label : (labels : List (List ℕ)) → IsLabelTable labels → (l : LabelId) → HasId labels l → is_label (name_at labels l) ≡ true
name_is_label labels table l has = All-from_recursion (λ label. is_label label ≡ true) labels table.are l.0 [] has

pub name_clean : (labels : List (List ℕ)) → IsLabelTable labels → (l : LabelId) → HasId labels l → is_clean (name_at labels l) ≡ true
name_clean labels table l has = label_clean (name_at labels l) (name_is_label labels table l has)

pub named_clean : (names : List (List ℕ)) → IsNameTable names → (pid : Pid) → HasPid names pid → is_clean (task_name names pid) ≡ true
named_clean names table pid has =
    task_name_clean (task_name names pid) (All-from_recursion (λ name. is_task_name name ≡ true) names table.are pid.0 [] has)
