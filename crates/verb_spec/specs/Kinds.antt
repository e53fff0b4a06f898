use Rattle.std.specs.Prelude.{ℕ, ◌+◌, Bool, false, ◌||◌, if◌then◌else◌, List, [], ◌∷◌, Option, Some, None, is_ok, is_some}
use Rattle.smack_base.specs.Labels.{is_label}
use Rattle.smack_base.specs.Modes.{is_modes}
use Rattle.smack_base.specs.Paths.{path_of}
use Rattle.text_spec.specs.Texts.{Placed}
use Rattle.verb_spec.specs.declared.WordKind.{WordKind}
use Rattle.verb_spec.specs.Words.{number_of, signal_of, cap_of, trace_way_of, is_task_name, is_file_name}

-- whether a word is of a kind
abbrev pub is_of_kind : WordKind → List ℕ → Bool
is_of_kind WordKind.Label word = is_label word
is_of_kind WordKind.Modes word = is_modes word
is_of_kind WordKind.File word = is_file_name word
is_of_kind WordKind.Lines word = is_some (number_of word)
is_of_kind WordKind.Number word = is_some (number_of word)
is_of_kind WordKind.Path word = is_ok (path_of word)
is_of_kind WordKind.Capability word = is_some (cap_of word)
is_of_kind WordKind.NewTask word = is_task_name word
is_of_kind WordKind.KnownTask word = is_task_name word
is_of_kind WordKind.Child word = is_task_name word
is_of_kind WordKind.Signal word = is_some (signal_of word)
is_of_kind WordKind.TraceWay word = is_some (trace_way_of word)

-- the number of the first word that is not of its kind, where the first of all has the number k
abbrev pub bad_word : ℕ → List WordKind → List Placed → Option ℕ
bad_word k (kind ∷ kinds) (w ∷ ws) = if is_of_kind kind w.bytes then bad_word (k + 1) kinds ws else Some k
bad_word k kinds ws = None

-- whether one of some words passes a test by its kind
abbrev pub has_word : (WordKind → List ℕ → Bool) → List WordKind → List Placed → Bool
has_word test (kind ∷ kinds) (w ∷ ws) = test kind w.bytes || has_word test kinds ws
has_word test kinds ws = false

-- the words that stand for labels
abbrev pub label_words : List WordKind → List Placed → List (List ℕ)
label_words (WordKind.Label ∷ kinds) (w ∷ ws) = w.bytes ∷ label_words kinds ws
label_words (kind ∷ kinds) (w ∷ ws) = label_words kinds ws
label_words kinds ws = []

-- the word that stands for a file, where there is one
abbrev pub file_word : List WordKind → List Placed → Option (List ℕ)
file_word (WordKind.File ∷ kinds) (w ∷ ws) = Some w.bytes
file_word (kind ∷ kinds) (w ∷ ws) = file_word kinds ws
file_word kinds ws = None

-- the word that says how many lines are the text, where there is one
abbrev pub lines_word : List WordKind → List Placed → Option (List ℕ)
lines_word (WordKind.Lines ∷ kinds) (w ∷ ws) = Some w.bytes
lines_word (kind ∷ kinds) (w ∷ ws) = lines_word kinds ws
lines_word kinds ws = None
