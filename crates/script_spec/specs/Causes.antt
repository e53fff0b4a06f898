use Rattle.std.specs.Prelude.{ℕ, Bool, false, not, ◌==◌, if◌then◌else◌, List, [], ◌∷◌, Option, Some, None, length}
use Rattle.std.specs.Option.{option_map}
use Rattle.text_spec.specs.Texts.{Placed}
use Rattle.verb_spec.specs.declared.Verb.{Verb}
use Rattle.verb_spec.specs.declared.WordKind.{WordKind}
use Rattle.verb_spec.specs.declared.WordKind.TheVariants as WordKind
use Rattle.verb_spec.specs.Words.{is_task_name, is_deep, is_one_of, unbuilt_files}
use Rattle.verb_spec.specs.Kinds.{bad_word, has_word}
use Rattle.verb_spec.specs.Verbs.{verb_of, kinds_of, is_unbuilt_verb}
use Rattle.script_spec.specs.declared.Cause.{Cause}
use Rattle.script_spec.specs.declared.Cause.TheVariants as Cause
use Rattle.script_spec.specs.Tasks.{Tasks, is_there, pid_of, is_live_name, is_latest_child}

abbrev pub cause_if : Bool → Cause → Option Cause
cause_if bad cause = if bad then Some cause else None

-- the first cause of some, in their order
abbrev pub first_cause : List (Option Cause) → Option Cause
first_cause [] = None
first_cause (None ∷ more) = first_cause more
first_cause (Some c ∷ more) = Some c

-- whether a word of a kind names a file that is not built
abbrev pub is_file_unbuilt : WordKind → List ℕ → Bool
is_file_unbuilt WordKind.File word = is_one_of unbuilt_files word
is_file_unbuilt kind word = false

-- whether a word of a kind is a path of more than one name, which is not built
abbrev pub is_path_unbuilt : WordKind → List ℕ → Bool
is_path_unbuilt WordKind.Path word = is_deep word
is_path_unbuilt kind word = false

-- whether a word of a kind names a task that it may not name: one that is there already, or one that is not
abbrev pub is_name_bad : Tasks → WordKind → List ℕ → Bool
is_name_bad tasks WordKind.NewTask word = is_there tasks word
is_name_bad tasks WordKind.KnownTask word = not (is_there tasks word)
is_name_bad tasks kind word = false

-- whether a word of a kind names a task that the task of this pid may not wait for
abbrev pub is_wait_bad : Tasks → ℕ → WordKind → List ℕ → Bool
is_wait_bad tasks task WordKind.Child word = not (is_latest_child tasks task word)
is_wait_bad tasks task kind word = false

-- what is wrong with the tasks of a line, behind calls that say this of tasks
abbrev pub task_causes : Tasks → List ℕ → List WordKind → List Placed → List (Option Cause)
task_causes tasks task kinds ws =
    cause_if (not (is_live_name tasks task)) Cause.Task
    ∷ cause_if (has_word (is_name_bad tasks) kinds ws) Cause.Name
    ∷ cause_if (has_word (is_wait_bad tasks (pid_of tasks task)) kinds ws) Cause.Wait ∷ []

-- What is wrong with words that should be of these kinds, with the text, or with the tasks of the line. The first word
-- behind the verb is the third of its line.
abbrev pub words_cause : Tasks → List ℕ → List WordKind → List Placed → Bool → Option Cause
words_cause tasks task kinds ws text =
    first_cause
    (cause_if (has_word is_file_unbuilt kinds ws) Cause.NotBuilt
    ∷ cause_if (not (length ws == length kinds)) Cause.Words
    ∷ option_map (λ k. Cause.Word k) (bad_word 3 kinds ws)
    ∷ cause_if (has_word is_path_unbuilt kinds ws) Cause.NotBuilt
    ∷ cause_if (not text) Cause.Text
    ∷ task_causes tasks task kinds ws)

abbrev pub unless_verb : List ℕ → Option Cause
unless_verb name = if is_unbuilt_verb name then Some Cause.NotBuilt else Some Cause.Verb

abbrev pub verb_cause : Tasks → List ℕ → Placed → Option Verb → List Placed → Bool → Option Cause
verb_cause tasks task name None ws text = unless_verb name.bytes
verb_cause tasks task name (Some verb) ws text = words_cause tasks task (kinds_of verb ws) ws text

abbrev pub behind_task : Tasks → List ℕ → List Placed → Bool → Option Cause
behind_task tasks task [] text = Some Cause.Verb
behind_task tasks task (v ∷ ws) text = verb_cause tasks task v (verb_of v.bytes) ws text

-- what is wrong with a line of these words, whose text is all there or not, behind calls that say this of tasks
abbrev pub line_cause : Tasks → List Placed → Bool → Option Cause
line_cause tasks [] text = Some (Cause.Word 1)
line_cause tasks (t ∷ ws) text =
    if is_task_name t.bytes then behind_task tasks t.bytes ws text else Some (Cause.Word 1)
