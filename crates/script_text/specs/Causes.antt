use Rattle.std.specs.Prelude.{ℕ, Bool, List}
use Rattle.verb_spec.specs.declared.WordKind.{WordKind}
use Rattle.script_spec.specs.Causes.{is_file_unbuilt, is_path_unbuilt, is_name_bad, is_wait_bad}
use Rattle.script_text.specs.declared.causes.WordTest.{WordTest}
use Rattle.script_text.specs.TaskTables.{tasks_seen}

-- what a test says of a word of a kind
abbrev pub test_seen : WordTest → WordKind → List ℕ → Bool
test_seen WordTest.FileUnbuilt = is_file_unbuilt
test_seen WordTest.PathUnbuilt = is_path_unbuilt
test_seen (WordTest.NameBad tasks) = is_name_bad (tasks_seen tasks.now)
test_seen (WordTest.WaitBad tasks task) = is_wait_bad (tasks_seen tasks.now) task
