use Rattle.std.specs.Prelude.{◌≡◌, ℕ, zero, suc, ◌+◌, ◌/◌, ◌%◌, List, [], ◌∷◌, ◌++◌, Result, Ok, Err, length, map, codes}
use Rattle.script_spec.specs.declared.Cause.{Cause}
use Rattle.script_spec.specs.declared.Cause.TheVariants as Cause
use Rattle.script_spec.specs.declared.What.TheVariants as What
use Rattle.script_spec.specs.declared.ScriptFault.{ScriptFault}
use Rattle.script_spec.specs.declared.ScriptFault.TheVariants as ScriptFault
use Rattle.verb_spec.specs.Words.{word_at}
use Rattle.script_spec.specs.Lines.{ScriptLine, word_in, table_of}
use Rattle.script_spec.specs.Tasks.{task_names}
use Rattle.script_spec.specs.Grammar.{parse}

-- a script whose first bad line is this one, for this cause
abbrev pub IsBad : List ℕ → ℕ → Cause → Type 0
IsBad script line cause = parse script ≡ Err (ScriptFault.Malformed line cause)

-- Scripts with a bad line, and why it is bad.
pub record WorkedFaults : Type 0 where
  pub nobody : IsBad (codes "B ask A B r") 1 Cause.Task
  pub exited : IsBad (codes "init fork B\nB exit\ninit take\nB take\n") 4 Cause.Task
  pub awaited : IsBad (codes "init fork B\ninit wait B\nB take\n") 3 Cause.Task
  pub grandchild : IsBad (codes "init fork B\nB fork C\ninit wait B\nC take\n") 4 Cause.Task
  pub forked_twice : IsBad (codes "init fork B\ninit fork B\n") 2 Cause.Name
  pub forks_init : IsBad (codes "init fork init") 1 Cause.Name
  pub kills_nobody : IsBad (codes "init kill B 9") 1 Cause.Name
  pub traces_nobody : IsBad (codes "init trace read B") 1 Cause.Name
  pub elder_child : IsBad (codes "init fork B\ninit fork C\ninit wait B\n") 3 Cause.Wait
  pub child_of_another : IsBad (codes "init fork B\nB fork C\ninit wait C\n") 3 Cause.Wait
  pub awaited_twice : IsBad (codes "init fork B\ninit wait B\ninit wait B\n") 3 Cause.Wait
  pub no_signal : IsBad (codes "init kill init 0") 1 (Cause.Word 4)
  pub signal_32 : IsBad (codes "init kill init 32") 1 (Cause.Word 4)
  pub no_way : IsBad (codes "init trace look init") 1 (Cause.Word 3)
  pub short_text : IsBad (codes "init write load2 2\nA B r\n") 1 Cause.Text
  pub no_verb : IsBad (codes "init frob") 1 Cause.Verb
  pub task_before_name : IsBad (codes "B fork init") 1 Cause.Task
  pub text_before_task : IsBad (codes "B write load2 1") 1 Cause.Text
  pub no_locks : IsBad (codes "init lock 0 shared") 1 Cause.NotBuilt
  pub no_unconfined : IsBad (codes "init write unconfined") 1 Cause.NotBuilt
  pub no_exec : IsBad (codes "init exec /f") 1 Cause.NotBuilt
  pub deep_path : IsBad (codes "init create /a/b") 1 Cause.NotBuilt
  pub zero_byte : IsBad (0 ∷ []) 1 (Cause.Word 1)
  pub tab_in_task : IsBad (codes "init" ++ 9 ∷ codes "ask A B r") 1 (Cause.Word 1)
  pub task_alone : IsBad (codes "init") 1 Cause.Verb
  pub return_behind_task : IsBad (codes "init" ++ 13 ∷ codes "\n") 1 (Cause.Word 1)
  pub too_many_words : IsBad (codes "init ask A B r x") 1 Cause.Words
  pub words_behind_exit : IsBad (codes "init exit x y") 1 Cause.Words
  pub tab_between_words : IsBad (codes "init ask A B" ++ 9 ∷ codes "r") 1 Cause.Words
  pub behind_a_comment : IsBad (codes "init ask A B r\n# c\ninit ask A B z\n") 3 (Cause.Word 5)
  pub return_behind_modes : IsBad (codes "init ask A B r" ++ 13 ∷ codes "\n") 1 (Cause.Word 5)
  pub zero_in_front : IsBad (codes "init write load2 01\nA B r\n") 1 (Cause.Word 4)
  pub number_2_to_32 : IsBad (codes "init write load2 4294967296\n") 1 (Cause.Word 4)
  pub text_ends_early : IsBad (codes "init write load2 2\nA B r") 1 Cause.Text
  pub long_name : IsBad (codes "init fork abcdefghijklmnopq") 1 (Cause.Word 3)
  pub long_file : IsBad (codes "init write abcdefghijklmnopqrstuvwxyz0123456 0") 1 (Cause.Word 3)

-- the calls of a script; none where it is bad
abbrev pub calls_read : Result (List ScriptLine) ScriptFault → List ScriptLine
calls_read (Ok lines) = lines
calls_read (Err fault) = []

abbrev pub calls_in : List ℕ → List ScriptLine
calls_in script = calls_read (parse script)

-- the pid of the task of a call, its number among the calls of the task, and the number of its line
abbrev pub places_of : List ℕ → List (List ℕ)
places_of script = map (λ l. l.task ∷ l.seq ∷ l.line ∷ []) (calls_in script)

-- how many labels each script has, the five predefined ones included
abbrev pub label_counts : List (List ℕ) → List ℕ
label_counts scripts = map (λ script. length (table_of (calls_in script))) scripts

-- a script that forks so many tasks, with names of two digits
abbrev pub forking_script : ℕ → List ℕ
forking_script zero = []
forking_script (suc n) = forking_script n ++ codes "init fork " ++ (48 + (n / 10)) ∷ (48 + (n % 10)) ∷ 10 ∷ []

abbrev pub two_texts : List ℕ
two_texts = codes "# a comment\n\n  init  write load2 2 \nA B rw\n\ninit ask A B r"

abbrev pub three_tasks : List ℕ
three_tasks = codes "init fork B\nB fork C\nC take\nB kill C 9\ninit take"

-- What is read of good scripts.
pub record ReadScripts : Type 0 where
  pub skipped_lines : places_of two_texts ≡ (0 ∷ 1 ∷ 3 ∷ []) ∷ (0 ∷ 2 ∷ 6 ∷ []) ∷ []
  pub second_words : map (λ l. (word_at 2 l.words).at) (calls_in two_texts) ≡ 33 ∷ 55 ∷ []
  pub texts : map (λ l. l.text.bytes) (calls_in two_texts) ≡ codes "A B rw\n\n" ∷ [] ∷ []
  pub third_words : map (word_in 3) (calls_in two_texts) ≡ [] ∷ codes "r" ∷ []
  pub pids : places_of three_tasks ≡ (0 ∷ 1 ∷ 1 ∷ []) ∷ (1 ∷ 1 ∷ 2 ∷ []) ∷ (2 ∷ 1 ∷ 3 ∷ []) ∷ (1 ∷ 2 ∷ 4 ∷ []) ∷ (0 ∷ 2 ∷ 5 ∷ []) ∷ []
  pub names : task_names (calls_in three_tasks) ≡ codes "init" ∷ codes "B" ∷ codes "C" ∷ []
  pub longest_name : task_names (calls_in (codes "init fork abcdefghijklmnop\nabcdefghijklmnop exit")) ≡ codes "init" ∷ codes "abcdefghijklmnop" ∷ []
  pub longest_file : length (calls_in (codes "init write abcdefghijklmnopqrstuvwxyz012345 0")) ≡ 1
  pub most_tasks : length (task_names (calls_in (forking_script 63))) ≡ 64
  pub too_many_tasks : parse (forking_script 64) ≡ Err (ScriptFault.TooLarge What.Tasks)
  pub labels_of_words_and_texts : label_counts (codes "init write load-self2 2\nA B r\nB C r\n" ∷ codes "init write load2 2\nA B r\nB C r\n" ∷ codes "init write revoke-subject 1\nA\ninit relabel A" ∷ codes "init write onlycap 1\nA B A _\n" ∷ codes "init write ambient 1\nA\ninit ask B _ r" ∷ []) ≡ 8 ∷ 8 ∷ 6 ∷ 7 ∷ 7 ∷ []
  pub no_labels_of_bad_texts : label_counts (codes "init write relabel-self 1\nA - B\n" ∷ codes "init write load2 2\nA B r\nB C z\n" ∷ codes "init write load3 1\nA B r\n" ∷ codes "init write onlycap 1\n-\n" ∷ codes "init write ptrace 1\n1\ninit create /A" ∷ []) ≡ 5 ∷ 5 ∷ 5 ∷ 5 ∷ 5 ∷ []
