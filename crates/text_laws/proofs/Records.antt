use Rattle.std.proofs.Common.{◌≡◌, ℕ, true, List, [], ◌∷◌, ◌++◌, Option, map, codes, slice_index_or, zero, suc, refl, sym, ap, ◌∙◌, subst₂, append_assoc, append-nil, arith}
use Rattle.std.specs.List.{AllByRecursion}
use Rattle.std.proofs.lemmas.List.{append_cancel_left}
use Rattle.rules_spec.specs.declared.Batch.{Batch}
use Rattle.rules_spec.specs.declared.Verdict.{Verdict}
use Rattle.verb_spec.specs.Words.{is_task_name}
use Rattle.world_spec.specs.Replays.{version_of}
use Rattle.log_spec.specs.declared.Action.{Action}
use Rattle.log_spec.specs.Numerals.{numeral}
use Rattle.log_spec.specs.Words.{line, task_name}
use Rattle.log_spec.specs.Shown.{Shown, Plain, NameOf, PrintedLine, spell_line}
use Rattle.log_spec.specs.Audits.{action_of}
use Rattle.record_spec.specs.declared.RunRecord.{RunRecord}
use Rattle.record_spec.specs.Tasks.{run_tasks}
use Rattle.record_spec.specs.declared.NumberedTask.{NumberedTask}
use Rattle.record_spec.specs.Show.{spelled_text, batch_lines, task_lines, first_line, journal_lines, history_lines, question_lines, asked_lines, end_line, show}
use Rattle.record_spec.specs.Entries.{entry_lines}
use Rattle.replay_spec.specs.Plain.{IsNameTable, IsPlainBatch, IsPlainEntry, IsPlainAsked, IsPlain}
use Rattle.replay_spec.specs.Laws.{TextTellsRecord}
use Rattle.text_laws.proofs.Turns.{BeginsNot, turns, first_byte, turns_end, turns_tell, lines_are_turns, words_are_turns}
use Rattle.text_laws.proofs.Clean.{is_clean, AreClean, task_name_clean}
use Rattle.text_laws.proofs.Cut.{cut_line}
use Rattle.text_laws.proofs.Numbers.{numeral_clean}
use Rattle.record_spec.proofs.Joined.{text-append}
use Rattle.text_laws.proofs.Batches.{write_tag, batch_text, batch_told}
use Rattle.text_laws.proofs.Entries.{entry_text, entry_told}
use Rattle.text_laws.proofs.Questions.{asked_text, asked_told}

-- the parts of a text, in their order
parts : (labels names : List (List ℕ)) (first : PrintedLine) (tasks journal history asked : List PrintedLine) (end : PrintedLine)
    → spelled_text labels names (first ∷ tasks ++ journal ++ history ++ asked ++ end ∷ [])
    ≡ spell_line labels names first ++ (spelled_text labels names tasks ++ (spelled_text labels names journal
    ++ (spelled_text labels names history ++ (spelled_text labels names asked ++ spell_line labels names end))))
parts labels names first tasks journal history asked end = simp (append_assoc, text-append, append-nil) refl

-- what a check is logged as in a version of a journal
abbrev log_by : List Batch → ℕ → Verdict → Option Action
log_by journal version = action_of (version_of journal version)

-- the words of a task of a run, shown and spelled, and its line by its words
abbrev words_of_task : NumberedTask → List Shown
words_of_task t = Plain (numeral t.number) ∷ NameOf t.pid ∷ []

abbrev task_words : List (List ℕ) → NumberedTask → List (List ℕ)
task_words names t = numeral t.number ∷ task_name names t.pid ∷ []

abbrev task_text : ℕ → List (List ℕ) → List ℕ
task_text place ws = line (codes "task") ws

-- each name, and that of no task, has no space and no line feed
each_name_clean : (names : List (List ℕ)) → AllByRecursion (λ name. is_task_name name ≡ true) names → (n : ℕ) → is_clean (slice_index_or names n []) ≡ true
each_name_clean [] are n = refl
each_name_clean (x ∷ xs) are zero = task_name_clean x are.0
each_name_clean (x ∷ xs) are (suc n) = each_name_clean xs are.1 n

task_words_clean : (names : List (List ℕ)) → IsNameTable names → (tasks : List NumberedTask) → AllByRecursion AreClean (map (task_words names) tasks)
task_words_clean names table [] = tt
task_words_clean names table (t ∷ ts) =
    ((numeral_clean t.number, (each_name_clean names table.are t.pid.0, tt)), task_words_clean names table ts)

-- the last line of a record
abbrev end_text : RunRecord → List ℕ
end_text r = spell_line r.labels r.names (end_line r)

-- what stands behind each part of a text
abbrev behind_history : RunRecord → List ℕ
behind_history r = turns (asked_text r.labels r.names) 1 r.asked ++ end_text r

abbrev behind_journal : RunRecord → List ℕ
behind_journal r = turns (entry_text r.labels r.names (log_by r.journal)) 1 r.history ++ behind_history r

abbrev behind_tasks : RunRecord → List ℕ
behind_tasks r = turns (batch_text r.labels r.names) 1 r.journal ++ behind_journal r

abbrev behind_first : RunRecord → List ℕ
behind_first r = turns task_text 1 (map (task_words r.names) (run_tasks r.history)) ++ behind_tasks r

-- the first line of every record
abbrev first_text : List ℕ
first_text = spell_line [] [] first_line

-- a text by what stands behind its parts
show_is : (r : RunRecord) → show r ≡ first_text ++ behind_first r
show_is r =
    parts r.labels r.names first_line (task_lines r) (journal_lines r) (history_lines r) (question_lines r) (end_line r)
    ∙ (λ i. first_text ++ (words_are_turns r.labels r.names (codes "task") words_of_task 1 (run_tasks r.history) i
    ++ (lines_are_turns r.labels r.names batch_lines 1 r.journal i
    ++ (lines_are_turns r.labels r.names (λ place e. entry_lines (log_by r.journal e.version) place e) 1 r.history i
    ++ (lines_are_turns r.labels r.names (λ place a. asked_lines a) 1 r.asked i ++ end_text r)))))

-- the bytes with which each task, each batch, each entry and each question begin
abbrev task_tag : ℕ
task_tag = first_byte (codes "task")

abbrev batch_tag : ℕ
batch_tag = first_byte (codes "j")

abbrev entry_tag : ℕ
entry_tag = first_byte (codes "h")

abbrev question_tag : ℕ
question_tag = first_byte (codes "q")

behind_history_begins : (r : RunRecord) (byte : ℕ) → (question_tag ≡ byte → ⊥) → BeginsNot byte (end_text r) → BeginsNot byte (behind_history r)
behind_history_begins r byte question end = turns_end (BeginsNot byte) (asked_text r.labels r.names) (λ n a t. question) 1 r.asked (end_text r) end

-- the text behind the journal begins as an entry, a question or the end does
behind_journal_begins : (r : RunRecord) (byte : ℕ) → (entry_tag ≡ byte → ⊥) → (question_tag ≡ byte → ⊥) → BeginsNot byte (end_text r) → BeginsNot byte (behind_journal r)
behind_journal_begins r byte entry question end =
    turns_end (BeginsNot byte) (entry_text r.labels r.names (log_by r.journal)) (λ n e t. entry) 1 r.history (behind_history r)
    (behind_history_begins r byte question end)

behind_no_task : (r : RunRecord) → BeginsNot task_tag (behind_tasks r)
behind_no_task r =
    turns_end (BeginsNot task_tag) (batch_text r.labels r.names) (λ n b t is. omega (arith, is)) 1 r.journal (behind_journal r)
    (behind_journal_begins r task_tag (omega arith) (omega arith) (omega arith))

behind_no_batch : (r : RunRecord) → BeginsNot batch_tag (behind_journal r)
behind_no_batch r = behind_journal_begins r batch_tag (omega arith) (omega arith) (omega arith)

behind_no_write : (r : RunRecord) → BeginsNot write_tag (behind_journal r)
behind_no_write r = behind_journal_begins r write_tag (omega arith) (omega arith) (omega arith)

behind_no_entry : (r : RunRecord) → BeginsNot entry_tag (behind_history r)
behind_no_entry r = behind_history_begins r entry_tag (omega arith) (omega arith)

-- a record with the labels and names of another
abbrev beside : RunRecord → RunRecord → RunRecord
beside r s = record s { labels = r.labels; names = r.names }

module _ (r s : RunRecord) (plain : IsPlain r) (plain' : IsPlain (beside r s)) where
  -- the lines of tasks end where another line begins
  tasks_told : behind_first r ≡ behind_first (beside r s) → behind_tasks r ≡ behind_tasks (beside r s)
  tasks_told same =
      (turns_tell AreClean (λ t. Unit {0}) task_text task_tag (λ n ws t. refl) (λ n ws t. tt)
      (λ n x y t u clean clean' ends ends' same. cut_line (codes "task") x y t u refl clean clean' same)
      1 (map (task_words r.names) (run_tasks r.history)) (map (task_words r.names) (run_tasks s.history)) (behind_tasks r) (behind_tasks (beside r s))
      (task_words_clean r.names plain.names (run_tasks r.history)) (task_words_clean r.names plain.names (run_tasks s.history)) tt tt
      (behind_no_task r) (behind_no_task (beside r s)) same).1

  journals_told : behind_tasks r ≡ behind_tasks (beside r s) → (r.journal ≡ s.journal) × (behind_journal r ≡ behind_journal (beside r s))
  journals_told same =
      turns_tell (IsPlainBatch r.labels) (BeginsNot write_tag) (batch_text r.labels r.names) batch_tag (λ n b t. refl) (λ n b t is. omega (arith, is)) (batch_told r.labels r.names plain.labels)
      1 r.journal s.journal (behind_journal r) (behind_journal (beside r s)) plain.journal plain'.journal
      (behind_no_write r) (behind_no_write (beside r s)) (behind_no_batch r) (behind_no_batch (beside r s)) same

  histories_told : turns (entry_text r.labels r.names (log_by r.journal)) 1 r.history ++ behind_history r ≡ turns (entry_text r.labels r.names (log_by r.journal)) 1 s.history ++ behind_history (beside r s)
      → (r.history ≡ s.history) × (behind_history r ≡ behind_history (beside r s))
  histories_told same =
      turns_tell (IsPlainEntry r.labels r.names) (λ t. Unit {0}) (entry_text r.labels r.names (log_by r.journal)) entry_tag (λ n e t. refl) (λ n e t. tt)
      (entry_told r.labels r.names plain.labels plain.names (log_by r.journal))
      1 r.history s.history (behind_history r) (behind_history (beside r s)) plain.history plain'.history
      tt tt (behind_no_entry r) (behind_no_entry (beside r s)) same

  questions_told : behind_history r ≡ behind_history (beside r s) → r.asked ≡ s.asked
  questions_told same =
      (turns_tell (IsPlainAsked r.labels r.names) (λ t. Unit {0}) (asked_text r.labels r.names) question_tag (λ n a t. refl) (λ n a t. tt)
      (asked_told r.labels r.names plain.labels plain.names)
      1 r.asked s.asked (end_text r) (end_text (beside r s)) plain.asked plain'.asked
      tt tt (omega arith) (omega arith) same).0

  beside_told : show r ≡ show (beside r s) → r ≡ beside r s
  beside_told same =
      let tasks = tasks_told (append_cancel_left first_text (behind_first r) (behind_first (beside r s)) (sym (show_is r) ∙ same ∙ show_is (beside r s))) in
      let journals = journals_told tasks in
      let histories = histories_told (journals.1
      ∙ ap (λ (j : List Batch). turns (entry_text r.labels r.names (log_by j)) 1 s.history ++ behind_history (beside r s)) (sym journals.0)) in
      let questions = questions_told histories.1 in
      λ i. record { labels = r.labels; names = r.names; journal = journals.0 i; history = histories.0 i; asked = questions i }

-- the law, for a second record that has these labels and names in place of its own
abbrev IsToldWith : RunRecord → RunRecord → List (List ℕ) → List (List ℕ) → Type 0
IsToldWith r s labels names = let other = record s { labels = labels; names = names } in IsPlain other → show r ≡ show other → r ≡ other

-- equal texts of plain records with the same labels and names are of one record
pub text_tells_record : TextTellsRecord
text_tells_record r s plain plain' labels names same =
    let with_these : IsToldWith r s r.labels r.names = λ plain' same. beside_told r s plain plain' same in
    let with_own : IsToldWith r s s.labels s.names = subst₂ (IsToldWith r s) labels names with_these in
    with_own plain' same
