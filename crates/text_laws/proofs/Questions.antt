use Rattle.std.proofs.Common.{◌≡◌, ℕ, ◌&&◌, nat_le, length, drop, codes, if◌then◌else◌, List, [], ◌++◌, refl, sym, ap, ap₂, ◌∙◌, append_assoc, append-nil}
use Rattle.std.specs.List.{list_all}
use Rattle.std.proofs.lemmas.Bool.{and_parts}
use Rattle.smack_base.specs.Paths.{is_name_byte}
use Rattle.record_spec.specs.declared.AskedLine.{AskedLine}
use Rattle.record_spec.specs.declared.AskedWhat.{AskedWhat}
use Rattle.log_spec.specs.Words.{line, decision}
use Rattle.log_spec.specs.Shown.{plain_words, spelled}
use Rattle.log_spec.proofs.Spelling.{plain_spelled}
use Rattle.record_spec.specs.Show.{spelled_text, asked_head, what_words, answer_words, asked_lines}
use Rattle.record_spec.specs.Refusals.{refusal_words}
use Rattle.text_spec.specs.Names.{IsLabelTable}
use Rattle.replay_spec.specs.Plain.{IsNameTable, IsPlainWhat, IsPlainAsked}
use Rattle.text_laws.proofs.Clean.{AreClean, plain_clean, name_bytes_clean}
use Rattle.text_laws.proofs.Cut.{cut_line}
use Rattle.text_laws.proofs.Turns.{Tells}
use Rattle.text_laws.proofs.Numbers.{call_number_clean, version_clean, call_number_told, version_told}
use Rattle.text_laws.proofs.Told.{word_at, begins_with, task_in, task_read, named_clean}
use Rattle.text_laws.proofs.Verdicts.{verdict_in, verdict_read, triple_clean, decision_clean}
use Rattle.text_laws.proofs.Faults.{refusal_in, refusal_read, refusal_clean}

-- what was asked, by the words of the question and those of its answer
abbrev what_in : List (List ℕ) → List (List ℕ) → List (List ℕ) → List (List ℕ) → AskedWhat
what_in labels names ws answer =
    if begins_with (codes "ask") ws then AskedWhat.Ask (verdict_in labels (drop 1 ws ++ answer))
    else (if begins_with (codes "write") ws then AskedWhat.Refused (word_at 1 ws) (refusal_in answer)
    else AskedWhat.Wait (task_in names (word_at 1 ws)))

abbrev question_words : List (List ℕ) → List (List ℕ) → AskedLine → List (List ℕ)
question_words labels names a = spelled labels names (asked_head a ++ what_words a.what)

abbrev words_of_answer : List (List ℕ) → List (List ℕ) → AskedWhat → List (List ℕ)
words_of_answer labels names what = spelled labels names (plain_words (answer_words what))

abbrev answer_line : List (List ℕ) → List (List ℕ) → AskedLine → List ℕ
answer_line labels names a = line (codes "=") (words_of_answer labels names a.what)

abbrev pub asked_text : List (List ℕ) → List (List ℕ) → ℕ → AskedLine → List ℕ
asked_text labels names place a = spelled_text labels names (asked_lines a)

-- a question and its answer are a line each
asked_is : (labels names : List (List ℕ)) (place : ℕ) (a : AskedLine) (rest : List ℕ)
    → asked_text labels names place a ++ rest ≡ line (codes "q") (question_words labels names a) ++ (answer_line labels names a ++ rest)
asked_is labels names place a rest =
    append_assoc (line (codes "q") (question_words labels names a)) (answer_line labels names a ++ []) rest
    ∙ ap (λ t. line (codes "q") (question_words labels names a) ++ (t ++ rest)) (append-nil (answer_line labels names a))

module _ (labels names : List (List ℕ)) (table : IsLabelTable labels) (tasks : IsNameTable names) where
  -- what was asked is read back from the words of both lines, which have no space and no line feed
  what_read : (what : AskedWhat) → IsPlainWhat labels names what
      → what_in labels names (spelled labels names (what_words what)) (words_of_answer labels names what) ≡ what
  what_read (AskedWhat.Ask v) plain = λ i. AskedWhat.Ask (verdict_read labels names table v plain.verdict i)
  what_read (AskedWhat.Refused file fault) plain =
      ap (λ ws. AskedWhat.Refused file (refusal_in ws)) (plain_spelled labels names (refusal_words fault))
      ∙ (λ i. AskedWhat.Refused file (refusal_read fault i))
  what_read (AskedWhat.Wait pid) plain = λ i. AskedWhat.Wait (task_read names tasks pid plain i)

  what_clean : (what : AskedWhat) → IsPlainWhat labels names what → AreClean (spelled labels names (what_words what))
  what_clean (AskedWhat.Ask v) plain = (refl, triple_clean labels names table v plain.verdict)
  what_clean (AskedWhat.Refused file fault) plain =
      (refl, (name_bytes_clean file (and_parts (nat_le 1 (length file) && nat_le (length file) 32) (list_all is_name_byte file) plain).1, tt))
  what_clean (AskedWhat.Wait pid) plain = (refl, (named_clean names tasks pid plain, tt))

  answer_clean : (what : AskedWhat) → AreClean (words_of_answer labels names what)
  answer_clean (AskedWhat.Ask v) = plain_clean labels names (decision v) (decision_clean v)
  answer_clean (AskedWhat.Refused file fault) = plain_clean labels names (refusal_words fault) (refusal_clean fault)
  answer_clean (AskedWhat.Wait pid) = (refl, tt)

  question_clean : (a : AskedLine) → IsPlainAsked labels names a → AreClean (question_words labels names a)
  question_clean a plain = (call_number_clean a.task a.seq, (version_clean a.version, what_clean a.what plain))

  -- a printed question tells it
  pub asked_told : (place : ℕ) → Tells (IsPlainAsked labels names) (λ t. Unit {0}) (asked_text labels names place)
  asked_told place x y r s plain plain' ends ends' same =
      let question = cut_line (codes "q") (question_words labels names x) (question_words labels names y) (answer_line labels names x ++ r) (answer_line labels names y ++ s) refl
      (question_clean x plain) (question_clean y plain') (sym (asked_is labels names place x r) ∙ same ∙ asked_is labels names place y s) in
      let answer = cut_line (codes "=") (words_of_answer labels names x.what) (words_of_answer labels names y.what) r s refl (answer_clean x.what) (answer_clean y.what) question.1 in
      let number = call_number_told x.task y.task x.seq y.seq (ap (word_at 0) question.0) in
      let version = version_told x.version y.version (ap (word_at 1) question.0) in
      let what = sym (what_read x.what plain) ∙ ap₂ (what_in labels names) (ap (drop 2) question.0) answer.0 ∙ what_read y.what plain' in
      ((λ i. record { task = number.0 i; seq = number.1 i; version = version i; what = what i }), answer.1)
