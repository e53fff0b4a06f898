use Rattle.std.proofs.Common.{◌≡◌, ℕ, ◌+◌, Bool, true, false, not, suc, List, [], ◌∷◌, length, nat_eq, refl, sym, ap, ◌∙◌, arith, inl, inr, Option, Some, None, Result}
use Rattle.std.specs.List.{position_or_len}
use Rattle.std.proofs.lemmas.Bool.{cases_Bool, ne_eqb, eqb-true}
use Rattle.std.proofs.lemmas.Bool.Decides.{nat_tests}
use Rattle.text_spec.specs.declared.BadLine.{BadLine}
use Rattle.text_spec.specs.declared.RuleForm.{RuleForm}
use Rattle.text_spec.specs.declared.RuleForm.TheVariants as RuleForm
use Rattle.text_spec.specs.Texts.{Placed, TextLine, words_from, in_first_word, begins_word}
use Rattle.text_spec.specs.RuleTexts.{RuleWords, line_answer, subject_answer, answers_from, before_more, unless_bare, blank_words, long_line, change_line, short_line, subject_line}
use Rattle.rule_text.specs.declared.counted.Skipped.{Skipped}
use Rattle.rule_text.specs.declared.counted.Skipped.TheVariants as Skipped
use Rattle.rule_text.specs.Slices.{line_part}
use Rattle.rule_text.specs.Counted.{NumberedLine, is_skipped_as, numbered, skipped_by}

both_more : (n m : ℕ) → nat_eq (1 + n) (suc m) ≡ nat_eq n m
both_more n m = grind (arith, nat_tests)

more_is_some : (n m : ℕ) → nat_eq 0 (suc n) ≡ nat_eq (suc m) 0
more_is_some n m = ne_eqb 0 (suc n) (λ e. omega (arith, e)) ∙ sym (ne_eqb (suc m) 0 (λ e. omega (arith, e)))

some_word : (n at b : ℕ) (ws : List Placed) → nat_eq 0 (suc n) ≡ nat_eq (length (in_first_word at b ws)) 0
some_word n at b [] = more_is_some n 0
some_word n at b (w ∷ ws) = more_is_some n (length ws)

-- a line is of blanks alone exactly where it has no word
pub bare_place : (blank : ℕ → Bool) (at : ℕ) (line : List ℕ)
    → nat_eq (position_or_len (λ b. not (blank b)) line) (length line) ≡ nat_eq (length (words_from blank at line)) 0
bare_place blank at [] = refl
bare_place blank at (b ∷ bs) =
    elim (cases_Bool (blank b)) [
      | inl e ↦ simp e (both_more (position_or_len (λ b. not (blank b)) bs) (length bs) ∙ bare_place blank (at + 1) bs)
      | inr e ↦ elim (cases_Bool (begins_word blank bs)) [
        | inl d ↦ simp (e, d) (some_word (length bs) at b (words_from blank (at + 1) bs))
        | inr d ↦ simp (e, d) (more_is_some (length bs) (length (words_from blank (at + 1) bs)))
      ]
    ]

-- a line as it stands without its line feed
abbrev pub plain : Placed → TextLine
plain p = record { at = p.at; bytes = p.bytes; ended = false }

-- the lines that are skipped are those that give no answer; what ends a line does not matter
record IsCounted {A : Type 0} (skipped : Skipped) (answer : ℕ → TextLine → Option (Result A BadLine)) : Type 0 where
  pub skips : (n : ℕ) (l : TextLine) → is_skipped_as skipped (line_part l) ≡ true → answer n l ≡ None
  pub same : (n : ℕ) (l : TextLine) → answer n l ≡ answer n (plain (line_part l))

abbrev judged : {A : Type 0} → (ℕ → TextLine → Option (Result A BadLine)) → List NumberedLine → List (Result A BadLine)
judged answer [] = []
judged answer (c ∷ cs) = before_more (answer c.number (plain c.line)) (judged answer cs)

-- the answers of lines are those of the lines that are not skipped
as_counted : {A : Type 0} (skipped : Skipped) (answer : ℕ → TextLine → Option (Result A BadLine)) → IsCounted skipped answer → (n : ℕ) (ls : List TextLine)
    → answers_from answer n ls ≡ judged answer (numbered skipped n ls)
as_counted skipped answer is n [] = refl
as_counted skipped answer is n (l ∷ ls) =
    elim (cases_Bool (is_skipped_as skipped (line_part l))) [
      | inl e ↦ simp e (ap (λ a. before_more a (answers_from answer (n + 1) ls)) (is.skips n l e) ∙ as_counted skipped answer is (n + 1) ls)
      | inr e ↦ simp e (ap (λ a. before_more a (answers_from answer (n + 1) ls)) (is.same n l) ∙ ap (before_more (answer n (plain (line_part l)))) (as_counted skipped answer is (n + 1) ls))
    ]

bare_none : {A : Type 0} (ws : List Placed) (a : Result A BadLine) → nat_eq (length ws) 0 ≡ true → unless_bare ws a ≡ None
bare_none [] a e = refl
bare_none (w ∷ ws) a e = absurd (omega (arith, eqb-true (suc (length ws)) 0 e))

word_some : {A : Type 0} (ws : List Placed) (a : Result A BadLine) → nat_eq (length ws) 0 ≡ false → Some a ≡ unless_bare ws a
word_some [] a e = cc
word_some (w ∷ ws) a e = refl

rules_counted : (form : RuleForm) → IsCounted (skipped_by form) (line_answer form)
rules_counted RuleForm.Long = record { skips = λ n l e. bare_none (blank_words l) (long_line n (blank_words l)) e; same = λ n l. refl }
rules_counted RuleForm.Change = record { skips = λ n l e. bare_none (blank_words l) (change_line n (blank_words l)) e; same = λ n l. refl }
rules_counted RuleForm.Short = record { skips = λ n l e. simp e refl; same = λ n l. refl }

subjects_counted : IsCounted Skipped.Bare subject_answer
subjects_counted = record { skips = λ n l e. bare_none (blank_words l) (subject_line n (blank_words l)) e; same = λ n l. refl }

-- the answer of a line that is not skipped
pub long_some : (form : RuleForm) → form ≡ RuleForm.Long → (n : ℕ) (l : TextLine) → is_skipped_as (skipped_by form) (line_part l) ≡ false
    → Some (long_line n (blank_words l)) ≡ line_answer form n l
long_some form is n l e = rw is (word_some (blank_words l) (long_line n (blank_words l)) (rw is at e))

pub change_some : (form : RuleForm) → form ≡ RuleForm.Change → (n : ℕ) (l : TextLine) → is_skipped_as (skipped_by form) (line_part l) ≡ false
    → Some (change_line n (blank_words l)) ≡ line_answer form n l
change_some form is n l e = rw is (word_some (blank_words l) (change_line n (blank_words l)) (rw is at e))

pub short_some : (form : RuleForm) → form ≡ RuleForm.Short → (n : ℕ) (l : TextLine) → is_skipped_as (skipped_by form) (line_part l) ≡ false
    → Some (short_line n l) ≡ line_answer form n l
short_some form is n l e = rw is (some (rw is at e))
  where
    some : is_skipped_as Skipped.Empty (line_part l) ≡ false → Some (short_line n l) ≡ line_answer RuleForm.Short n l
    some e = simp e refl

pub subject_some : (n : ℕ) (l : TextLine) → is_skipped_as Skipped.Bare (line_part l) ≡ false → Some (subject_line n (blank_words l)) ≡ subject_answer n l
subject_some n l e = word_some (blank_words l) (subject_line n (blank_words l)) e

first_answer : {A : Type 0} (skipped : Skipped) (answer : ℕ → TextLine → Option (Result A BadLine)) → IsCounted skipped answer
    → (n : ℕ) (ls : List TextLine) (c : NumberedLine) (rest : List TextLine) (a : Result A BadLine)
    → numbered skipped n ls ≡ c ∷ numbered skipped (c.number + 1) rest → Some a ≡ answer c.number (plain c.line)
    → answers_from answer n ls ≡ before_more (Some a) (answers_from answer (c.number + 1) rest)
first_answer skipped answer is n ls c rest a found given =
    as_counted skipped answer is n ls ∙ ap (judged answer) found
    ∙ ap (λ x. before_more x (judged answer (numbered skipped (c.number + 1) rest))) (sym given)
    ∙ ap (before_more (Some a)) (sym (as_counted skipped answer is (c.number + 1) rest))

no_answer : {A : Type 0} (skipped : Skipped) (answer : ℕ → TextLine → Option (Result A BadLine)) → IsCounted skipped answer
    → (n : ℕ) (ls : List TextLine) → numbered skipped n ls ≡ [] → answers_from answer n ls ≡ []
no_answer skipped answer is n ls none = as_counted skipped answer is n ls ∙ ap (judged answer) none

-- the first answer of lines is that of the first line that is not skipped; where all are, there is none
pub first_rule : (form : RuleForm) (n : ℕ) (ls : List TextLine) (c : NumberedLine) (rest : List TextLine) (a : Result RuleWords BadLine)
    → numbered (skipped_by form) n ls ≡ c ∷ numbered (skipped_by form) (c.number + 1) rest → Some a ≡ line_answer form c.number (plain c.line)
    → answers_from (line_answer form) n ls ≡ before_more (Some a) (answers_from (line_answer form) (c.number + 1) rest)
first_rule form = first_answer (skipped_by form) (line_answer form) (rules_counted form)

pub no_rule : (form : RuleForm) (n : ℕ) (ls : List TextLine) → numbered (skipped_by form) n ls ≡ [] → answers_from (line_answer form) n ls ≡ []
no_rule form = no_answer (skipped_by form) (line_answer form) (rules_counted form)

pub first_subject : (n : ℕ) (ls : List TextLine) (c : NumberedLine) (rest : List TextLine) (a : Result Placed BadLine)
    → numbered Skipped.Bare n ls ≡ c ∷ numbered Skipped.Bare (c.number + 1) rest → Some a ≡ subject_answer c.number (plain c.line)
    → answers_from subject_answer n ls ≡ before_more (Some a) (answers_from subject_answer (c.number + 1) rest)
first_subject = first_answer Skipped.Bare subject_answer subjects_counted

pub no_subject : (n : ℕ) (ls : List TextLine) → numbered Skipped.Bare n ls ≡ [] → answers_from subject_answer n ls ≡ []
no_subject = no_answer Skipped.Bare subject_answer subjects_counted
