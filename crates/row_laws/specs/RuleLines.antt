use Rattle.std.specs.Prelude.{◌≡◌, ℕ, List, [], ◌∷◌, ◌++◌, Some, None, Result, Ok, Err, map, replicate, codes}
use Rattle.smack_base.specs.declared.label.LabelFault.TheVariants as LabelFault
use Rattle.text_spec.specs.declared.RuleForm.TheVariants as RuleForm
use Rattle.text_spec.specs.declared.LineFault.{LineFault}
use Rattle.text_spec.specs.declared.LineFault.TheVariants as LineFault
use Rattle.text_spec.specs.declared.BadLine.{BadLine}
use Rattle.text_spec.specs.Texts.{Placed, lines_from, words_from, is_space, is_blank}
use Rattle.text_spec.specs.RuleTexts.{RuleWords, rule_answers, subject_answers, label_answers, all_words, only_word}

-- a text, and its first bad line, which nothing stands before
pub record BadText : Type 0 where
  pub text : List ℕ
  pub bad : BadLine

abbrev pub bad_line_row : List ℕ → ℕ → LineFault → BadText
bad_line_row text line fault = record { text = text; bad = record { line = line; fault = fault } }

-- each text is answered by its bad line alone
abbrev pub AreBad : {A : Type 0} → (List ℕ → List (Result A BadLine)) → List BadText → Type 0
AreBad answers rows = map (λ row. answers row.text) rows ≡ map (λ row. Err row.bad ∷ []) rows

abbrev pub placed_at : ℕ → List ℕ → Placed
placed_at at bytes = record { at = at; bytes = bytes }

-- a line of subject, object and access
abbrev pub three : ℕ → Placed → Placed → Placed → Result RuleWords BadLine
three line s o a = Ok (record { line = line; subject = s; object = o; allow = a; deny = None })

abbrev pub bad_long : List BadText
bad_long =
    bad_line_row (codes "a") 1 (LineFault.Fields 1)
    ∷ bad_line_row (codes "/ / z") 1 (LineFault.Subject (LabelFault.BadByte 0))
    ∷ bad_line_row (codes "a a b r") 1 (LineFault.Fields 4)
    ∷ bad_line_row (codes "-a / z") 1 (LineFault.Subject LabelFault.LeadingDash)
    ∷ bad_line_row (codes "a b/ z") 1 (LineFault.Object (LabelFault.BadByte 1))
    ∷ bad_line_row (codes "a b rz") 1 (LineFault.Allow 1)
    ∷ bad_line_row (0 ∷ codes " b r") 1 (LineFault.Subject (LabelFault.BadByte 0))
    ∷ bad_line_row (codes "a" ++ 13 ∷ codes " b r") 1 (LineFault.Subject (LabelFault.BadByte 1))
    ∷ bad_line_row (codes "a" ++ 127 ∷ codes " b r") 1 (LineFault.Subject (LabelFault.BadByte 1))
    ∷ bad_line_row (codes "a" ++ 255 ∷ codes " b r") 1 (LineFault.Subject (LabelFault.BadByte 1))
    ∷ bad_line_row (codes "a " ++ 0 ∷ codes " r") 1 (LineFault.Object (LabelFault.BadByte 0))
    ∷ bad_line_row (codes "a b" ++ 13 ∷ codes " r") 1 (LineFault.Object (LabelFault.BadByte 1))
    ∷ bad_line_row (codes "a b " ++ 0 ∷ []) 1 (LineFault.Allow 0)
    ∷ bad_line_row (codes "a b r" ++ 13 ∷ codes "\n") 1 (LineFault.Allow 1)
    ∷ bad_line_row (codes "a b r" ++ 255 ∷ []) 1 (LineFault.Allow 1)
    ∷ bad_line_row (replicate 256 97 ++ codes " b r") 1 (LineFault.Subject LabelFault.TooLong)
    ∷ []

abbrev pub bad_change : List BadText
bad_change =
    bad_line_row (codes "a b r") 1 (LineFault.Fields 3)
    ∷ bad_line_row (codes "a b r w x") 1 (LineFault.Fields 5)
    ∷ bad_line_row (codes "a b rz z") 1 (LineFault.Allow 1)
    ∷ bad_line_row (codes "a b r -" ++ 127 ∷ []) 1 (LineFault.Deny 1)
    ∷ []

-- lines of fixed width: of a wrong width, or with a field that is too long or empty or has a bad byte
abbrev pub bad_short : List BadText
bad_short =
    bad_line_row (codes " ") 1 (LineFault.Width 1)
    ∷ bad_line_row (codes "a                       b                       r   ") 1 (LineFault.Width 52)
    ∷ bad_line_row (codes "\na                       b                       r     ") 2 (LineFault.Width 54)
    ∷ bad_line_row (codes "aaaaaaaaaaaaaaaaaaaaaaaab                       r    ") 1 (LineFault.Subject LabelFault.TooLong)
    ∷ bad_line_row (codes "                        b                       r    ") 1 (LineFault.Subject LabelFault.Empty)
    ∷ bad_line_row (codes "a                       aaaaaaaaaaaaaaaaaaaaaaaar    ") 1 (LineFault.Object LabelFault.TooLong)
    ∷ bad_line_row (codes "a                                               r    ") 1 (LineFault.Object LabelFault.Empty)
    ∷ bad_line_row (codes "  a/                    b                       r    ") 1 (LineFault.Subject (LabelFault.BadByte 1))
    ∷ bad_line_row (9 ∷ codes "a                      b                       r    ") 1 (LineFault.Subject (LabelFault.BadByte 0))
    ∷ bad_line_row (codes "a                       b" ++ 13 ∷ codes "                      r    ") 1 (LineFault.Object (LabelFault.BadByte 1))
    ∷ bad_line_row (codes "a                       b                        rb  ") 1 (LineFault.Allow 1)
    ∷ bad_line_row (codes "a                       b                        r w ") 1 (LineFault.Allow 1)
    ∷ bad_line_row (codes "a                       b                       r-l  ") 1 (LineFault.Allow 2)
    ∷ []

abbrev pub bad_subjects : List BadText
bad_subjects = bad_line_row (codes "a b") 1 (LineFault.Fields 2) ∷ bad_line_row (codes "a/\n") 1 (LineFault.Subject (LabelFault.BadByte 1)) ∷ []

-- a text of three lines of words, and the words of its first line parted by spaces alone and by blanks
abbrev pub words_apart : List ℕ
words_apart = codes "ab " ++ 9 ∷ codes "c\n\nd"

-- Lines of each form of rule text, and the first bad line.
pub record WorkedRuleLines : Type 0 where
  pub lines : map (λ line. placed_at line.at line.bytes) (lines_from 10 words_apart) ≡ placed_at 10 (codes "ab " ++ 9 ∷ codes "c") ∷ placed_at 16 [] ∷ placed_at 17 (codes "d") ∷ []
  pub by_spaces : words_from is_space 10 (codes "ab " ++ 9 ∷ codes "c") ≡ placed_at 10 (codes "ab") ∷ placed_at 13 (9 ∷ codes "c") ∷ []
  pub by_blanks : words_from is_blank 10 (codes "ab " ++ 9 ∷ codes "c") ≡ placed_at 10 (codes "ab") ∷ placed_at 14 (codes "c") ∷ []
  pub long : rule_answers RuleForm.Long (codes "task file rw") ≡ three 1 (placed_at 0 (codes "task")) (placed_at 5 (codes "file")) (placed_at 10 (codes "rw")) ∷ []
  pub third : rule_answers RuleForm.Long (codes "\n " ++ 9 ∷ codes "\n" ++ 9 ∷ codes "a" ++ 9 ∷ codes " b  rwx-" ++ 9 ∷ codes "\n") ≡ three 3 (placed_at 5 (codes "a")) (placed_at 8 (codes "b")) (placed_at 11 (codes "rwx-")) ∷ []
  pub capitals : rule_answers RuleForm.Long (codes "A a RX\n") ≡ three 1 (placed_at 0 (codes "A")) (placed_at 2 (codes "a")) (placed_at 4 (codes "RX")) ∷ []
  pub fourth_is_bad : rule_answers RuleForm.Long (codes "a b r\n\n " ++ 9 ∷ codes "\na b\n") ≡ three 1 (placed_at 0 (codes "a")) (placed_at 2 (codes "b")) (placed_at 4 (codes "r")) ∷ Err (record { line = 4; fault = LineFault.Fields 2 }) ∷ []
  pub longest : rule_answers RuleForm.Long (replicate 255 97 ++ codes " b r\n") ≡ three 1 (placed_at 0 (replicate 255 97)) (placed_at 256 (codes "b")) (placed_at 258 (codes "r")) ∷ []
  pub short : rule_answers RuleForm.Short (codes "task                    file                    rW   ") ≡ three 1 (placed_at 0 (codes "task")) (placed_at 24 (codes "file")) (placed_at 48 (codes "rW")) ∷ []
  pub short_longest : rule_answers RuleForm.Short (codes " aaaaaaaaaaaaaaaaaaaaaaa  file                       ") ≡ three 1 (placed_at 1 (replicate 23 97)) (placed_at 26 (codes "file")) (placed_at 53 []) ∷ []
  pub short_adjoining : rule_answers RuleForm.Short (codes " aaaaaaaaaaaaaaaaaaaaaaaa                        r   ") ≡ three 1 (placed_at 1 (replicate 23 97)) (placed_at 24 (codes "a")) (placed_at 49 (codes "r")) ∷ []
  pub short_second : rule_answers RuleForm.Short (codes "\n*                       ?                       -    \n") ≡ three 2 (placed_at 1 (codes "*")) (placed_at 25 (codes "?")) (placed_at 49 (codes "-")) ∷ []
  pub change : rule_answers RuleForm.Change (codes "\na b - wa") ≡ Ok (record { line = 2; subject = placed_at 1 (codes "a"); object = placed_at 3 (codes "b"); allow = placed_at 5 (codes "-"); deny = Some (placed_at 7 (codes "wa")) }) ∷ []
  pub long_faults : AreBad (rule_answers RuleForm.Long) bad_long
  pub change_faults : AreBad (rule_answers RuleForm.Change) bad_change
  pub short_faults : AreBad (rule_answers RuleForm.Short) bad_short
  pub subjects : subject_answers (codes "\n a" ++ 9 ∷ codes "\n\nb\n") ≡ Ok (placed_at 2 (codes "a")) ∷ Ok (placed_at 6 (codes "b")) ∷ []
  pub subject_faults : AreBad subject_answers bad_subjects
  pub third_subject_is_bad : subject_answers (codes "a\n\nb c d") ≡ Ok (placed_at 0 (codes "a")) ∷ Err (record { line = 3; fault = LineFault.Fields 3 }) ∷ []
  pub dash_is_no_subject : subject_answers (codes "a\n-\n") ≡ Ok (placed_at 0 (codes "a")) ∷ Err (record { line = 2; fault = LineFault.Subject LabelFault.LeadingDash }) ∷ []
  pub no_labels : map (λ text. label_answers (all_words text)) ([] ∷ codes "-" ∷ (codes "\n -" ++ 9 ∷ codes "\n") ∷ []) ≡ [] ∷ [] ∷ [] ∷ []
  pub labels : label_answers (all_words (codes "a\n\n b" ++ 9 ∷ codes "c-\n")) ≡ Ok (placed_at 0 (codes "a")) ∷ Ok (placed_at 4 (codes "b")) ∷ Ok (placed_at 6 (codes "c-")) ∷ []
  pub dash_before_a_label : label_answers (all_words (codes "- a")) ≡ Err (record { line = 1; fault = LineFault.Label LabelFault.LeadingDash }) ∷ []
  pub dash_behind_a_label : label_answers (all_words (codes "a\n-\n")) ≡ Ok (placed_at 0 (codes "a")) ∷ Err (record { line = 2; fault = LineFault.Label LabelFault.LeadingDash }) ∷ []
  pub no_label : label_answers (all_words (codes "a\n\nb/ c")) ≡ Ok (placed_at 0 (codes "a")) ∷ Err (record { line = 3; fault = LineFault.Label (LabelFault.BadByte 1) }) ∷ []
  pub one_word : only_word (all_words (codes "\n x/\n")) ≡ Ok (placed_at 2 (codes "x/"))
  pub no_word : only_word (all_words (codes " \n")) ≡ Err (record { line = 1; fault = LineFault.Fields 0 })
  pub four_words : only_word (all_words (codes "a\nb\nc d")) ≡ Err (record { line = 2; fault = LineFault.Fields 4 })
  pub two_words : only_word (all_words (codes "a b")) ≡ Err (record { line = 1; fault = LineFault.Fields 2 })
