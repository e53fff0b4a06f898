use Rattle.std.specs.Prelude.{ℕ, ◌+◌, Bool, false, ◌||◌, not, ◌==◌, if◌then◌else◌, List, [], ◌∷◌, ◌++◌, Option, Some, None, Result, Ok, Err, length, take, drop, map, reverse, position, nat_lt}
use Rattle.std.specs.Option.{option_map}
use Rattle.std.specs.List.{position_or_len}
use Rattle.smack_base.specs.Labels.{label_fault}
use Rattle.smack_base.specs.Modes.{bad_letter, is_either_case, letter_r, letter_w, letter_x, letter_a, letter_t, dash}
use Rattle.smack_base.specs.declared.label.LabelFault.{LabelFault}
use Rattle.smack_base.specs.declared.label.LabelFault.TheVariants as LabelFault
use Rattle.text_spec.specs.declared.RuleForm.{RuleForm}
use Rattle.text_spec.specs.declared.RuleForm.TheVariants as RuleForm
use Rattle.text_spec.specs.declared.LineFault.{LineFault}
use Rattle.text_spec.specs.declared.LineFault.TheVariants as LineFault
use Rattle.text_spec.specs.declared.BadLine.{BadLine}
use Rattle.text_spec.specs.Texts.{Placed, TextLine, lines_from, words_from, is_blank, is_space}

-- a good line of rules: its number, from 1, and its fields
pub record RuleWords : Type 0 where
  pub line : ℕ
  pub subject : Placed
  pub object : Placed
  pub allow : Placed
  pub deny : Option Placed

-- the first fault of some, in their order
abbrev pub first_fault : List (Option LineFault) → Option LineFault
first_fault [] = None
first_fault (None ∷ more) = first_fault more
first_fault (Some f ∷ more) = Some f

abbrev pub subject_fault : Placed → Option LineFault
subject_fault p = option_map (λ f. LineFault.Subject f) (label_fault p.bytes)

abbrev pub object_fault : Placed → Option LineFault
object_fault p = option_map (λ f. LineFault.Object f) (label_fault p.bytes)

abbrev pub allow_fault : Placed → Option LineFault
allow_fault p = option_map (λ at. LineFault.Allow at) (bad_letter p.bytes)

abbrev pub deny_fault : Placed → Option LineFault
deny_fault p = option_map (λ at. LineFault.Deny at) (bad_letter p.bytes)

-- what a good line gives, unless the line of this number has a fault
abbrev pub unless_fault : {A : Type 0} → ℕ → Option LineFault → A → Result A BadLine
unless_fault line None x = Ok x
unless_fault line (Some f) x = Err (record { line = line; fault = f })

abbrev pub fields_fault : {A : Type 0} → ℕ → List Placed → Result A BadLine
fields_fault line words = Err (record { line = line; fault = LineFault.Fields (length words) })

-- a line of subject, object and access
abbrev pub long_line : ℕ → List Placed → Result RuleWords BadLine
long_line line (s ∷ o ∷ a ∷ []) =
    unless_fault line (first_fault (subject_fault s ∷ object_fault o ∷ allow_fault a ∷ []))
    (record { line = line; subject = s; object = o; allow = a; deny = None })
long_line line words = fields_fault line words

-- a line of subject, object, allow and deny
abbrev pub change_line : ℕ → List Placed → Result RuleWords BadLine
change_line line (s ∷ o ∷ a ∷ d ∷ []) =
    unless_fault line (first_fault (subject_fault s ∷ object_fault o ∷ allow_fault a ∷ deny_fault d ∷ []))
    (record { line = line; subject = s; object = o; allow = a; deny = Some d })
change_line line words = fields_fault line words

abbrev pub front_spaces : List ℕ → ℕ
front_spaces bytes = position_or_len (λ b. not (is_space b)) bytes

abbrev pub without_front : List ℕ → List ℕ
without_front bytes = drop (front_spaces bytes) bytes

-- without the spaces at both ends
abbrev pub trimmed : Placed → Placed
trimmed p = record {
  at = p.at + front_spaces p.bytes;
  bytes = reverse (without_front (reverse (without_front p.bytes)));
}

-- the field of this length at this offset of a line
abbrev pub field : ℕ → ℕ → TextLine → Placed
field from len l = trimmed (record { at = l.at + from; bytes = take len (drop from l.bytes) })

-- a label of a line of fixed width has at most 23 bytes
abbrev pub short_label_fault : List ℕ → Option LabelFault
short_label_fault text = if nat_lt 23 (length text) then Some LabelFault.TooLong else label_fault text

-- the letters of a line of fixed width: r w x a t, and the dash
abbrev pub is_short_letter : ℕ → Bool
is_short_letter b =
    is_either_case letter_r b || is_either_case letter_w b || is_either_case letter_x b || is_either_case letter_a b
    || is_either_case letter_t b || (b == dash)

abbrev pub short_bad_letter : List ℕ → Option ℕ
short_bad_letter text = position (λ b. not (is_short_letter b)) text

abbrev pub short_fields : ℕ → Placed → Placed → Placed → Result RuleWords BadLine
short_fields line s o a =
    unless_fault line
    (first_fault
    (option_map (λ f. LineFault.Subject f) (short_label_fault s.bytes) ∷ option_map (λ f. LineFault.Object f) (short_label_fault o.bytes)
    ∷ option_map (λ at. LineFault.Allow at) (short_bad_letter a.bytes) ∷ []))
    (record { line = line; subject = s; object = o; allow = a; deny = None })

-- a line of 53 bytes: subject 24, object 24, access 5
abbrev pub short_line : ℕ → TextLine → Result RuleWords BadLine
short_line line l =
    if length l.bytes == 53 then short_fields line (field 0 24 l) (field 24 24 l) (field 48 5 l)
    else Err (record { line = line; fault = LineFault.Width (length l.bytes) })

-- a line without a word is skipped
abbrev pub unless_bare : {A : Type 0} → List Placed → Result A BadLine → Option (Result A BadLine)
unless_bare [] answer = None
unless_bare (w ∷ ws) answer = Some answer

abbrev pub blank_words : TextLine → List Placed
blank_words l = words_from is_blank l.at l.bytes

-- what a line of this form and number is: skipped, good, or bad
abbrev pub line_answer : RuleForm → ℕ → TextLine → Option (Result RuleWords BadLine)
line_answer RuleForm.Long line l = unless_bare (blank_words l) (long_line line (blank_words l))
line_answer RuleForm.Change line l = unless_bare (blank_words l) (change_line line (blank_words l))
line_answer RuleForm.Short line l = if length l.bytes == 0 then None else Some (short_line line l)

-- nothing follows a bad line
abbrev pub before_more : {A : Type 0} → Option (Result A BadLine) → List (Result A BadLine) → List (Result A BadLine)
before_more None more = more
before_more (Some (Ok r)) more = Ok r ∷ more
before_more (Some (Err b)) more = Err b ∷ []

-- what lines are, from this number on, where this is what a line is: each that is not skipped, up to the first bad one
abbrev pub answers_from : {A : Type 0} → (ℕ → TextLine → Option (Result A BadLine)) → ℕ → List TextLine → List (Result A BadLine)
answers_from answer line [] = []
answers_from answer line (l ∷ ls) = before_more (answer line l) (answers_from answer (line + 1) ls)

abbrev pub line_answers : RuleForm → ℕ → List TextLine → List (Result RuleWords BadLine)
line_answers form line ls = answers_from (line_answer form) line ls

-- what a text of this form is, line by line
abbrev pub rule_answers : RuleForm → List ℕ → List (Result RuleWords BadLine)
rule_answers form text = line_answers form 1 (lines_from 0 text)

-- a line of one subject
abbrev pub subject_line : ℕ → List Placed → Result Placed BadLine
subject_line line (s ∷ []) = unless_fault line (subject_fault s) s
subject_line line words = fields_fault line words

abbrev pub subject_answer : ℕ → TextLine → Option (Result Placed BadLine)
subject_answer line l = unless_bare (blank_words l) (subject_line line (blank_words l))

abbrev pub subject_answers_from : ℕ → List TextLine → List (Result Placed BadLine)
subject_answers_from line ls = answers_from subject_answer line ls

-- what a text of subjects is, line by line
abbrev pub subject_answers : List ℕ → List (Result Placed BadLine)
subject_answers text = subject_answers_from 1 (lines_from 0 text)

-- all that was good, or the first bad line
abbrev pub with_first : {A : Type 0} → Result A BadLine → Result (List A) BadLine → Result (List A) BadLine
with_first (Err b) more = Err b
with_first (Ok r) (Err b) = Err b
with_first (Ok r) (Ok rs) = Ok (r ∷ rs)

abbrev pub all_good : {A : Type 0} → List (Result A BadLine) → Result (List A) BadLine
all_good [] = Ok []
all_good (r ∷ rs) = with_first r (all_good rs)

-- a word of a text, and the number of its line
pub record LineWord : Type 0 where
  pub line : ℕ
  pub word : Placed

abbrev pub line_words : ℕ → List TextLine → List LineWord
line_words line [] = []
line_words line (l ∷ ls) = map (λ w. record { line = line; word = w }) (blank_words l) ++ line_words (line + 1) ls

-- the words of a text over all its lines
abbrev pub all_words : List ℕ → List LineWord
all_words text = line_words 1 (lines_from 0 text)

abbrev pub listed_fault : Placed → Option LineFault
listed_fault p = option_map (λ f. LineFault.Label f) (label_fault p.bytes)

-- a label of a list, or its fault
abbrev pub list_word : LineWord → Result Placed BadLine
list_word w = unless_fault w.line (listed_fault w.word) w.word

abbrev pub is_dash : List ℕ → Bool
is_dash (b ∷ []) = b == 45
is_dash bytes = false

abbrev pub words_answers : List LineWord → List (Result Placed BadLine)
words_answers [] = []
words_answers (w ∷ ws) = before_more (Some (list_word w)) (words_answers ws)

-- what a text of labels is, word by word; a sole dash is no label and no fault
abbrev pub label_answers : List LineWord → List (Result Placed BadLine)
label_answers (w ∷ []) = if is_dash w.word.bytes then [] else words_answers (w ∷ [])
label_answers words = words_answers words

-- the only word of a text; else the fault is at line 1 where there is none, and at the line of the second word
abbrev pub only_word : List LineWord → Result Placed BadLine
only_word [] = Err (record { line = 1; fault = LineFault.Fields 0 })
only_word (w ∷ []) = Ok w.word
only_word (w ∷ v ∷ ws) = Err (record { line = v.line; fault = LineFault.Fields (length (w ∷ v ∷ ws)) })
