use Rattle.std.proofs.Common.{◌≡◌, ◌≤◌, ℕ, ◌+◌, ◌-◌, true, List, [], ◌∷◌, refl, ap, subst, arith, inl, inr, map, IfOk, IfSome, Option, Some, None, Result, Ok, Err}
use Rattle.std.specs.Prelude.{nat_le, ◌&&◌, is_none}
use Rattle.std.specs.List.{AllByRecursion}
use Rattle.std.specs.Option.{option_map}
use Rattle.std.proofs.lemmas.Bool.{cases_Bool, and_parts, leb-true}
use Rattle.std.proofs.lemmas.Option.{cond_some}
use Rattle.smack_base.specs.Labels.{label_fault, is_label}
use Rattle.smack_base.specs.declared.label.LabelFault.{LabelFault}
use Rattle.text_spec.specs.declared.BadLine.{BadLine}
use Rattle.text_spec.specs.declared.LineFault.{LineFault}
use Rattle.text_spec.specs.declared.LineFault.TheVariants as LineFault
use Rattle.text_spec.specs.declared.RuleForm.{RuleForm}
use Rattle.text_spec.specs.declared.RuleForm.TheVariants as RuleForm
use Rattle.text_spec.specs.Texts.{Placed, TextLine, lines_from}
use Rattle.text_spec.specs.RuleTexts.{RuleWords, LineWord, line_answer, line_answers, rule_answers, before_more, unless_bare, blank_words, unless_fault, listed_fault, subject_line, subject_answer, subject_answers_from, subject_answers, list_word, words_answers, label_answers, is_dash, all_words, only_word, with_first, all_good}
use Rattle.rule_text.proofs.GoodFields.{AreGood, answer_good}
use Rattle.file_spec.specs.declared.RuleFile.{RuleFile}
use Rattle.file_spec.specs.declared.RuleFile.TheVariants as RuleFile
use Rattle.file_spec.specs.Writes.{NamedWrite, NamedSet, NamedChange, NamedRevoke, NamedClear, NamedAdd, NamedAmbient, NamedPtrace, NamedLogging, set_write, change_write, line_of, digit_in, with_word, digit_or_fault, label_in, number_in, on_good, write_answers, writes_of_text}

abbrev pub IsLabel : List ℕ → Type 0
IsLabel name = is_label name ≡ true

abbrev IsLabelWord : Placed → Type 0
IsLabelWord p = IsLabel p.bytes

-- the words of a write that stand for labels are labels, and its number is one that its file takes
abbrev pub IsGoodWrite : NamedWrite → Type 0
IsGoodWrite (NamedSet s o m) = IsLabelWord s × IsLabelWord o
IsGoodWrite (NamedChange s o allow deny) = IsLabelWord s × IsLabelWord o
IsGoodWrite (NamedRevoke s) = IsLabelWord s
IsGoodWrite NamedClear = Unit {0}
IsGoodWrite (NamedAdd l) = IsLabelWord l
IsGoodWrite (NamedAmbient l) = IsLabelWord l
IsGoodWrite (NamedPtrace n) = n ≤ 2
IsGoodWrite (NamedLogging n) = n ≤ 3

-- answers of which each good one has a property
abbrev AllGood : {A : Type 0} → (A → Type 0) → List (Result A BadLine) → Type 0
AllGood P answers = AllByRecursion (λ a. IfOk a P) answers

no_fault_is_label : (name : List ℕ) → label_fault name ≡ None → IsLabel name
no_fault_is_label name none = ap is_none none

-- what answers have, they have behind another that has it, which ends them where it is bad
pub before_keeps : {A : Type 0} (P : Result A BadLine → Type 0) (a : Option (Result A BadLine)) (more : List (Result A BadLine)) → IfSome a P
    → AllByRecursion P more → AllByRecursion P (before_more a more)
before_keeps P None more has rest = rest
before_keeps P (Some (Ok x)) more has rest = (has, rest)
before_keeps P (Some (Err b)) more has rest = (has, tt)

-- what follows of the value of an answer follows of the changed answer
on_good_keeps : {A B : Type 0} (P : A → Type 0) (Q : B → Type 0) (f : A → B) → ((x : A) → P x → Q (f x)) → (a : Result A BadLine) → IfOk a P
    → IfOk (on_good f a) Q
on_good_keeps P Q f follows (Ok x) good = follows x good
on_good_keeps P Q f follows (Err b) good = tt

map_keeps : {A B : Type 0} (P : A → Type 0) (Q : B → Type 0) (f : A → B) → ((x : A) → P x → Q (f x)) → (answers : List (Result A BadLine))
    → AllGood P answers → AllGood Q (map (on_good f) answers)
map_keeps P Q f follows [] good = tt
map_keeps P Q f follows (a ∷ answers) good = (on_good_keeps P Q f follows a good.0, map_keeps P Q f follows answers good.1)

-- a line that is there and good has good fields
there_good : (a : Option (Result RuleWords BadLine)) → ((r : RuleWords) → a ≡ Some (Ok r) → AreGood r) → IfSome a (λ x. IfOk x AreGood)
there_good None good = tt
there_good (Some (Ok r)) good = good r refl
there_good (Some (Err b)) good = tt

lines_good : (form : RuleForm) (n : ℕ) (ls : List TextLine) → AllGood AreGood (line_answers form n ls)
lines_good form n [] = tt
lines_good form n (l ∷ ls) =
    before_keeps (λ a. IfOk a AreGood) (line_answer form n l) (line_answers form (n + 1) ls) (there_good (line_answer form n l) (answer_good form n l)) (lines_good form (n + 1) ls)

rules_good : (form : RuleForm) (text : List ℕ) → AllGood AreGood (rule_answers form text)
rules_good form text = lines_good form 1 (lines_from 0 text)

set_good : (r : RuleWords) → AreGood r → IsGoodWrite (set_write r)
set_good r good = (no_fault_is_label r.subject.bytes good.subject, no_fault_is_label r.object.bytes good.object)

change_good : (r : RuleWords) → AreGood r → IsGoodWrite (change_write r)
change_good r good = (no_fault_is_label r.subject.bytes good.subject, no_fault_is_label r.object.bytes good.object)

-- a text without a fault of a label is a label, whatever its line calls the fault
good_label : (n : ℕ) (named : LabelFault → LineFault) (fault : Option LabelFault) (p : Placed) → label_fault p.bytes ≡ fault
    → IfOk (unless_fault n (option_map named fault) p) IsLabelWord
good_label n named None p is = no_fault_is_label p.bytes is
good_label n named (Some f) p is = tt

subject_line_good : (n : ℕ) (ws : List Placed) → IfOk (subject_line n ws) IsLabelWord
subject_line_good n [] = tt
subject_line_good n (s ∷ []) = good_label n (λ f. LineFault.Subject f) (label_fault s.bytes) s refl
subject_line_good n (s ∷ w ∷ ws) = tt

-- what the answer to a line with a word has, the line has
pub unless_bare_keeps : {A : Type 0} (P : Result A BadLine → Type 0) (ws : List Placed) (a : Result A BadLine) → P a → IfSome (unless_bare ws a) P
unless_bare_keeps P [] a has = tt
unless_bare_keeps P (w ∷ ws) a has = has

subject_lines_good : (n : ℕ) (ls : List TextLine) → AllGood IsLabelWord (subject_answers_from n ls)
subject_lines_good n [] = tt
subject_lines_good n (l ∷ ls) =
    before_keeps (λ a. IfOk a IsLabelWord) (subject_answer n l) (subject_answers_from (n + 1) ls)
    (unless_bare_keeps (λ a. IfOk a IsLabelWord) (blank_words l) (subject_line n (blank_words l)) (subject_line_good n (blank_words l))) (subject_lines_good (n + 1) ls)

words_good : (ws : List LineWord) → AllGood IsLabelWord (words_answers ws)
words_good [] = tt
words_good (w ∷ ws) =
    before_keeps (λ a. IfOk a IsLabelWord) (Some (list_word w)) (words_answers ws) (good_label w.line (λ f. LineFault.Label f) (label_fault w.word.bytes) w.word refl)
    (words_good ws)

labels_good : (ws : List LineWord) → AllGood IsLabelWord (label_answers ws)
labels_good [] = tt
labels_good (w ∷ []) =
    elim (cases_Bool (is_dash w.word.bytes)) [
      | inl e ↦ simp e tt
      | inr e ↦ simp e (words_good (w ∷ []))
    ]
labels_good (w ∷ v ∷ ws) = words_good (w ∷ v ∷ ws)

-- what is read of the only word of a text
one_word_good : {A : Type 0} (P : A → Type 0) (read : Placed → Result A BadLine) → ((p : Placed) → IfOk (read p) P)
    → (word : Result Placed BadLine) → IfOk (with_word read word) P
one_word_good P read good (Ok p) = good p
one_word_good P read good (Err b) = tt

-- a digit up to the last is no more than it
digit_good : (last : ℕ) (bytes : List ℕ) (n : ℕ) → digit_in last bytes ≡ Some n → n ≤ last
digit_good last [] n is = cc
digit_good last (b ∷ []) n is =
    let digit = cond_some (nat_le 48 b && nat_le b (48 + last)) (b - 48) n is in
    omega (arith, digit.1, leb-true b (48 + last) (and_parts (nat_le 48 b) (nat_le b (48 + last)) digit.0).1)
digit_good last (b ∷ c ∷ bs) n is = cc

number_good : (text : List ℕ) (last : ℕ) (digit : Option ℕ) (p : Placed) → digit_in last p.bytes ≡ digit → IfOk (digit_or_fault text digit p) (λ n. n ≤ last)
number_good text last None p is = tt
number_good text last (Some n) p is = digit_good last p.bytes n is

label_in_good : (text : List ℕ) → IfOk (label_in text) IsLabelWord
label_in_good text =
    one_word_good IsLabelWord (λ p. unless_fault (line_of text p.at) (listed_fault p) p)
    (λ p. good_label (line_of text p.at) (λ f. LineFault.Label f) (label_fault p.bytes) p refl) (only_word (all_words text))

number_in_good : (last : ℕ) (text : List ℕ) → IfOk (number_in last text) (λ n. n ≤ last)
number_in_good last text =
    one_word_good (λ n. n ≤ last) (λ p. digit_or_fault text (digit_in last p.bytes) p) (λ p. number_good text last (digit_in last p.bytes) p refl)
    (only_word (all_words text))

-- each good answer of a text for a file is a good write
answers_good : (file : RuleFile) (text : List ℕ) → AllGood IsGoodWrite (write_answers file text)
answers_good RuleFile.Load2 text = map_keeps AreGood IsGoodWrite set_write set_good (rule_answers RuleForm.Long text) (rules_good RuleForm.Long text)
answers_good RuleFile.Load text = map_keeps AreGood IsGoodWrite set_write set_good (rule_answers RuleForm.Short text) (rules_good RuleForm.Short text)
answers_good RuleFile.ChangeRule text = map_keeps AreGood IsGoodWrite change_write change_good (rule_answers RuleForm.Change text) (rules_good RuleForm.Change text)
answers_good RuleFile.RevokeSubject text =
    map_keeps IsLabelWord IsGoodWrite NamedRevoke (λ s good. good) (subject_answers text) (subject_lines_good 1 (lines_from 0 text))
answers_good RuleFile.Onlycap text =
    (tt, map_keeps IsLabelWord IsGoodWrite NamedAdd (λ l good. good) (label_answers (all_words text)) (labels_good (all_words text)))
answers_good RuleFile.Ambient text = (on_good_keeps IsLabelWord IsGoodWrite NamedAmbient (λ l good. good) (label_in text) (label_in_good text), tt)
answers_good RuleFile.Ptrace text = (on_good_keeps (λ n. n ≤ 2) IsGoodWrite NamedPtrace (λ n good. good) (number_in 2 text) (number_in_good 2 text), tt)
answers_good RuleFile.Logging text = (on_good_keeps (λ n. n ≤ 3) IsGoodWrite NamedLogging (λ n good. good) (number_in 3 text) (number_in_good 3 text), tt)

first_value : {A : Type 0} (r : Result A BadLine) (more : Result (List A) BadLine) (xs : List A) → with_first r more ≡ Ok xs
    → (x : A) × (rest : List A) × (r ≡ Ok x) × (more ≡ Ok rest) × (x ∷ rest ≡ xs)
first_value (Err b) more xs is = cc
first_value (Ok x) (Err b) xs is = cc
first_value (Ok x) (Ok rest) xs is = (x, rest, refl, refl, cc)

-- what good answers have, their values have where none is bad
values_good : {A : Type 0} (P : A → Type 0) (answers : List (Result A BadLine)) (xs : List A) → all_good answers ≡ Ok xs → AllGood P answers
    → AllByRecursion P xs
values_good P [] xs is good = let none : [] ≡ xs = cc in subst (AllByRecursion P) none tt
values_good P (r ∷ rs) xs is good =
    let first = first_value r (all_good rs) xs is in
    subst (AllByRecursion P) first.4 (subst (λ a. IfOk a P) first.2 good.0, values_good P rs first.1 first.3 good.1)

-- each write of a text that its file accepts is good
pub good_writes : (file : RuleFile) (text : List ℕ) (writes : List NamedWrite) → writes_of_text file text ≡ Ok writes → AllByRecursion IsGoodWrite writes
good_writes file text writes is = values_good IsGoodWrite (write_answers file text) writes is (answers_good file text)
