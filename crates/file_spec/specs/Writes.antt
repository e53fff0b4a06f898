use Rattle.std.specs.Prelude.{ℕ, ◌+◌, ◌-◌, ◌&&◌, if◌then◌else◌, List, [], ◌∷◌, Option, Some, None, Result, Ok, Err, length, map, take, codes, count_by, nat_le}
use Rattle.std.specs.List.{flat_map}
use Rattle.std.specs.Option.{option_map, option_or}
use Rattle.std.specs.Map.{lookup}
use Rattle.std.specs.Str.{bytes_eq}
use Rattle.smack_base.specs.Modes.{modes_of, no_modes}
use Rattle.smack_base.specs.declared.modes.Modes.{Modes}
use Rattle.text_spec.specs.declared.BadLine.{BadLine}
use Rattle.text_spec.specs.declared.LineFault.TheVariants as LineFault
use Rattle.text_spec.specs.declared.RuleForm.TheVariants as RuleForm
use Rattle.text_spec.specs.Texts.{Placed, is_feed}
use Rattle.text_spec.specs.RuleTexts.{RuleWords, unless_fault, listed_fault, rule_answers, subject_answers, all_words, label_answers, only_word, all_good}
use Rattle.file_spec.specs.declared.RuleFile.{RuleFile}
use Rattle.file_spec.specs.declared.RuleFile.TheVariants as RuleFile
use Rattle.file_spec.specs.declared.SelfFile.{SelfFile}
use Rattle.file_spec.specs.declared.SelfFile.TheVariants as SelfFile
use Rattle.file_spec.specs.declared.SmackFile.{SmackFile}
use Rattle.file_spec.specs.declared.SmackFile.TheVariants as SmackFile

-- the files of rules and settings by name
abbrev pub rule_files : List (List ℕ × RuleFile)
rule_files =
    (codes "load2", RuleFile.Load2)
    ∷ (codes "load", RuleFile.Load)
    ∷ (codes "change-rule", RuleFile.ChangeRule)
    ∷ (codes "revoke-subject", RuleFile.RevokeSubject)
    ∷ (codes "onlycap", RuleFile.Onlycap)
    ∷ (codes "ambient", RuleFile.Ambient)
    ∷ (codes "ptrace", RuleFile.Ptrace)
    ∷ (codes "logging", RuleFile.Logging)
    ∷ []

abbrev pub rule_file : List ℕ → Option RuleFile
rule_file name = lookup (bytes_eq name) rule_files

-- the files of the writing task by name
abbrev pub self_files : List (List ℕ × SelfFile)
self_files =
    (codes "load-self2", SelfFile.LoadSelf2)
    ∷ (codes "load-self", SelfFile.LoadSelf)
    ∷ (codes "relabel-self", SelfFile.RelabelSelf)
    ∷ []

abbrev pub self_file : List ℕ → Option SelfFile
self_file name = lookup (bytes_eq name) self_files

-- the file with a name
abbrev pub file_of : List ℕ → Option SmackFile
file_of name = option_or (option_map (λ file. SmackFile.Rule file) (rule_file name)) (option_map (λ file. SmackFile.Own file) (self_file name))

-- the file of rules that takes the same texts
abbrev pub same_texts : SelfFile → RuleFile
same_texts SelfFile.LoadSelf2 = RuleFile.Load2
same_texts SelfFile.LoadSelf = RuleFile.Load
same_texts SelfFile.RelabelSelf = RuleFile.Onlycap

-- the file of rules by whose form a file's text is read
abbrev pub read_as : SmackFile → RuleFile
read_as (SmackFile.Rule file) = file
read_as (SmackFile.Own file) = same_texts file

-- a write to rules or settings whose labels are still words of its text
pub data NamedWrite : Type 0 where
  NamedSet : Placed → Placed → Modes → NamedWrite
  NamedChange : Placed → Placed → Modes → Modes → NamedWrite
  NamedRevoke : Placed → NamedWrite
  NamedClear : NamedWrite
  NamedAdd : Placed → NamedWrite
  NamedAmbient : Placed → NamedWrite
  NamedPtrace : ℕ → NamedWrite
  NamedLogging : ℕ → NamedWrite

-- the labels that a write names
abbrev pub labels_named : NamedWrite → List (List ℕ)
labels_named (NamedSet s o m) = s.bytes ∷ o.bytes ∷ []
labels_named (NamedChange s o allow deny) = s.bytes ∷ o.bytes ∷ []
labels_named (NamedRevoke s) = s.bytes ∷ []
labels_named NamedClear = []
labels_named (NamedAdd l) = l.bytes ∷ []
labels_named (NamedAmbient l) = l.bytes ∷ []
labels_named (NamedPtrace n) = []
labels_named (NamedLogging n) = []

abbrev pub modes_or_none : Option Placed → Modes
modes_or_none None = no_modes
modes_or_none (Some p) = modes_of p.bytes

-- the write of a line of rules
abbrev pub set_write : RuleWords → NamedWrite
set_write r = NamedSet r.subject r.object (modes_of r.allow.bytes)

abbrev pub change_write : RuleWords → NamedWrite
change_write r = NamedChange r.subject r.object (modes_of r.allow.bytes) (modes_or_none r.deny)

-- the number of the line of a place: one more than the line feeds before it
abbrev pub line_of : List ℕ → ℕ → ℕ
line_of text at = count_by is_feed (take at text) + 1

-- a word that is one digit, up to the last that a file takes
abbrev pub digit_in : ℕ → List ℕ → Option ℕ
digit_in last (b ∷ []) = if nat_le 48 b && nat_le b (48 + last) then Some (b - 48) else None
digit_in last bytes = None

abbrev pub with_word : {A : Type 0} → (Placed → Result A BadLine) → Result Placed BadLine → Result A BadLine
with_word read (Err bad) = Err bad
with_word read (Ok p) = read p

abbrev pub digit_or_fault : List ℕ → Option ℕ → Placed → Result ℕ BadLine
digit_or_fault text None p = Err (record { line = line_of text p.at; fault = LineFault.Number })
digit_or_fault text (Some n) p = Ok n

-- the label that a text of one word is
abbrev pub label_in : List ℕ → Result Placed BadLine
label_in text = with_word (λ p. unless_fault (line_of text p.at) (listed_fault p) p) (only_word (all_words text))

-- the number up to this one that a text of one word is
abbrev pub number_in : ℕ → List ℕ → Result ℕ BadLine
number_in last text = with_word (λ p. digit_or_fault text (digit_in last p.bytes) p) (only_word (all_words text))

abbrev pub on_good : {A B : Type 0} → (A → B) → Result A BadLine → Result B BadLine
on_good f (Ok x) = Ok (f x)
on_good f (Err bad) = Err bad

-- what a text is for a file, write by write, up to its first bad line
abbrev pub write_answers : RuleFile → List ℕ → List (Result NamedWrite BadLine)
write_answers RuleFile.Load2 text = map (on_good set_write) (rule_answers RuleForm.Long text)
write_answers RuleFile.Load text = map (on_good set_write) (rule_answers RuleForm.Short text)
write_answers RuleFile.ChangeRule text = map (on_good change_write) (rule_answers RuleForm.Change text)
write_answers RuleFile.RevokeSubject text = map (on_good NamedRevoke) (subject_answers text)
write_answers RuleFile.Onlycap text = Ok NamedClear ∷ map (on_good NamedAdd) (label_answers (all_words text))
write_answers RuleFile.Ambient text = on_good NamedAmbient (label_in text) ∷ []
write_answers RuleFile.Ptrace text = on_good NamedPtrace (number_in 2 text) ∷ []
write_answers RuleFile.Logging text = on_good NamedLogging (number_in 3 text) ∷ []

-- the writes of a text, or its first bad line
abbrev pub writes_of_text : RuleFile → List ℕ → Result (List NamedWrite) BadLine
writes_of_text file text = all_good (write_answers file text)

abbrev pub names_of_writes : Result (List NamedWrite) BadLine → List (List ℕ)
names_of_writes (Err bad) = []
names_of_writes (Ok writes) = flat_map labels_named writes

-- the labels of a text that its file accepts
abbrev pub names_of_text : Option SmackFile → List ℕ → List (List ℕ)
names_of_text None text = []
names_of_text (Some file) text = names_of_writes (writes_of_text (read_as file) text)

-- how many rows of a journal writes take: one each, and one for their batch
abbrev pub rows_of_writes : Result (List NamedWrite) BadLine → ℕ
rows_of_writes (Err bad) = 0
rows_of_writes (Ok writes) = length writes + 1

-- a text of rules and settings takes rows; a call on the writing task takes none
abbrev pub rows_of_text : Option SmackFile → List ℕ → ℕ
rows_of_text None text = 0
rows_of_text (Some (SmackFile.Rule file)) text = rows_of_writes (writes_of_text file text)
rows_of_text (Some (SmackFile.Own file)) text = 0
