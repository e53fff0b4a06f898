use Rattle.std.proofs.Common.{◌≡◌, ℕ, List, codes, drop, if◌then◌else◌, refl}
use Rattle.smack_base.specs.declared.label.LabelFault.{LabelFault}
use Rattle.text_spec.specs.declared.LineFault.{LineFault}
use Rattle.file_spec.specs.declared.Refusal.{Refusal}
use Rattle.record_spec.specs.Refusals.{label_fault_words, line_fault_words, refusal_words}
use Rattle.text_laws.proofs.Clean.{AreClean}
use Rattle.text_laws.proofs.Numbers.{number_in, number_read, numeral_clean}
use Rattle.text_laws.proofs.Told.{word_at, begins_with}

-- the fault of a label that some words are
abbrev label_fault_in : List (List ℕ) → LabelFault
label_fault_in ws =
    if begins_with (codes "empty") ws then LabelFault.Empty
    else (if begins_with (codes "too-long") ws then LabelFault.TooLong
    else (if begins_with (codes "dash") ws then LabelFault.LeadingDash
    else LabelFault.BadByte (number_in (word_at 1 ws))))

label_fault_read : (f : LabelFault) → label_fault_in (label_fault_words f) ≡ f
label_fault_read LabelFault.Empty = refl
label_fault_read LabelFault.TooLong = refl
label_fault_read LabelFault.LeadingDash = refl
label_fault_read (LabelFault.BadByte at) = λ i. LabelFault.BadByte (number_read at i)

label_fault_clean : (f : LabelFault) → AreClean (label_fault_words f)
label_fault_clean LabelFault.Empty = (refl, tt)
label_fault_clean LabelFault.TooLong = (refl, tt)
label_fault_clean LabelFault.LeadingDash = (refl, tt)
label_fault_clean (LabelFault.BadByte at) = (refl, (numeral_clean at, tt))

-- the fault of a line that some words are
abbrev line_fault_in : List (List ℕ) → LineFault
line_fault_in ws =
    if begins_with (codes "fields") ws then LineFault.Fields (number_in (word_at 1 ws))
    else (if begins_with (codes "width") ws then LineFault.Width (number_in (word_at 1 ws))
    else (if begins_with (codes "subject") ws then LineFault.Subject (label_fault_in (drop 1 ws))
    else (if begins_with (codes "object") ws then LineFault.Object (label_fault_in (drop 1 ws))
    else (if begins_with (codes "allow") ws then LineFault.Allow (number_in (word_at 1 ws))
    else (if begins_with (codes "deny") ws then LineFault.Deny (number_in (word_at 1 ws))
    else (if begins_with (codes "label") ws then LineFault.Label (label_fault_in (drop 1 ws))
    else LineFault.Number))))))

line_fault_read : (f : LineFault) → line_fault_in (line_fault_words f) ≡ f
line_fault_read (LineFault.Fields n) = λ i. LineFault.Fields (number_read n i)
line_fault_read (LineFault.Width n) = λ i. LineFault.Width (number_read n i)
line_fault_read (LineFault.Subject f) = λ i. LineFault.Subject (label_fault_read f i)
line_fault_read (LineFault.Object f) = λ i. LineFault.Object (label_fault_read f i)
line_fault_read (LineFault.Allow at) = λ i. LineFault.Allow (number_read at i)
line_fault_read (LineFault.Deny at) = λ i. LineFault.Deny (number_read at i)
line_fault_read (LineFault.Label f) = λ i. LineFault.Label (label_fault_read f i)
line_fault_read LineFault.Number = refl

line_fault_clean : (f : LineFault) → AreClean (line_fault_words f)
line_fault_clean (LineFault.Fields n) = (refl, (numeral_clean n, tt))
line_fault_clean (LineFault.Width n) = (refl, (numeral_clean n, tt))
line_fault_clean (LineFault.Subject f) = (refl, label_fault_clean f)
line_fault_clean (LineFault.Object f) = (refl, label_fault_clean f)
line_fault_clean (LineFault.Allow at) = (refl, (numeral_clean at, tt))
line_fault_clean (LineFault.Deny at) = (refl, (numeral_clean at, tt))
line_fault_clean (LineFault.Label f) = (refl, label_fault_clean f)
line_fault_clean LineFault.Number = (refl, tt)

-- the refusal of a write that some words are
abbrev pub refusal_in : List (List ℕ) → Refusal
refusal_in ws =
    if begins_with (codes "no-such-file") ws then Refusal.NoSuchFile
    else (if begins_with (codes "too-long") ws then Refusal.TooLong
    else (if begins_with (codes "bad-line") ws then Refusal.BadLine (record { line = number_in (word_at 1 ws); fault = line_fault_in (drop 2 ws) })
    else (if begins_with (codes "unknown-label") ws then Refusal.UnknownLabel (number_in (word_at 1 ws))
    else (if begins_with (codes "not-privileged") ws then Refusal.NotPrivileged
    else Refusal.JournalFull (number_in (word_at 1 ws))))))

-- a refusal is read back from its words, which have no space and no line feed
pub refusal_read : (f : Refusal) → refusal_in (refusal_words f) ≡ f
refusal_read Refusal.NoSuchFile = refl
refusal_read Refusal.TooLong = refl
refusal_read (Refusal.BadLine bad) = λ i. Refusal.BadLine (record { line = number_read bad.line i; fault = line_fault_read bad.fault i })
refusal_read (Refusal.UnknownLabel line) = λ i. Refusal.UnknownLabel (number_read line i)
refusal_read Refusal.NotPrivileged = refl
refusal_read (Refusal.JournalFull rows) = λ i. Refusal.JournalFull (number_read rows i)

pub refusal_clean : (f : Refusal) → AreClean (refusal_words f)
refusal_clean Refusal.NoSuchFile = (refl, tt)
refusal_clean Refusal.TooLong = (refl, tt)
refusal_clean (Refusal.BadLine bad) = (refl, (numeral_clean bad.line, line_fault_clean bad.fault))
refusal_clean (Refusal.UnknownLabel line) = (refl, (numeral_clean line, tt))
refusal_clean Refusal.NotPrivileged = (refl, tt)
refusal_clean (Refusal.JournalFull rows) = (refl, (numeral_clean rows, tt))
