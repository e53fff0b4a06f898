use Rattle.std.specs.Prelude.{ℕ, List, [], ◌∷◌, codes}
use Rattle.smack_base.specs.declared.label.LabelFault.{LabelFault}
use Rattle.smack_base.specs.declared.label.LabelFault.TheVariants as LabelFault
use Rattle.text_spec.specs.declared.BadLine.{BadLine}
use Rattle.text_spec.specs.declared.LineFault.{LineFault}
use Rattle.text_spec.specs.declared.LineFault.TheVariants as LineFault
use Rattle.log_spec.specs.Numerals.{numeral}
use Rattle.file_spec.specs.declared.Refusal.{Refusal}
use Rattle.file_spec.specs.declared.Refusal.TheVariants as Refusal

-- what is wrong with a label
abbrev pub label_fault_words : LabelFault → List (List ℕ)
label_fault_words LabelFault.Empty = codes "empty" ∷ []
label_fault_words LabelFault.TooLong = codes "too-long" ∷ []
label_fault_words LabelFault.LeadingDash = codes "dash" ∷ []
label_fault_words (LabelFault.BadByte at) = codes "byte" ∷ numeral at ∷ []

-- what is wrong with a line of a text
abbrev pub line_fault_words : LineFault → List (List ℕ)
line_fault_words (LineFault.Fields n) = codes "fields" ∷ numeral n ∷ []
line_fault_words (LineFault.Width n) = codes "width" ∷ numeral n ∷ []
line_fault_words (LineFault.Subject f) = codes "subject" ∷ label_fault_words f
line_fault_words (LineFault.Object f) = codes "object" ∷ label_fault_words f
line_fault_words (LineFault.Allow at) = codes "allow" ∷ numeral at ∷ []
line_fault_words (LineFault.Deny at) = codes "deny" ∷ numeral at ∷ []
line_fault_words (LineFault.Label f) = codes "label" ∷ label_fault_words f
line_fault_words LineFault.Number = codes "number" ∷ []

-- the number of a bad line and what is wrong with it
abbrev pub bad_line_words : BadLine → List (List ℕ)
bad_line_words bad = codes "bad-line" ∷ numeral bad.line ∷ line_fault_words bad.fault

-- why a write was refused
abbrev pub refusal_words : Refusal → List (List ℕ)
refusal_words Refusal.NoSuchFile = codes "no-such-file" ∷ []
refusal_words Refusal.TooLong = codes "too-long" ∷ []
refusal_words (Refusal.BadLine bad) = bad_line_words bad
refusal_words (Refusal.UnknownLabel line) = codes "unknown-label" ∷ numeral line ∷ []
refusal_words Refusal.NotPrivileged = codes "not-privileged" ∷ []
refusal_words (Refusal.JournalFull rows) = codes "journal-full" ∷ numeral rows ∷ []
