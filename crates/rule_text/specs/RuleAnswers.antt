use Rattle.std.specs.Prelude.{◌≡◌, Some, None, Result, Ok, Err}
use Rattle.smack_base.specs.Labels.{label_fault}
use Rattle.smack_base.specs.Modes.{bad_letter}
use Rattle.std.specs.Option.{option_map}
use Rattle.text_spec.specs.declared.BadLine.{BadLine}
use Rattle.text_spec.specs.Texts.{Placed}
use Rattle.text_spec.specs.RuleTexts.{RuleWords, deny_fault, unless_fault}
use Rattle.rule_text.specs.declared.rule_line.RuleLine.{RuleLine}
use Rattle.rule_text.specs.Parts.{placed}

-- a good line, its fields as runs of bytes
abbrev pub fields_of : RuleLine → RuleWords
fields_of r = record {
  line = r.line;
  subject = placed r.subject;
  object = placed r.object;
  allow = placed r.allow;
  deny = option_map placed r.deny;
}

-- an answer, its fields as runs of bytes
abbrev pub answer_seen : Result RuleLine BadLine → Result RuleWords BadLine
answer_seen (Ok r) = Ok (fields_of r)
answer_seen (Err b) = Err b

-- a good line with modes to be taken away, unless they have a fault
abbrev pub denying : Placed → RuleWords → Result RuleWords BadLine
denying deny r =
    unless_fault r.line (deny_fault deny)
    (record { line = r.line; subject = r.subject; object = r.object; allow = r.allow; deny = Some deny })

-- the fields of a good line have no fault
pub record HasGoodFields (r : RuleLine) : Type 0 where
  pub subject : label_fault r.subject.bytes.now ≡ None
  pub object : label_fault r.object.bytes.now ≡ None
  pub allow : bad_letter r.allow.bytes.now ≡ None

abbrev pub IsGood : Result RuleLine BadLine → Type 0
IsGood (Ok r) = HasGoodFields r
IsGood (Err b) = Unit {0}
