use Rattle.std.specs.Prelude.{ℕ, List, [], ◌∷◌}
use Rattle.smack_base.specs.Modes.{letters_of}
use Rattle.log_spec.specs.Numerals.{numeral}
use Rattle.log_spec.specs.Audits.{Audited, outcome, action_text}
use Rattle.audit_line.specs.declared.parts.AuditParts.{AuditParts}

-- what the parts of a line tell
abbrev pub parts_seen : AuditParts → Audited
parts_seen p = record {
  action = outcome p.granted;
  verb = p.verb.now;
  subject = p.subject.now;
  object = p.object.now;
  modes = p.modes;
  case = p.case;
}

-- the values of a line that tells this
abbrev pub texts_of : Audited → List (List ℕ)
texts_of a = action_text a.action ∷ a.verb ∷ a.subject ∷ a.object ∷ letters_of a.modes ∷ numeral a.case ∷ []
