use Rattle.std.specs.Prelude.{◌≡◌, ◌<◌, ℕ, Bool, true, ◌||◌, ◌&&◌, ◌==◌, if◌then◌else◌, List, [], ◌∷◌, ◌++◌, Option, Some, None, length, codes, nat_le}
use Rattle.std.specs.List.{list_all}
use Rattle.smack_base.specs.declared.modes.Modes.{Modes}
use Rattle.smack_base.specs.Labels.{is_label}
use Rattle.smack_base.specs.Modes.{letters_of}
use Rattle.smack_base.specs.Paths.{is_name_byte}
use Rattle.rules_spec.specs.declared.Verdict.{Verdict}
use Rattle.rules_spec.specs.Rulings.{Ruling}
use Rattle.log_spec.specs.declared.Action.{Action}
use Rattle.log_spec.specs.Numerals.{numeral}
use Rattle.log_spec.specs.Words.{line, name_at}

-- whether a check is logged in a logging mode: a denied one in 1 and 3, a granted one in 2 and 3
abbrev pub is_selected : ℕ → Bool → Bool
is_selected mode allowed = if allowed then (mode == 2) || (mode == 3) else (mode == 1) || (mode == 3)

-- what came of a check
abbrev pub outcome : Bool → Action
outcome allowed = if allowed then Action.Granted else Action.Denied

abbrev pub selected_as : ℕ → Verdict → Option Action
selected_as mode v = if is_selected mode v.allowed then Some (outcome v.allowed) else None

-- what a check is logged as in a version of the rules, where it is logged: by the logging mode of the version
abbrev pub action_of : Ruling → Verdict → Option Action
action_of version v = selected_as version.logging v

-- What a line of the system's log tells of a check: what came of it, the verb of the call, subject, object and modes of
-- the question, and the case that decided it.
pub record Audited : Type 0 where
  pub action : Action
  pub verb : List ℕ
  pub subject : List ℕ
  pub object : List ℕ
  pub modes : Modes
  pub case : ℕ

abbrev pub action_text : Action → List ℕ
action_text Action.Granted = codes "granted"
action_text Action.Denied = codes "denied"

-- a key and its value, as the system's log has them
abbrev pub pair : List ℕ → List ℕ → List ℕ
pair key value = key ++ codes "=" ++ value

-- the line that tells this
abbrev pub audit_text : Audited → List ℕ
audit_text a =
    line (codes "a")
    (pair (codes "action") (action_text a.action) ∷ pair (codes "fn") a.verb ∷ pair (codes "subject") a.subject
    ∷ pair (codes "object") a.object ∷ pair (codes "requested") (letters_of a.modes) ∷ pair (codes "case") (numeral a.case) ∷ [])

-- a word: one or more bytes from ! to ~
abbrev pub is_word : List ℕ → Bool
is_word text = nat_le 1 (length text) && list_all is_name_byte text

-- what a line can tell: its verb is a word, subject and object are labels, and the case is a number of one byte
pub record IsAudited (a : Audited) : Type 0 where
  pub verb : is_word a.verb ≡ true
  pub subject : is_label a.subject ≡ true
  pub object : is_label a.object ≡ true
  pub case : a.case < 256

-- what is told of a check that a call of this verb asked
abbrev pub audited : List (List ℕ) → List ℕ → Verdict → Action → Audited
audited labels verb v action = record {
  action = action;
  verb = verb;
  subject = name_at labels v.subject;
  object = name_at labels v.object;
  modes = v.modes;
  case = v.case;
}

-- what the system's log says of a check
abbrev pub audit_line : List (List ℕ) → List ℕ → Verdict → Action → List ℕ
audit_line labels verb v action = audit_text (audited labels verb v action)
