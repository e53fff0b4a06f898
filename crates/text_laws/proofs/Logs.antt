use Rattle.std.proofs.Common.{◌≡◌, ℕ, true, List, [], ◌∷◌}
use Rattle.std.specs.List.{AllByRecursion}
use Rattle.rules_spec.specs.declared.Verdict.{Verdict}
use Rattle.world_spec.specs.declared.Entry.{Entry}
use Rattle.log_spec.specs.declared.Action.{Action}
use Rattle.log_spec.specs.Audits.{is_word, IsAudited, audited}
use Rattle.verb_spec.specs.Verbs.{call_verb}
use Rattle.text_spec.specs.Names.{IsLabelTable}
use Rattle.replay_spec.specs.Plain.{IsNameTable, IsPlainVerdict, IsPlainEntry}
use Rattle.replay_spec.specs.Laws.{HasReadLog, LogIsRead}
use Rattle.text_laws.proofs.Told.{name_is_label}
use Rattle.text_laws.proofs.Calls.{plain_is_told}

module _ (labels names : List (List ℕ)) (table : IsLabelTable labels) (tasks : IsNameTable names) where
  checks_are_read : (verb : List ℕ) (action : Action) (checks : List Verdict) → is_word verb ≡ true → AllByRecursion (IsPlainVerdict labels) checks
      → AllByRecursion (λ v. IsAudited (audited labels verb v action)) checks
  checks_are_read verb action [] word plain = tt
  checks_are_read verb action (v ∷ vs) word plain =
      let first : IsAudited (audited labels verb v action) = record {
        verb = word;
        subject = name_is_label labels table v.subject plain.0.subject;
        object = name_is_label labels table v.object plain.0.object;
        case = plain.0.case;
      } in
      (first, checks_are_read verb action vs word plain.1)

  entries_are_read : (entries : List Entry) → AllByRecursion (IsPlainEntry labels names) entries → AllByRecursion (HasReadLog labels) entries
  entries_are_read [] plain = tt
  entries_are_read (e ∷ es) plain = (
    (λ action. checks_are_read (call_verb e.call) action e.checks (plain_is_told labels names table tasks e.call plain.0.call).verb plain.0.checks),
    entries_are_read es plain.1,
  )

-- the lines of the system's log in a plain record can all be read back
pub log_is_read : LogIsRead
log_is_read r plain = entries_are_read r.labels r.names plain.labels plain.names r.history plain.history
