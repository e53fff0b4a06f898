use Rattle.std.proofs.Common.{◌≡◌, ℕ, true, List, Some, option_map, refl, ap}
use Rattle.smack_base.specs.declared.cap.Cap.{Cap}
use Rattle.text_spec.specs.Names.{IsLabelTable}
use Rattle.log_spec.specs.Shown.{spell}
use Rattle.world_spec.specs.declared.tasks.TraceWay.{TraceWay}
use Rattle.verb_spec.specs.declared.WordKind.{WordKind}
use Rattle.verb_spec.specs.declared.Value.{Value}
use Rattle.verb_spec.specs.Words.{cap_of, trace_way_of}
use Rattle.verb_spec.specs.Values.{cap_text, trace_way_text, value_in, value_shown}
use Rattle.verb_spec.proofs.Fitting.{fits, value_fits}
use Rattle.replay_spec.specs.Plain.{IsNameTable}
use Rattle.replay_spec.proofs.ReadValues.{IsReadValue, value_is_read}
use Rattle.text_laws.proofs.Clean.{is_clean}
use Rattle.text_laws.proofs.Numbers.{numeral_clean, number_again, signal_again}
use Rattle.text_laws.proofs.Letters.{modes_again, modes_clean}
use Rattle.text_laws.proofs.Told.{label_again, task_again, name_clean, named_clean}
use Rattle.text_laws.proofs.Paths.{path_again, path_clean}

cap_again : (cap : Cap) → cap_of (cap_text cap) ≡ Some cap
cap_again Cap.MacAdmin = refl
cap_again Cap.MacOverride = refl
cap_again Cap.SysPtrace = refl

cap_clean : (cap : Cap) → is_clean (cap_text cap) ≡ true
cap_clean Cap.MacAdmin = refl
cap_clean Cap.MacOverride = refl
cap_clean Cap.SysPtrace = refl

way_again : (way : TraceWay) → trace_way_of (trace_way_text way) ≡ Some way
way_again TraceWay.Read = refl
way_again TraceWay.Attach = refl

way_clean : (way : TraceWay) → is_clean (trace_way_text way) ≡ true
way_clean TraceWay.Read = refl
way_clean TraceWay.Attach = refl

module _ (labels names : List (List ℕ)) (table : IsLabelTable labels) (tasks : IsNameTable names) where
  -- a row for each kind: the word that shows a value that fits is read as it
  fit_again : (kind : WordKind) (value : Value) → fits kind value ≡ true → IsReadValue labels names value
      → value_in labels names kind (spell labels names (value_shown value)) ≡ Some value
  fit_again WordKind.Label (Value.Label l) fit read = ap (option_map (λ x. Value.Label x)) (label_again labels table l read)
  fit_again WordKind.Modes (Value.Modes m) fit read = ap (option_map (λ x. Value.Modes x)) (modes_again m)
  fit_again WordKind.Number (Value.Number n) fit read = ap (option_map (λ x. Value.Number x)) (number_again n read)
  fit_again WordKind.Path (Value.Path path) fit read = ap (option_map (λ x. Value.Path x)) (path_again path read)
  fit_again WordKind.Capability (Value.Capability cap) fit read = ap (option_map (λ x. Value.Capability x)) (cap_again cap)
  fit_again WordKind.NewTask (Value.Task pid) fit read = ap (option_map (λ x. Value.Task x)) (task_again names tasks pid read)
  fit_again WordKind.KnownTask (Value.Task pid) fit read = ap (option_map (λ x. Value.Task x)) (task_again names tasks pid read)
  fit_again WordKind.Child (Value.Task pid) fit read = ap (option_map (λ x. Value.Task x)) (task_again names tasks pid read)
  fit_again WordKind.Signal (Value.Signal sig) fit read = ap (option_map (λ x. Value.Signal x)) (signal_again sig read)
  fit_again WordKind.TraceWay (Value.TraceWay way) fit read = ap (option_map (λ x. Value.TraceWay x)) (way_again way)
  fit_again kind value fit read = absurd cc

  -- a value that a word of a kind is read as is read again from the word that shows it
  pub value_again : (kind : WordKind) (word : List ℕ) (value : Value) → value_in labels names kind word ≡ Some value
      → value_in labels names kind (spell labels names (value_shown value)) ≡ Some value
  value_again kind word value is =
      fit_again kind value (value_fits labels names kind word value is) (value_is_read labels names kind word value is)

  -- a row for each value: the word that shows it has no space and no line feed
  pub value_clean : (value : Value) → IsReadValue labels names value → is_clean (spell labels names (value_shown value)) ≡ true
  value_clean (Value.Label l) read = name_clean labels table l read
  value_clean (Value.Modes m) read = modes_clean m
  value_clean (Value.Number n) read = numeral_clean n
  value_clean (Value.Path path) read = path_clean path read
  value_clean (Value.Capability cap) read = cap_clean cap
  value_clean (Value.Task pid) read = named_clean names tasks pid read
  value_clean (Value.Signal sig) read = numeral_clean sig
  value_clean (Value.TraceWay way) read = way_clean way
