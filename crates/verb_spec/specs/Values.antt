use Rattle.std.specs.Prelude.{ℕ, if◌then◌else◌, List, [], ◌∷◌, ◌++◌, Option, Some, None, codes}
use Rattle.std.specs.List.{flat_map}
use Rattle.std.specs.Option.{option_map}
use Rattle.std.specs.Result.{result_ok}
use Rattle.smack_base.specs.declared.cap.Cap.{Cap}
use Rattle.smack_base.specs.declared.ids.Pid.{Pid}
use Rattle.smack_base.specs.declared.modes.Modes.{Modes}
use Rattle.smack_base.specs.Modes.{modes_of, is_modes, letters_of}
use Rattle.smack_base.specs.Paths.{path_of}
use Rattle.text_spec.specs.Texts.{Placed}
use Rattle.text_spec.specs.Names.{place_of, has_name, id_of}
use Rattle.log_spec.specs.Numerals.{numeral}
use Rattle.log_spec.specs.Shown.{Shown, Plain, LabelAt, NameOf}
use Rattle.world_spec.specs.declared.tasks.TraceWay.{TraceWay}
use Rattle.verb_spec.specs.declared.WordKind.{WordKind}
use Rattle.verb_spec.specs.declared.Value.{Value}
use Rattle.verb_spec.specs.Words.{number_of, signal_of, cap_of, trace_way_of}

-- the path that a word is, where it is one
abbrev pub path_in : List ℕ → Option (List (List ℕ))
path_in word = result_ok (path_of word)

-- the pid of the task that a word names, where it has a name
abbrev pub pid_in : List (List ℕ) → List ℕ → Option Pid
pid_in names word = if has_name names word then Some (record { 0 = place_of names word }) else None

-- the modes that a word is, where it has no bad letter
abbrev pub modes_in : List ℕ → Option Modes
modes_in word = if is_modes word then Some (modes_of word) else None

-- what a word of a kind is read as, by the labels and the names of the tasks; a file and its lines are no values
abbrev pub value_in : List (List ℕ) → List (List ℕ) → WordKind → List ℕ → Option Value
value_in labels names WordKind.Label word = option_map (λ l. Value.Label l) (id_of labels word)
value_in labels names WordKind.Modes word = option_map (λ m. Value.Modes m) (modes_in word)
value_in labels names WordKind.File word = None
value_in labels names WordKind.Lines word = None
value_in labels names WordKind.Number word = option_map (λ n. Value.Number n) (number_of word)
value_in labels names WordKind.Path word = option_map (λ path. Value.Path path) (path_in word)
value_in labels names WordKind.Capability word = option_map (λ cap. Value.Capability cap) (cap_of word)
value_in labels names WordKind.NewTask word = option_map (λ pid. Value.Task pid) (pid_in names word)
value_in labels names WordKind.KnownTask word = option_map (λ pid. Value.Task pid) (pid_in names word)
value_in labels names WordKind.Child word = option_map (λ pid. Value.Task pid) (pid_in names word)
value_in labels names WordKind.Signal word = option_map (λ sig. Value.Signal sig) (signal_of word)
value_in labels names WordKind.TraceWay word = option_map (λ way. Value.TraceWay way) (trace_way_of word)

abbrev pub with_value : Option Value → Option (List Value) → Option (List Value)
with_value (Some v) (Some vs) = Some (v ∷ vs)
with_value v vs = None

-- what words of these kinds are read as, where each is of its kind and known
abbrev pub values_behind : List (List ℕ) → List (List ℕ) → List WordKind → List Placed → Option (List Value)
values_behind labels names [] ws = Some []
values_behind labels names (kind ∷ kinds) [] = None
values_behind labels names (kind ∷ kinds) (w ∷ ws) =
    with_value (value_in labels names kind w.bytes) (values_behind labels names kinds ws)

-- a path: each of its names behind a slash, and the root as one slash
abbrev pub path_text : List (List ℕ) → List ℕ
path_text [] = codes "/"
path_text (n ∷ ns) = flat_map (λ name. codes "/" ++ name) (n ∷ ns)

-- the name of a capability
abbrev pub cap_text : Cap → List ℕ
cap_text Cap.MacAdmin = codes "mac-admin"
cap_text Cap.MacOverride = codes "mac-override"
cap_text Cap.SysPtrace = codes "sys-ptrace"

-- the name of a way of tracing
abbrev pub trace_way_text : TraceWay → List ℕ
trace_way_text TraceWay.Read = codes "read"
trace_way_text TraceWay.Attach = codes "attach"

-- the word that shows a value
abbrev pub value_shown : Value → Shown
value_shown (Value.Label l) = LabelAt l
value_shown (Value.Modes m) = Plain (letters_of m)
value_shown (Value.Number n) = Plain (numeral n)
value_shown (Value.Path path) = Plain (path_text path)
value_shown (Value.Capability cap) = Plain (cap_text cap)
value_shown (Value.Task pid) = NameOf pid
value_shown (Value.Signal sig) = Plain (numeral sig)
value_shown (Value.TraceWay way) = Plain (trace_way_text way)

-- a call as it is told: the name of its verb, and the values behind it
pub record Spoken : Type 0 where
  pub name : List ℕ
  pub values : List Value

abbrev pub says : List ℕ → List Value → Spoken
says name values = record { name = name; values = values }
