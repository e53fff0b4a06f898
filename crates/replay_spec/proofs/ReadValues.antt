use Rattle.std.proofs.Common.{◌≡◌, ℕ, Bool, true, false, cond, length, List, [], ◌∷◌, Option, Some, None, option_map, refl, subst}
use Rattle.std.specs.List.{AllByRecursion}
use Rattle.std.proofs.lemmas.Bool.{ltb-true}
use Rattle.smack_base.specs.declared.ids.Pid.{Pid}
use Rattle.text_spec.specs.Texts.{Placed}
use Rattle.text_spec.specs.Names.{place_of, has_name, id_of}
use Rattle.verb_spec.specs.declared.WordKind.{WordKind}
use Rattle.verb_spec.specs.declared.Value.{Value}
use Rattle.verb_spec.specs.Words.{number_of, signal_of, cap_of, trace_way_of}
use Rattle.verb_spec.specs.Values.{path_in, pid_in, modes_in, value_in, values_behind}
use Rattle.verb_spec.proofs.Fitting.{mapped, value_parts}
use Rattle.replay_spec.specs.Plain.{HasId, HasPid}
use Rattle.replay_spec.proofs.KnownLabels.{known_id}

-- some word is read as this
abbrev pub IsReadBy : {A : Type 0} → (List ℕ → Option A) → A → Type 0
IsReadBy read a = (word : List ℕ) × (read word ≡ Some a)

-- What is known of a value that a word is read as: its label is known, its task has a name, or some word is read as it.
abbrev pub IsReadValue : List (List ℕ) → List (List ℕ) → Value → Type 0
IsReadValue labels names (Value.Label l) = HasId labels l
IsReadValue labels names (Value.Number n) = IsReadBy number_of n
IsReadValue labels names (Value.Path path) = IsReadBy path_in path
IsReadValue labels names (Value.Task pid) = HasPid names pid
IsReadValue labels names (Value.Signal sig) = IsReadBy signal_of sig
IsReadValue labels names value = Unit {0}

-- the pid of a word has a name
pub known_pid : (names : List (List ℕ)) (word : List ℕ) (pid : Pid) → pid_in names word ≡ Some pid → HasPid names pid
known_pid names word pid is = by (has_name names word) refl is
  where
    by : (has : Bool) → has_name names word ≡ has → cond has (Some (record { 0 = place_of names word })) None ≡ Some pid → HasPid names pid
    by true has is =
        let same : (record { 0 = place_of names word }) ≡ pid = cc in
        subst (HasPid names) same (ltb-true (place_of names word) (length names) has)
    by false has is = absurd cc

-- what is known of all that is mapped, where it is read from a word
by_word : {A : Type 0} (labels names : List (List ℕ)) (word : List ℕ) (read : List ℕ → Option A) (make : A → Value) (value : Value)
    → ((x : A) → read word ≡ Some x → IsReadValue labels names (make x)) → option_map make (read word) ≡ Some value
    → IsReadValue labels names value
by_word labels names word read make value each is =
    let parts = mapped (read word) make value is in subst (IsReadValue labels names) parts.2 (each parts.0 parts.1)

-- a row for each kind: what is known of a value that a word of it is read as
pub value_is_read : (labels names : List (List ℕ)) (kind : WordKind) (word : List ℕ) (value : Value) → value_in labels names kind word ≡ Some value
    → IsReadValue labels names value
value_is_read labels names WordKind.Label word value is = by_word labels names word (id_of labels) _ value (λ l found. known_id labels word l found) is
value_is_read labels names WordKind.Modes word value is = by_word labels names word modes_in _ value (λ m found. tt) is
value_is_read labels names WordKind.File word value is = absurd cc
value_is_read labels names WordKind.Lines word value is = absurd cc
value_is_read labels names WordKind.Number word value is = by_word labels names word number_of _ value (λ n found. (word, found)) is
value_is_read labels names WordKind.Path word value is = by_word labels names word path_in _ value (λ path found. (word, found)) is
value_is_read labels names WordKind.Capability word value is = by_word labels names word cap_of _ value (λ cap found. tt) is
value_is_read labels names WordKind.NewTask word value is = by_word labels names word (pid_in names) _ value (λ pid found. known_pid names word pid found) is
value_is_read labels names WordKind.KnownTask word value is = by_word labels names word (pid_in names) _ value (λ pid found. known_pid names word pid found) is
value_is_read labels names WordKind.Child word value is = by_word labels names word (pid_in names) _ value (λ pid found. known_pid names word pid found) is
value_is_read labels names WordKind.Signal word value is = by_word labels names word signal_of _ value (λ sig found. (word, found)) is
value_is_read labels names WordKind.TraceWay word value is = by_word labels names word trace_way_of _ value (λ way found. tt) is

pub values_are_read : (labels names : List (List ℕ)) (kinds : List WordKind) (ws : List Placed) (values : List Value)
    → values_behind labels names kinds ws ≡ Some values → AllByRecursion (IsReadValue labels names) values
values_are_read labels names [] ws values is =
    let none : [] ≡ values = cc in subst (AllByRecursion (IsReadValue labels names)) none tt
values_are_read labels names (kind ∷ kinds) [] values is = absurd cc
values_are_read labels names (kind ∷ kinds) (w ∷ ws) values is =
    let parts = value_parts (value_in labels names kind w.bytes) (values_behind labels names kinds ws) values is in
    subst (AllByRecursion (IsReadValue labels names)) parts.4
    (value_is_read labels names kind w.bytes parts.0 parts.2, values_are_read labels names kinds ws parts.1 parts.3)
