use Rattle.std.proofs.Common.{◌≡◌, ℕ, Bool, true, false, ◌&&◌, List, [], ◌∷◌, Option, Some, None, refl, subst}
use Rattle.std.specs.Option.{option_map}
use Rattle.std.proofs.lemmas.Bool.{and_from}
use Rattle.text_spec.specs.Texts.{Placed}
use Rattle.text_spec.specs.Names.{id_of}
use Rattle.verb_spec.specs.declared.WordKind.{WordKind}
use Rattle.verb_spec.specs.declared.Value.{Value}
use Rattle.verb_spec.specs.Words.{number_of, signal_of, cap_of, trace_way_of}
use Rattle.verb_spec.specs.Values.{path_in, pid_in, modes_in, value_in, with_value, values_behind}

-- a value is one that a word of a kind is read as
abbrev pub fits : WordKind → Value → Bool
fits WordKind.Label (Value.Label l) = true
fits WordKind.Modes (Value.Modes m) = true
fits WordKind.Number (Value.Number n) = true
fits WordKind.Path (Value.Path path) = true
fits WordKind.Capability (Value.Capability cap) = true
fits WordKind.NewTask (Value.Task pid) = true
fits WordKind.KnownTask (Value.Task pid) = true
fits WordKind.Child (Value.Task pid) = true
fits WordKind.Signal (Value.Signal sig) = true
fits WordKind.TraceWay (Value.TraceWay way) = true
fits kind value = false

-- as many values as kinds, each of which fits
abbrev pub all_fit : List WordKind → List Value → Bool
all_fit [] [] = true
all_fit (kind ∷ kinds) (value ∷ values) = fits kind value && all_fit kinds values
all_fit kinds values = false

-- the words of a kind are read as values
abbrev pub is_value_kind : WordKind → Bool
is_value_kind WordKind.File = false
is_value_kind WordKind.Lines = false
is_value_kind kind = true

-- what is made of something that is there
pub mapped : {A B : Type 0} (a : Option A) (make : A → B) (b : B) → option_map make a ≡ Some b → (x : A) × (a ≡ Some x) × (make x ≡ b)
mapped None make b is = absurd cc
mapped (Some x) make b is = (x, refl, cc)

mapped_fits : {A : Type 0} (kind : WordKind) (a : Option A) (make : A → Value) (value : Value) → ((x : A) → fits kind (make x) ≡ true)
    → option_map make a ≡ Some value → fits kind value ≡ true
mapped_fits kind a make value each is = let parts = mapped a make value is in subst (λ v. fits kind v ≡ true) parts.2 (each parts.0)

-- a word is read as a value that fits its kind
pub value_fits : (labels names : List (List ℕ)) (kind : WordKind) (word : List ℕ) (value : Value) → value_in labels names kind word ≡ Some value
    → fits kind value ≡ true
value_fits labels names WordKind.Label word value is = mapped_fits WordKind.Label (id_of labels word) _ value (λ x. refl) is
value_fits labels names WordKind.Modes word value is = mapped_fits WordKind.Modes (modes_in word) _ value (λ x. refl) is
value_fits labels names WordKind.File word value is = absurd cc
value_fits labels names WordKind.Lines word value is = absurd cc
value_fits labels names WordKind.Number word value is = mapped_fits WordKind.Number (number_of word) _ value (λ x. refl) is
value_fits labels names WordKind.Path word value is = mapped_fits WordKind.Path (path_in word) _ value (λ x. refl) is
value_fits labels names WordKind.Capability word value is = mapped_fits WordKind.Capability (cap_of word) _ value (λ x. refl) is
value_fits labels names WordKind.NewTask word value is = mapped_fits WordKind.NewTask (pid_in names word) _ value (λ x. refl) is
value_fits labels names WordKind.KnownTask word value is = mapped_fits WordKind.KnownTask (pid_in names word) _ value (λ x. refl) is
value_fits labels names WordKind.Child word value is = mapped_fits WordKind.Child (pid_in names word) _ value (λ x. refl) is
value_fits labels names WordKind.Signal word value is = mapped_fits WordKind.Signal (signal_of word) _ value (λ x. refl) is
value_fits labels names WordKind.TraceWay word value is = mapped_fits WordKind.TraceWay (trace_way_of word) _ value (λ x. refl) is

-- a first value and those behind it
pub value_parts : (first : Option Value) (rest : Option (List Value)) (values : List Value) → with_value first rest ≡ Some values
    → (v : Value) × (vs : List Value) × (first ≡ Some v) × (rest ≡ Some vs) × (v ∷ vs ≡ values)
value_parts None rest values is = absurd cc
value_parts (Some v) None values is = absurd cc
value_parts (Some v) (Some vs) values is = (v, vs, refl, refl, cc)

pub values_fit : (labels names : List (List ℕ)) (kinds : List WordKind) (ws : List Placed) (values : List Value)
    → values_behind labels names kinds ws ≡ Some values → all_fit kinds values ≡ true
values_fit labels names [] ws values is = let none : [] ≡ values = cc in subst (λ vs. all_fit [] vs ≡ true) none refl
values_fit labels names (kind ∷ kinds) [] values is = absurd cc
values_fit labels names (kind ∷ kinds) (w ∷ ws) values is =
    let parts = value_parts (value_in labels names kind w.bytes) (values_behind labels names kinds ws) values is in
    subst (λ vs. all_fit (kind ∷ kinds) vs ≡ true) parts.4
    (and_from (fits kind parts.0) (all_fit kinds parts.1) (value_fits labels names kind w.bytes parts.0 parts.2) (values_fit labels names kinds ws parts.1 parts.3))
