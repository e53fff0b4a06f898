use Rattle.std.specs.Prelude.{ℕ, ◌==◌, not, if◌then◌else◌, List, [], ◌∷◌, Option, Some, None, codes, take, drop}
use Rattle.std.specs.List.{position_or_len}
use Rattle.std.specs.Option.{option_map, option_and_then}
use Rattle.std.specs.Str.{bytes_eq}
use Rattle.smack_base.specs.Paths.{is_name_byte}
use Rattle.log_spec.specs.Words.{word, feed}
use Rattle.log_spec.specs.Audits.{pair}
use Rattle.audit_line.specs.declared.values.Cut.{Cut}
use Rattle.audit_line.specs.declared.values.Values.{Values}

-- what follows a front, where a text begins with it
abbrev pub rest_behind : List ℕ → List ℕ → Option (List ℕ)
rest_behind [] text = Some text
rest_behind (f ∷ fs) [] = None
rest_behind (f ∷ fs) (b ∷ bs) = if b == f then rest_behind fs bs else None

-- how many bytes from ! to ~ stand in front
abbrev pub value_len : List ℕ → ℕ
value_len text = position_or_len (λ b. not (is_name_byte b)) text

-- a value, and what follows it
pub record Parted : Type 0 where
  pub value : List ℕ
  pub rest : List ℕ

-- a text as the value that stands in front, and what follows it
abbrev pub parted : List ℕ → Parted
parted text = record { value = take (value_len text) text; rest = drop (value_len text) text }

-- the value behind a front, where a text begins with it
abbrev pub cut_value : List ℕ → List ℕ → Option Parted
cut_value front text = option_map parted (rest_behind front text)

-- what stands before the value of this key: its pair, with no value
abbrev pub front_of : List ℕ → List ℕ
front_of key = word (pair key [])

-- the values of these keys, where a text has their pairs, one behind the other, and a line feed last
abbrev pub values_at : List (List ℕ) → List ℕ → Option (List (List ℕ))
values_at [] text = if bytes_eq text feed then Some [] else None
values_at (key ∷ keys) text =
    option_and_then (λ c. option_map (λ values. c.value ∷ values) (values_at keys c.rest)) (cut_value (front_of key) text)

-- the keys of a line, in its order
abbrev pub line_keys : List (List ℕ)
line_keys =
    codes "action" ∷ codes "fn" ∷ codes "subject" ∷ codes "object" ∷ codes "requested" ∷ codes "case" ∷ []

-- the values of a line, which begins with its first word
abbrev pub values_of_line : List ℕ → Option (List (List ℕ))
values_of_line line = option_and_then (values_at line_keys) (rest_behind (codes "a") line)

-- what the code has cut off, as bytes
abbrev pub seen_cut : Cut → Parted
seen_cut c = record { value = c.value.now; rest = c.rest.now }

-- the values that the code has read, as bytes
abbrev pub seen_values : Values → List (List ℕ)
seen_values v =
    v.action.now ∷ v.verb.now ∷ v.subject.now ∷ v.object.now ∷ v.modes.now ∷ v.case.now ∷ []
