use Rattle.std.specs.Prelude.{ℕ, ◌+◌, ◌-◌, ◌*◌, Bool, false, ◌&&◌, ◌||◌, not, ◌==◌, if◌then◌else◌, List, [], ◌∷◌, Option, Some, None, codes, length, drop, slice_index_or, nat_lt, nat_le}
use Rattle.std.specs.List.{list_all, list_any}
use Rattle.std.specs.Map.{lookup}
use Rattle.std.specs.Str.{bytes_eq}
use Rattle.smack_base.specs.declared.cap.Cap.{Cap}
use Rattle.smack_base.specs.Paths.{is_slash, is_name_byte}
use Rattle.text_spec.specs.Texts.{Placed}
use Rattle.world_spec.specs.declared.tasks.TraceWay.{TraceWay}

abbrev pub is_digit : ℕ → Bool
is_digit b = nat_le 48 b && nat_le b 57

-- the number that these digits make behind the digits of n
abbrev pub value_from : ℕ → List ℕ → ℕ
value_from n [] = n
value_from n (b ∷ bs) = value_from (n * 10 + (b - 48)) bs

abbrev pub has_zero_in_front : List ℕ → Bool
has_zero_in_front [] = false
has_zero_in_front (b ∷ []) = false
has_zero_in_front (b ∷ c ∷ cs) = b == 48

abbrev pub is_decimal : List ℕ → Bool
is_decimal [] = false
is_decimal (b ∷ bs) = list_all is_digit (b ∷ bs) && not (has_zero_in_front (b ∷ bs))

-- a decimal number below 2 ^ 32, without a zero in front unless it is 0 itself
abbrev pub number_of : List ℕ → Option ℕ
number_of word = if is_decimal word && nat_lt (value_from 0 word) 4294967296 then Some (value_from 0 word) else None

-- the number of a signal, from 1 to 31
abbrev pub if_signal : Option ℕ → Option ℕ
if_signal None = None
if_signal (Some n) = if nat_le 1 n && nat_le n 31 then Some n else None

abbrev pub signal_of : List ℕ → Option ℕ
signal_of word = if_signal (number_of word)

-- the capabilities by name
abbrev pub capabilities : List (List ℕ × Cap)
capabilities =
    (codes "mac-admin", Cap.MacAdmin)
    ∷ (codes "mac-override", Cap.MacOverride)
    ∷ (codes "sys-ptrace", Cap.SysPtrace)
    ∷ []

abbrev pub cap_of : List ℕ → Option Cap
cap_of name = lookup (bytes_eq name) capabilities

-- the ways of tracing by name
abbrev pub trace_ways : List (List ℕ × TraceWay)
trace_ways = (codes "read", TraceWay.Read) ∷ (codes "attach", TraceWay.Attach) ∷ []

abbrev pub trace_way_of : List ℕ → Option TraceWay
trace_way_of name = lookup (bytes_eq name) trace_ways

-- a letter, a digit or an underscore
abbrev pub is_task_byte : ℕ → Bool
is_task_byte b = is_digit b || (nat_le 65 b && nat_le b 90) || (nat_le 97 b && nat_le b 122) || (b == 95)

-- a name of a task: 1 to 16 of these
abbrev pub is_task_name : List ℕ → Bool
is_task_name word = nat_le 1 (length word) && nat_le (length word) 16 && list_all is_task_byte word

-- a path of more than one name: it has a slash behind the first byte; the only directory so far is the root
abbrev pub is_deep : List ℕ → Bool
is_deep word = list_any is_slash (drop 1 word)

-- a name of a file: 1 to 32 bytes from ! to ~
abbrev pub is_file_name : List ℕ → Bool
is_file_name word = nat_le 1 (length word) && nat_le (length word) 32 && list_all is_name_byte word

abbrev pub is_one_of : List (List ℕ) → List ℕ → Bool
is_one_of names name = list_any (bytes_eq name) names

-- the files that scripts will have and do not have yet
abbrev pub unbuilt_files : List (List ℕ)
unbuilt_files = codes "unconfined" ∷ []

abbrev pub absent : Placed
absent = record { at = 0; bytes = [] }

-- the word behind so many others; empty where there is none
abbrev pub word_at : ℕ → List Placed → Placed
word_at k words = slice_index_or words k absent
