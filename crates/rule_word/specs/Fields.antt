use Rattle.std.specs.Prelude.{ℕ, zero, suc, ◌/◌, ◌%◌, ◌^◌, ◌==◌, Bool, if◌then◌else◌, List, [], ◌∷◌, Option, Some, None, length}
use Rattle.smack_base.specs.declared.modes.Modes.{Modes}
use Rattle.smack_base.specs.Modes.{mode_letters, modes_by}
use Rattle.smack_base.specs.declared.ids.LabelId.{LabelId}
use Rattle.smack_base.specs.declared.rule_op.RuleOp.{RuleOp}

-- the fields of a word
abbrev pub tag_in : ℕ → ℕ
tag_in word = word / 2 ^ 60

abbrev pub first_in : ℕ → ℕ
first_in word = word / 2 ^ 44 % 65536

abbrev pub second_in : ℕ → ℕ
second_in word = word / 2 ^ 28 % 65536

abbrev pub allow_in : ℕ → ℕ
allow_in word = word / 2 ^ 20 % 256

abbrev pub deny_in : ℕ → ℕ
deny_in word = word / 2 ^ 12 % 256

-- the lowest bits of a number, so many, as flags
abbrev pub flags_in : ℕ → ℕ → List Bool
flags_in zero n = []
flags_in (suc k) n = (n % 2 == 1) ∷ flags_in k (n / 2)

-- the modes of a number, whatever stands above its six lowest bits
abbrev pub modes_of_number : ℕ → Modes
modes_of_number n = modes_by (flags_in (length mode_letters) n)

abbrev pub label_of_number : ℕ → LabelId
label_of_number n = record { 0 = n }

-- the write that fields say, where their tag is that of one
abbrev pub op_of_fields : ℕ → ℕ → ℕ → ℕ → ℕ → Option RuleOp
op_of_fields tag first second allow deny =
    if tag == 1 then Some (RuleOp.Set (label_of_number first) (label_of_number second) (modes_of_number allow))
    else (if tag == 2 then Some (RuleOp.Change (label_of_number first) (label_of_number second) (modes_of_number allow) (modes_of_number deny))
    else (if tag == 3 then Some (RuleOp.Revoke (label_of_number first))
    else (if tag == 4 then Some RuleOp.OnlyClear
    else (if tag == 5 then Some (RuleOp.OnlyAdd (label_of_number first))
    else (if tag == 6 then Some (RuleOp.Ambient (label_of_number first))
    else (if tag == 7 then Some (RuleOp.Ptrace allow)
    else (if tag == 8 then Some (RuleOp.Logging allow) else None)))))))

-- what the fields of a word say, whether or not it is the word of a write
abbrev pub op_in : ℕ → Option RuleOp
op_in word = op_of_fields (tag_in word) (first_in word) (second_in word) (allow_in word) (deny_in word)

-- the fields of a head
abbrev pub task_in : ℕ → ℕ
task_in word = word / 2 ^ 48 % 4096

abbrev pub seq_in : ℕ → ℕ
seq_in word = word / 2 ^ 28 % 1048576

abbrev pub len_in : ℕ → ℕ
len_in word = word / 2 ^ 12 % 65536
