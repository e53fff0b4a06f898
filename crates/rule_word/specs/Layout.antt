use Rattle.std.specs.Prelude.{ℕ, ◌+◌, ◌*◌, ◌^◌, ◌<◌, ◌≤◌, Bool, if◌then◌else◌, List, [], ◌∷◌}
use Rattle.smack_base.specs.declared.modes.Modes.{Modes}
use Rattle.smack_base.specs.Modes.{flags_of}
use Rattle.smack_base.specs.declared.ids.LabelId.{LabelId}
use Rattle.smack_base.specs.declared.rule_op.RuleOp.{RuleOp}

-- a flag that counts n where it is set
abbrev pub worth : Bool → ℕ → ℕ
worth flag n = if flag then n else 0

-- flags as a number, the first as its lowest bit
abbrev pub flags_number : List Bool → ℕ
flags_number [] = 0
flags_number (flag ∷ flags) = worth flag 1 + 2 * flags_number flags

-- a set of modes as a number below 64: the bits 1, 2, 4 .. are those of the letters r, w, x ..
abbrev pub modes_number : Modes → ℕ
modes_number m = flags_number (flags_of m)

-- the word of a write, by its fields from the highest bit: tag 4 bits, first 16, second 16, allow 8, deny 8; the last
-- 12 bits are 0
abbrev pub packed_word : ℕ → ℕ → ℕ → ℕ → ℕ → ℕ
packed_word tag first second allow deny =
    tag * 2 ^ 60 + first * 2 ^ 44 + second * 2 ^ 28 + allow * 2 ^ 20 + deny * 2 ^ 12

-- each kind of write has a tag; a field that it does not use is 0
abbrev pub op_word : RuleOp → ℕ
op_word (RuleOp.Set s o m) = packed_word 1 s.0 o.0 (modes_number m) 0
op_word (RuleOp.Change s o allow deny) = packed_word 2 s.0 o.0 (modes_number allow) (modes_number deny)
op_word (RuleOp.Revoke s) = packed_word 3 s.0 0 0 0
op_word RuleOp.OnlyClear = packed_word 4 0 0 0 0
op_word (RuleOp.OnlyAdd l) = packed_word 5 l.0 0 0 0
op_word (RuleOp.Ambient l) = packed_word 6 l.0 0 0 0
op_word (RuleOp.Ptrace n) = packed_word 7 0 0 n 0
op_word (RuleOp.Logging n) = packed_word 8 0 0 n 0

-- a label id is at most 65,534
abbrev pub IsId : LabelId → Type 0
IsId l = l.0 ≤ 65534

-- the writes that have a word: those of ids, of ptrace policies 0 to 2 and of logging modes 0 to 3
abbrev pub IsPackable : RuleOp → Type 0
IsPackable (RuleOp.Set s o m) = IsId s × IsId o
IsPackable (RuleOp.Change s o allow deny) = IsId s × IsId o
IsPackable (RuleOp.Revoke s) = IsId s
IsPackable RuleOp.OnlyClear = Unit {0}
IsPackable (RuleOp.OnlyAdd l) = IsId l
IsPackable (RuleOp.Ambient l) = IsId l
IsPackable (RuleOp.Ptrace n) = n ≤ 2
IsPackable (RuleOp.Logging n) = n ≤ 3

-- the word of a head, by its fields from the highest bit: 15 in 4 bits, task 12, seq 20, len 16; the last 12 bits are 0
abbrev pub head_word : ℕ → ℕ → ℕ → ℕ
head_word task seq len = 15 * 2 ^ 60 + task * 2 ^ 48 + seq * 2 ^ 28 + len * 2 ^ 12

-- the numbers that have room in a head
abbrev pub IsHead : ℕ → ℕ → ℕ → Type 0
IsHead task seq len = (task < 4096) × (seq < 1048576) × (len < 65536)
