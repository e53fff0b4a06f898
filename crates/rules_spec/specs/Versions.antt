use Rattle.std.specs.Prelude.{ℕ, Bool, ◌&&◌, ◌==◌, if◌then◌else◌, List, [], ◌∷◌, ◌++◌, Option, Some, None, fold}
use Rattle.std.specs.List.{flat_map}
use Rattle.smack_base.specs.Modes.{no_modes, union, without}
use Rattle.smack_base.specs.declared.modes.Modes.{Modes}
use Rattle.smack_base.specs.declared.ids.LabelId.{LabelId}
use Rattle.smack_base.specs.declared.rule_op.RuleOp.{RuleOp}
use Rattle.smack_base.specs.declared.rule_op.RuleOp.TheVariants as RuleOp
use Rattle.rules_spec.specs.declared.Batch.{Batch}

-- the predefined labels that the rules name
abbrev pub floor : LabelId
floor = record { 0 = 0 }

abbrev pub hat : LabelId
hat = record { 0 = 1 }

abbrev pub star : LabelId
star = record { 0 = 2 }

abbrev pub same_label : LabelId → LabelId → Bool
same_label l l' = l.0 == l'.0

abbrev pub same_pair : LabelId → LabelId → LabelId → LabelId → Bool
same_pair s o s' o' = same_label s s' && same_label o o'

-- the writes of a version as one list, the oldest first; version n of a journal is its first n batches
abbrev pub writes : List Batch → List RuleOp
writes version = flat_map (λ b. b.ops) version

-- the modes of a rule, and none where there is no rule
abbrev pub present : Option Modes → Modes
present None = no_modes
present (Some m) = m

-- a rule that is revoked stays, without modes; where there is none, there is none
abbrev pub revoked : Option Modes → Option Modes
revoked None = None
revoked (Some m) = Some no_modes

-- the rights of the pair (s, o) after one more write, from those before it
abbrev pub after_write : LabelId → LabelId → Option Modes → RuleOp → Option Modes
after_write s o before (RuleOp.Set s' o' m) = if same_pair s' o' s o then Some m else before
after_write s o before (RuleOp.Change s' o' allow deny) =
    if same_pair s' o' s o then Some (without (union (present before) allow) deny) else before
after_write s o before (RuleOp.Revoke s') = if same_label s' s then revoked before else before
after_write s o before RuleOp.OnlyClear = before
after_write s o before (RuleOp.OnlyAdd l) = before
after_write s o before (RuleOp.Ambient l) = before
after_write s o before (RuleOp.Ptrace n) = before
after_write s o before (RuleOp.Logging n) = before

-- the rights of a pair in a version: None where there is no rule
abbrev pub rights : List Batch → LabelId → LabelId → Option Modes
rights version s o = fold (after_write s o) None (writes version)

-- the onlycap list after one more write
abbrev pub after_only : List LabelId → RuleOp → List LabelId
after_only list RuleOp.OnlyClear = []
after_only list (RuleOp.OnlyAdd l) = list ++ l ∷ []
after_only list (RuleOp.Set s o m) = list
after_only list (RuleOp.Change s o allow deny) = list
after_only list (RuleOp.Revoke s) = list
after_only list (RuleOp.Ambient l) = list
after_only list (RuleOp.Ptrace n) = list
after_only list (RuleOp.Logging n) = list

-- the onlycap list of a version: the labels added since it was last cleared
abbrev pub only : List Batch → List LabelId
only version = fold after_only [] (writes version)

abbrev pub after_ambient : LabelId → RuleOp → LabelId
after_ambient before (RuleOp.Ambient l) = l
after_ambient before (RuleOp.Set s o m) = before
after_ambient before (RuleOp.Change s o allow deny) = before
after_ambient before (RuleOp.Revoke s) = before
after_ambient before RuleOp.OnlyClear = before
after_ambient before (RuleOp.OnlyAdd l) = before
after_ambient before (RuleOp.Ptrace n) = before
after_ambient before (RuleOp.Logging n) = before

-- the ambient label of a version
abbrev pub ambient : List Batch → LabelId
ambient version = fold after_ambient floor (writes version)

abbrev pub after_ptrace : ℕ → RuleOp → ℕ
after_ptrace before (RuleOp.Ptrace n) = n
after_ptrace before (RuleOp.Set s o m) = before
after_ptrace before (RuleOp.Change s o allow deny) = before
after_ptrace before (RuleOp.Revoke s) = before
after_ptrace before RuleOp.OnlyClear = before
after_ptrace before (RuleOp.OnlyAdd l) = before
after_ptrace before (RuleOp.Ambient l) = before
after_ptrace before (RuleOp.Logging n) = before

-- the ptrace policy of a version
abbrev pub ptrace : List Batch → ℕ
ptrace version = fold after_ptrace 0 (writes version)

abbrev pub after_logging : ℕ → RuleOp → ℕ
after_logging before (RuleOp.Logging n) = n
after_logging before (RuleOp.Set s o m) = before
after_logging before (RuleOp.Change s o allow deny) = before
after_logging before (RuleOp.Revoke s) = before
after_logging before RuleOp.OnlyClear = before
after_logging before (RuleOp.OnlyAdd l) = before
after_logging before (RuleOp.Ambient l) = before
after_logging before (RuleOp.Ptrace n) = before

-- the logging mode of a version
abbrev pub logging : List Batch → ℕ
logging version = fold after_logging 1 (writes version)
