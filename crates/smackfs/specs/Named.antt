use Rattle.std.specs.Prelude.{◌≡◌, List, [], ◌∷◌, true, Option, Some, None, Result, Ok, Err}
use Rattle.std.specs.List.{list_all}
use Rattle.smack_base.specs.Labels.{is_label}
use Rattle.smack_base.specs.declared.ids.LabelId.{LabelId}
use Rattle.text_spec.specs.declared.BadLine.{BadLine}
use Rattle.rule_text.specs.Parts.{placed}
use Rattle.file_spec.specs.Writes.{NamedWrite, NamedSet, NamedChange, NamedRevoke, NamedClear, NamedAdd, NamedAmbient, NamedPtrace, NamedLogging, labels_named}
use Rattle.smackfs.specs.declared.named_op.NamedOp.{NamedOp}
use Rattle.smackfs.specs.declared.named_op.NamedOp.TheVariants as NamedOp

-- the write that a text spells
abbrev pub named_write : NamedOp → NamedWrite
named_write (NamedOp.Set s o m) = NamedSet (placed s) (placed o) m
named_write (NamedOp.Change s o allow deny) = NamedChange (placed s) (placed o) allow deny
named_write (NamedOp.Revoke s) = NamedRevoke (placed s)
named_write NamedOp.OnlyClear = NamedClear
named_write (NamedOp.OnlyAdd l) = NamedAdd (placed l)
named_write (NamedOp.Ambient l) = NamedAmbient (placed l)
named_write (NamedOp.Ptrace n) = NamedPtrace n
named_write (NamedOp.Logging n) = NamedLogging n

-- an answer, with its write as a text spells it
abbrev pub seen_op : Result NamedOp BadLine → Result NamedWrite BadLine
seen_op (Ok op) = Ok (named_write op)
seen_op (Err bad) = Err bad

-- what stands in a write for labels is labels
abbrev pub HasGoodNames : NamedWrite → Type 0
HasGoodNames w = list_all is_label (labels_named w) ≡ true

abbrev pub IsGoodOp : Result NamedOp BadLine → Type 0
IsGoodOp (Ok op) = HasGoodNames (named_write op)
IsGoodOp (Err bad) = Unit {0}

-- two ids, where both are there
abbrev pub both : Option LabelId → Option LabelId → Option (LabelId × LabelId)
both (Some s) (Some o) = Some (s, o)
both (Some s) None = None
both None o = None

-- the first answer was given, and these are left; or there was none
abbrev pub IsNextAnswer : List (Result NamedWrite BadLine) → List (Result NamedWrite BadLine) → Option (Result NamedOp BadLine) → Type 0
IsNextAnswer old new None = (old ≡ []) × (new ≡ [])
IsNextAnswer old new (Some answer) = old ≡ seen_op answer ∷ new
