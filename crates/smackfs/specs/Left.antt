use Rattle.std.specs.Prelude.{List, [], ◌∷◌, Some, None, Option, Result, Ok, if◌then◌else◌, map, IfSome}
use Rattle.text_spec.specs.declared.BadLine.{BadLine}
use Rattle.file_spec.specs.Writes.{NamedWrite, NamedRevoke, NamedClear, NamedAdd, on_good, set_write, change_write}
use Rattle.smackfs.specs.Named.{seen_op, IsGoodOp}
use Rattle.smackfs.specs.declared.named_op.NamedOp.{NamedOp}
use Rattle.smackfs.specs.declared.text_writes.ListWrites.{ListWrites}
use Rattle.smackfs.specs.declared.text_writes.Reader.{Reader}
use Rattle.smackfs.specs.declared.text_writes.Reader.TheVariants as Reader

-- one answer, where it was not given yet
abbrev pub one_left : Option (Result NamedOp BadLine) → List (Result NamedWrite BadLine)
one_left None = []
one_left (Some answer) = seen_op answer ∷ []

-- the onlycap list is cleared first, and then each label joins it
abbrev pub list_left : ListWrites → List (Result NamedWrite BadLine)
list_left list =
    if list.cleared then map (on_good NamedAdd) list.labels
    else Ok NamedClear ∷ map (on_good NamedAdd) list.labels

-- what a reader will still answer
abbrev pub left : Reader → List (Result NamedWrite BadLine)
left (Reader.Sets lines) = map (on_good set_write) lines
left (Reader.Changes lines) = map (on_good change_write) lines
left (Reader.Revokes lines) = map (on_good NamedRevoke) lines
left (Reader.Onlycap list) = list_left list
left (Reader.Single answer) = one_left answer

-- a single answer that is still to come has good names
abbrev pub IsGoodReader : Reader → Type 0
IsGoodReader (Reader.Sets lines) = Unit {0}
IsGoodReader (Reader.Changes lines) = Unit {0}
IsGoodReader (Reader.Revokes lines) = Unit {0}
IsGoodReader (Reader.Onlycap list) = Unit {0}
IsGoodReader (Reader.Single answer) = IfSome answer IsGoodOp
