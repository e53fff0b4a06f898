use Rattle.std.specs.Prelude.{◌≡◌, List, Result, Ok, Err}
use Rattle.smack_base.specs.declared.rule_op.RuleOp.{RuleOp}
use Rattle.text_spec.specs.declared.BadLine.{BadLine}
use Rattle.file_spec.specs.Writes.{NamedWrite}
use Rattle.file_spec.specs.declared.Refusal.{Refusal}
use Rattle.file_spec.specs.declared.Compiled.{Compiled}
use Rattle.smackfs.specs.declared.compiling.TextFault.{TextFault}
use Rattle.smackfs.specs.declared.compiling.TextFault.TheVariants as TextFault
use Rattle.smackfs.specs.declared.text_writes.WritesFault.{WritesFault}
use Rattle.smackfs.specs.declared.text_writes.WritesFault.TheVariants as WritesFault

-- why there is no answer; want of memory is free
abbrev pub Faults : {A : Type 0} → TextFault → Result A Refusal → Type 0
Faults (TextFault.Refused refusal) is = is ≡ Err refusal
Faults TextFault.Memory is = Unit {0}

-- the writes of a text are these, or it is refused
abbrev pub Gives : Result (List RuleOp) TextFault → Result (List RuleOp) Refusal → Type 0
Gives (Ok ops) is = is ≡ Ok ops
Gives (Err fault) is = Faults fault is

-- what a text becomes is this, or it is refused
abbrev pub Compiles : Result Compiled TextFault → Result Compiled Refusal → Type 0
Compiles (Ok it) is = is ≡ Ok it
Compiles (Err fault) is = Faults fault is

-- why the writes of a text were not read: it has this bad line; want of memory is free
abbrev pub IsBadText : WritesFault → Result (List NamedWrite) BadLine → Type 0
IsBadText (WritesFault.Bad b) whole = whole ≡ Err b
IsBadText WritesFault.Memory whole = Unit {0}
