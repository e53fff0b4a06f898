use Rattle.std.specs.Prelude.{ℕ, Bool, true, false, List, Result, Ok, Err}
use Rattle.script_spec.specs.declared.ScriptFault.{ScriptFault}
use Rattle.script_spec.specs.declared.ScriptFault.TheVariants as ScriptFault
use Rattle.script_spec.specs.Grammar.{parse}
use Rattle.script_spec.specs.Lines.{ScriptLine}
use Rattle.script_spec.specs.declared.What.{What}
use Rattle.script_spec.specs.declared.What.TheVariants as What
use Rattle.smack_program.specs.declared.status.Status.{Status}
use Rattle.smack_program.specs.declared.status.Status.TheVariants as Status

-- the status of a script that was not read
abbrev pub status_of : ScriptFault → Status
status_of (ScriptFault.Malformed line cause) = Status.Malformed line cause
status_of (ScriptFault.TooLarge what) = Status.TooLarge what
status_of ScriptFault.Memory = Status.OutOfMemory

-- the status that is due to bytes: a script is done, and other bytes are refused for their fault
abbrev pub read_status : Result (List ScriptLine) ScriptFault → Status
read_status (Ok lines) = Status.Done
read_status (Err fault) = status_of fault

abbrev pub due_status : List ℕ → Status
due_status bytes = read_status (parse bytes)

-- the exit statuses
abbrev pub code_of : Status → ℕ
code_of Status.Done = 0
code_of Status.Usage = 2
code_of (Status.Malformed line cause) = 3
code_of Status.ReadFault = 4
code_of Status.WriteFault = 5
code_of Status.OutOfMemory = 6
code_of (Status.TooLarge what) = 7

-- whether a limit is one of the bytes read, and not of their number
abbrev pub is_within_input : What → Bool
is_within_input What.Bytes = false
is_within_input What.Lines = true
is_within_input What.Tasks = true
is_within_input What.Labels = true
is_within_input What.Text = true
is_within_input What.Rows = true

-- whether a status refuses the bytes read, all of them
abbrev pub is_refusal : Status → Bool
is_refusal Status.Done = false
is_refusal Status.Usage = false
is_refusal (Status.Malformed line cause) = true
is_refusal Status.ReadFault = false
is_refusal Status.WriteFault = false
is_refusal Status.OutOfMemory = false
is_refusal (Status.TooLarge what) = is_within_input what

-- whether something may have been written
abbrev pub may_have_written : Status → Bool
may_have_written Status.Done = true
may_have_written Status.Usage = false
may_have_written (Status.Malformed line cause) = false
may_have_written Status.ReadFault = false
may_have_written Status.WriteFault = true
may_have_written Status.OutOfMemory = true
may_have_written (Status.TooLarge what) = false
