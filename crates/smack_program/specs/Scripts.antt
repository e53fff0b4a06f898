use Rattle.std.specs.Prelude.{◌≡◌, ℕ, List, Result, Err}
use Rattle.outside.specs.Seen.{Seen}
use Rattle.script_spec.specs.declared.ScriptFault.{ScriptFault}
use Rattle.script_spec.specs.Grammar.{parse, most_bytes}
use Rattle.smack_program.specs.declared.status.Status.{Status}
use Rattle.smack_program.specs.Statuses.{status_of, due_status}
use Rattle.smack_program.specs.Ends.{CommandEnds}

-- the bytes are no script, and the status is that of their fault: the first line that breaks the grammar or a limit
abbrev pub IsNoScript : List ℕ → Status → Type 0
IsNoScript bytes status = (fault : ScriptFault) × (parse bytes ≡ Err fault) × (status ≡ status_of fault)

-- how a command ended that reads a script
abbrev pub ScriptEnds : (List ℕ → Result (List ℕ) Status → Type 0) → Seen → Seen → Seen → Seen → Status → Type 0
ScriptEnds answers = CommandEnds answers due_status most_bytes
