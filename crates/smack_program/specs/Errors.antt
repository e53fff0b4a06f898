use Rattle.std.specs.Prelude.{ℕ, List, [], ◌∷◌, ◌++◌, codes, decimal}
use Rattle.script_spec.specs.declared.Cause.{Cause}
use Rattle.script_spec.specs.declared.Cause.TheVariants as Cause
use Rattle.script_spec.specs.declared.What.{What}
use Rattle.script_spec.specs.declared.What.TheVariants as What
use Rattle.smack_program.specs.declared.status.Status.{Status}
use Rattle.smack_program.specs.declared.status.Status.TheVariants as Status

abbrev pub line_end : List ℕ
line_end = 10 ∷ []

-- why a line is bad
abbrev pub cause_text : Cause → List ℕ
cause_text Cause.Task = codes "task"
cause_text Cause.Verb = codes "verb"
cause_text Cause.Words = codes "words"
cause_text (Cause.Word k) = codes "word " ++ decimal k
cause_text Cause.Text = codes "text"
cause_text Cause.Name = codes "name"
cause_text Cause.Wait = codes "wait"
cause_text Cause.NotBuilt = codes "not-built"

-- the limit that was exceeded
abbrev pub limit_text : What → List ℕ
limit_text What.Bytes = codes "bytes"
limit_text What.Lines = codes "lines"
limit_text What.Tasks = codes "tasks"
limit_text What.Labels = codes "labels"
limit_text What.Text = codes "text"
limit_text What.Rows = codes "rows"

-- the line that tells a status on standard error; Done has none
abbrev pub error_text : Status → List ℕ
error_text Status.Done = []
error_text Status.Usage = codes "smack: usage" ++ line_end
error_text (Status.Malformed line cause) = codes "smack: line " ++ decimal line ++ codes ": " ++ cause_text cause ++ line_end
error_text Status.ReadFault = codes "smack: read fault" ++ line_end
error_text Status.WriteFault = codes "smack: write fault" ++ line_end
error_text Status.OutOfMemory = codes "smack: out of memory" ++ line_end
error_text (Status.TooLarge what) = codes "smack: too large: " ++ limit_text what ++ line_end
