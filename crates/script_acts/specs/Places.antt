use Rattle.std.specs.Prelude.{◌≡◌, ℕ, ◌+◌, List, ◌∷◌}
use Rattle.smack_base.specs.declared.ids.Pid.{Pid}
use Rattle.script_spec.specs.Lines.{ScriptLine}
use Rattle.record_spec.specs.declared.AskedWhat.TheVariants as AskedWhat
use Rattle.legal_spec.specs.Lines.{IsAskedOfLine}
use Rattle.runs_spec.specs.Scripts.{segment}

-- at a place stands a line by which a script task waits for a child
pub record IsWaitAt (names : List (List ℕ)) (lines : List ScriptLine) (task : ℕ) (child : Pid) (at to : ℕ) : Type 0 where
  pub line : ScriptLine
  pub waits : (labels : List (List ℕ)) → IsAskedOfLine labels names line (AskedWhat.Wait child)
  pub is : segment task at to lines ≡ line ∷ segment task (at + 1) to lines
