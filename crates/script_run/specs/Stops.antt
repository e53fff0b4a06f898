use Rattle.std.specs.Prelude.{◌⊎◌, ◌≡◌, ◌≤◌, List, ◌∷◌, Option, Some, Result, Ok, Err}
use Rattle.script_spec.specs.Lines.{ScriptLine}
use Rattle.smack_kernel.specs.Tasks.{TaskValue, Adopts, most_calls}
use Rattle.smack_kernel.specs.declared.kernel.Called.{Called}
use Rattle.smack_kernel.specs.declared.kernel.Called.TheVariants as Called
use Rattle.runs_spec.specs.Scripts.{Scripted}
use Rattle.runs_spec.specs.Stops.{IsOutOfEntries, IsOutOfCalls, HasForkedNone}
use Rattle.runs_spec.specs.Orders.{IsDisorderly}
use Rattle.script_run.specs.declared.making.Stop.{Stop}
use Rattle.script_run.specs.declared.making.Stop.TheVariants as Stop

-- what is so where a worker that was handed a task v over these lines stopped for this and hands w back
abbrev pub IsCause : Scripted → List ScriptLine → TaskValue → TaskValue → Stop → Type 0
IsCause s ls v w Stop.Memory = Unit {0}
IsCause s ls v w Stop.TrailFull = IsOutOfEntries s ls v w
IsCause s ls v w Stop.NoChild = HasForkedNone w
IsCause s ls v w Stop.SeqFull = IsOutOfCalls s w
IsCause s ls v w Stop.Unscripted = IsDisorderly s ls

-- why a fork has no child
abbrev pub without_child : Called → Stop
without_child (Called.Entry r) = Stop.NoChild
without_child (Called.TrailFull back) = Stop.TrailFull
without_child (Called.SeqFull back) = Stop.SeqFull

-- what is so at any line of a task where a fork made no child
abbrev pub IsForkCause : TaskValue → TaskValue → Result TaskValue Stop → Type 0
IsForkCause v w (Ok c) = Unit {0}
IsForkCause v w (Err stop) = (s : Scripted) (l : ScriptLine) (ls : List ScriptLine) → IsCause s (l ∷ ls) v w stop

-- a stop for which a script's lines do not matter
abbrev pub IsOwnStop : TaskValue → Stop → Type 0
IsOwnStop w Stop.Memory = Unit {0}
IsOwnStop w Stop.TrailFull = ⊥
IsOwnStop w Stop.NoChild = ⊥
IsOwnStop w Stop.SeqFull = most_calls ≤ w.made
IsOwnStop w Stop.Unscripted = ⊥

-- Why a task that adopts another stops: it had stopped itself, the other had, or it stopped there.
abbrev pub IsMeetCause : Option Stop → Option Stop → TaskValue → TaskValue → TaskValue → Stop → Type 0
IsMeetCause mine theirs u c w stop =
    ((mine ≡ Some stop) × Adopts u c w) ⊎ (((theirs ≡ Some stop) × Adopts u c w) ⊎ IsOwnStop w stop)
