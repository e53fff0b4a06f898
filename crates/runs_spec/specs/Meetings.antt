use Rattle.std.specs.Prelude.{◌⊎◌, ◌≡◌, ℕ, ◌+◌, ◌<◌, ◌≤◌, List, [], ◌∷◌, ◌++◌, length, Bool, false, Option, Some, None}
use Rattle.rules_spec.specs.declared.Batch.{Batch}
use Rattle.script_spec.specs.Lines.{ScriptLine}
use Rattle.record_spec.specs.declared.AskedLine.{AskedLine}
use Rattle.smack_kernel.specs.Tasks.{TaskValue, Adopts}
use Rattle.runs_spec.specs.Scripts.{Scripted, WaitsFor}
use Rattle.runs_spec.specs.Deeds.{FitsTo, by_version, by_place}
use Rattle.runs_spec.specs.Runs.{waited, wait_deeds, Awaits, IsWaitOf}

abbrev pub AllWithin : List Batch → List AskedLine → Type 0
AllWithin j [] = Unit {0}
AllWithin j (l ∷ ls) = (l.version ≤ length j) × AllWithin j ls

-- the line of a wait, where there is one, and the lines behind it
abbrev pub with_wait_line : Option AskedLine → ScriptLine → List ScriptLine → List ScriptLine
with_wait_line None l ls = ls
with_wait_line (Some a) l ls = l ∷ ls

-- a line that waits for a task of this pid, where there is a wait
abbrev pub IsLineOf : Option AskedLine → Scripted → ScriptLine → ℕ → Type 0
IsLineOf None s l pid = Unit {0}
IsLineOf (Some a) s l pid = WaitsFor s l pid

-- what a task that has adopted a child then says of it: the line that waits for it, or nothing
pub record Waits (s : Scripted) (pid : ℕ) (w : TaskValue) (wait : Option AskedLine) (made' : ℕ) (mid rest : List ScriptLine)
    : Type 0 where
  pub is_made : made' ≡ w.made + length (wait_deeds wait)
  pub fits : FitsTo s w.number (w.made + 1) (wait_deeds wait) mid rest
  pub is_wait : IsWaitOf pid wait
  pub fresh : Awaits by_version w.version wait w.version
  pub placed : (n : ℕ) → Awaits by_place n wait n
  pub within : AllWithin w.journal (waited wait)

-- where the lines of the two halves of a fork end
abbrev pub MeetAt : Option AskedLine → Bool → ℕ → ℕ → ℕ → Type 0
MeetAt None stop until to at = stop ≡ false → (until ≡ to) × (at ≡ until)
MeetAt (Some l) stop until to at = (until < to) × (at ≡ until + 1)

-- Both halves of a fork have met: the task adopted the child and, where a line waits for it, this line was run.
pub record Met (s : Scripted) (pid : ℕ) (mine theirs stop : Bool) (u c w : TaskValue) (asked told after : List AskedLine) (until to at : ℕ)
    : Type 0 where
  pub middle : TaskValue
  pub adopted : Adopts u c middle
  pub wait : Option AskedLine
  pub made' : ℕ
  pub is : w ≡ record middle { made = made' }
  pub waits : (l : ScriptLine) → IsLineOf wait s l pid → (ls : List ScriptLine) → Waits s pid middle wait made' (with_wait_line wait l ls) ls
  pub halves : (stop ≡ false) ⊎ ((l : AskedLine) × (wait ≡ Some l)) → (mine ≡ false) × (theirs ≡ false)
  pub asked_all : stop ≡ false → after ≡ (asked ++ told) ++ waited wait
  pub at_end : MeetAt wait stop until to at
