use Rattle.std.specs.Prelude.{◌≡◌, ℕ, ◌==◌, Bool, true, if◌then◌else◌, List, [], ◌∷◌, Option, Some, None, is_some}
use Rattle.std.specs.List.{list_any}
use Rattle.smack_base.specs.declared.ids.Pid.{Pid}
use Rattle.script_spec.specs.Lines.{ScriptLine}
use Rattle.script_spec.specs.Tasks.{TaskChange, Forks, Awaits, change_of}
use Rattle.record_spec.specs.declared.AskedWhat.TheVariants as AskedWhat
use Rattle.verb_spec.specs.Values.{pid_in}
use Rattle.replay_spec.specs.Acts.{act_of_line}
use Rattle.legal_spec.specs.Lines.{IsAskedOfLine}
use Rattle.runs_spec.specs.Scripts.{Scripted, lines_by}

-- A line does something: it has a verb, its words are of their kinds, its labels are in the table, and the tasks that it
-- names have names. Of a write its words do not matter: it is refused where they are wrong.
abbrev pub is_known : List (List ℕ) → List (List ℕ) → ScriptLine → Bool
is_known labels names l = is_some (act_of_line labels names l)

-- A child is open from the line that forks it to the line that waits for it. One that is open is not forked again.
abbrev pub with_open : List ℕ → Option Pid → Option (List ℕ)
with_open opens None = None
with_open opens (Some pid) = if list_any (λ c. c == pid.0) opens then None else Some (pid.0 ∷ opens)

-- no other child than the latest that is open is waited for
abbrev pub without_open : List ℕ → Option Pid → Option (List ℕ)
without_open [] pid = None
without_open (c ∷ cs) None = None
without_open (c ∷ cs) (Some pid) = if c == pid.0 then Some cs else None

-- the children of a task that are open behind one more of its lines, the latest first, where the line may stand there
abbrev pub open_after : List (List ℕ) → List ℕ → TaskChange → Option (List ℕ)
open_after names opens (Forks name) = with_open opens (pid_in names name)
open_after names opens (Awaits name) = without_open opens (pid_in names name)
open_after names opens change = Some opens

-- behind lines of a task that left these children open, these lines of it may stand
abbrev pub IsOrderlyBehind : Scripted → Option (List ℕ) → List ScriptLine → Type 0
IsOrderlyBehind s None ls = ⊥
IsOrderlyBehind s (Some opens) [] = Unit {0}
IsOrderlyBehind s (Some opens) (l ∷ ls) =
    (is_known s.labels s.names l ≡ true) × IsOrderlyBehind s (open_after s.names opens (change_of l)) ls

-- each of these lines of a task is known, and each wait is for the latest child that they forked and did not wait for
abbrev pub IsOrderly : Scripted → List ScriptLine → Type 0
IsOrderly s ls = IsOrderlyBehind s (Some []) ls

-- the lines of each task of a script are so
abbrev pub AreAllOrderly : Scripted → Type 0
AreAllOrderly s = (pid : ℕ) → IsOrderly s (lines_by pid s.lines)

-- not so are these lines of a task, or those of some task of the script
abbrev pub IsDisorderly : Scripted → List ScriptLine → Type 0
IsDisorderly s ls = AreAllOrderly s → IsOrderly s ls → ⊥

-- none of these lines waits for a child
abbrev pub NoneWaits : List (List ℕ) → Pid → List ScriptLine → Type 0
NoneWaits names child [] = Unit {0}
NoneWaits names child (l ∷ ls) =
    ((labels : List (List ℕ)) → IsAskedOfLine labels names l (AskedWhat.Wait child) → ⊥) × NoneWaits names child ls
