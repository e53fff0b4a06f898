-- No line of a task stands before the line that forks it.
use Rattle.std.proofs.Common.{◌≡◌, ℕ, zero, suc, ◌+◌, ◌<◌, ⊎_elim, List, [], ◌∷◌, ◌++◌, length, refl, sym, ap, subst, ◌∙◌, arith, append_assoc, Some}
use Rattle.std.specs.Prelude.{take, Option}
use Rattle.smack_base.specs.declared.ids.Pid.{Pid}
use Rattle.world_spec.specs.declared.tasks.TaskCall.TheVariants as TaskCall
use Rattle.world_spec.specs.declared.Call.TheVariants as Call
use Rattle.script_spec.specs.Lines.{ScriptLine, table_of}
use Rattle.script_spec.specs.Tasks.{task_names}
use Rattle.script_text.specs.Scripts.{AreRead}
use Rattle.replay_spec.specs.Acts.{call_of_line}
use Rattle.replay_spec.specs.Plain.{IsNameTable}
use Rattle.plain_laws.proofs.GoodLines.{IsGoodLine, AreGoodLines, good_lines}
use Rattle.plain_laws.proofs.Tasks.{names_are_a_table}
use Rattle.legal_laws.proofs.Growth.{tasks_more}
use Rattle.legal_spec.specs.Calls.{Stands}
use Rattle.live_table.specs.Lists.{Has, here, there}
use Rattle.live_table.proofs.Lists.{has_either, those_none}
use Rattle.runs_spec.specs.Scripts.{scripted, lines_by, ForksFirst}
use Rattle.run_laws.proofs.Places.{new_pid}

same_line : (x y : ScriptLine) → ◌≡◌ {A = Option ScriptLine} (Some x) (Some y) → x ≡ y
same_line x y is = cc

-- a line of one line is this line
its_task : (many : ℕ) (x l : ScriptLine) → l.task < many → Has x (l ∷ []) → x.task < many
its_task many x l low here = low
its_task many x l low (there none) = elim none [ ]

-- the tasks of these lines have names among the first ones
abbrev AreNamed : List ScriptLine → ℕ → Type 0
AreNamed ls many = (x : ScriptLine) → Has x ls → x.task < many

module _ (labels names : List (List ℕ)) (table : IsNameTable names) where
  named_more : (above : List ScriptLine) (l : ScriptLine) → IsGoodLine above l → AreNamed above (length (task_names above))
      → AreNamed (above ++ l ∷ []) (length (task_names (above ++ l ∷ [])))
  named_more above l good named x has = ⊎_elim
      (λ (old : Has x above). omega (arith, named x old, tasks_more above l))
      (its_task (length (task_names (above ++ l ∷ []))) x l (omega (arith, good.there, tasks_more above l)))
      (has_either above (l ∷ []) has)

  up_to : (above : List ScriptLine) (l : ScriptLine) → IsGoodLine above l → AreNamed above (length (task_names above))
      → AreNamed (above ++ l ∷ []) (length (task_names above))
  up_to above l good named x has = ⊎_elim
      (λ (old : Has x above). named x old)
      (its_task (length (task_names above)) x l good.there)
      (has_either above (l ∷ []) has)

  before_fork : (above ls : List ScriptLine) → AreGoodLines above ls → names ≡ task_names (above ++ ls)
      → AreNamed above (length (task_names above)) → (n : ℕ) (l : ScriptLine) (pid : Pid) → Stands ls n l
      → call_of_line labels names l ≡ Some (Call.Task (TaskCall.Fork pid)) → AreNamed (above ++ take (suc n) ls) pid.0
  before_fork above [] good whole named n l pid at forks = cc
  before_fork above (x ∷ ls) good whole named zero l pid at forks =
      let same = same_line x l at in
      subst (AreNamed (above ++ x ∷ []))
      (sym (new_pid labels names above ls x pid table whole (ap (λ y. call_of_line labels names y) same ∙ forks)).0)
      (up_to above x good.0 named)
  before_fork above (x ∷ ls) good whole named (suc n) l pid at forks =
      subst (λ (xs : List ScriptLine). AreNamed xs pid.0) (append_assoc above (x ∷ []) (take (suc n) ls))
      (before_fork (above ++ x ∷ []) ls good.1 (whole ∙ ap task_names (sym (append_assoc above (x ∷ []) ls)))
      (named_more above x good.0 named) n l pid at forks)

-- no line of a task of a script stands before the line that forks it
pub forks_come_first : (lines : List ScriptLine) → AreRead lines → ForksFirst (scripted lines)
forks_come_first lines read l n pid at forks =
    let table = names_are_a_table read.0 lines read.1 in
    let named = before_fork (table_of lines) (task_names lines) table [] lines (good_lines read.0 lines read.1) refl
    (λ x none. elim none [ ]) n l (record { 0 = pid }) at forks in
    let next : n + 1 ≡ suc n = omega arith in
    ap (λ m. lines_by pid (take m lines)) next
    ∙ those_none (λ x. x.task) pid (take (suc n) lines) (λ x has is. absurd (omega (arith, named x has, is)))
