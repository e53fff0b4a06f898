-- However far the tasks of a script came, the first may close the kernel.
use Rattle.std.proofs.Common.{◌≡◌, ℕ, List, ◌∷◌, sym, refl, subst, Bool, not, Some}
use Rattle.atomic_table.specs.Seated.{TableId}
use Rattle.world_spec.specs.declared.Entry.{Entry}
use Rattle.script_spec.specs.Lines.{ScriptLine}
use Rattle.live_table.specs.Lists.{Has, here, there}
use Rattle.world_spec.specs.Replies.{child_of}
use Rattle.smack_kernel.specs.Tasks.{TaskValue, booted_task}
use Rattle.smack_kernel.specs.Answers.{IsWholeTask}
use Rattle.runs_spec.specs.Scripts.{Scripted}
use Rattle.runs_spec.specs.Runs.{numbers, WentOver}
use Rattle.run_laws.specs.Laws.{RunsAreWhole}
use Rattle.run_laws.proofs.Lists.{has_those}
use Rattle.run_laws.proofs.Kids.{own_child, below_child}

module _ (full : Bool) (s : Scripted) (ls rest : List ScriptLine) (t : TableId) (w : TaskValue) (g : WentOver full s ls rest (booted_task t) w) where
  -- what a task makes is among the numbers
  pub makes_own : (e : Entry) → Has e w.history → (x : ℕ) → e.task ≡ x → Has x (0 ∷ numbers g.run) → (k : ℕ) → child_of e.reply ≡ Some k
      → Has k (numbers g.run)
  makes_own e h x is here k makes =
      own_child full s w.journal w.history g.run g.kids e (subst (Has e) g.own_entries (has_those (λ (y : Entry). y.task) 0 w.history e is h)) k makes
  makes_own e h x is (there u) k makes = below_child full s w.journal w.history g.run g.kids g.others e h k makes x is u

  pub all_numbers : w.number ∷ w.ended ≡ 0 ∷ numbers g.run
  all_numbers = λ i. g.number i ∷ g.ended i

  pub is_whole : IsWholeTask w
  is_whole = record {
    first = subst (Has 0) (sym all_numbers) here;
    closed = λ e h n k is. subst (Has k) (sym all_numbers) (there (makes_own e h e.task refl (subst (Has e.task) all_numbers n) k is));
  }

pub runs_are_whole : RunsAreWhole
runs_are_whole bytes lines is stop table w asked ran = is_whole (not stop) _ _ ran.left table w ran.went
