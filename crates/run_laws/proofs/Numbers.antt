-- The numbers of tasks, and the pids of their script tasks.
use Rattle.std.proofs.Common.{◌≡◌, ℕ, ◌==◌, ◌||◌, List, Bool, false, sym, ap, ◌∙◌, arith, ⊎_elim}
use Rattle.smack_base.specs.declared.ids.Pid.{Pid}
use Rattle.rules_spec.specs.declared.Batch.{Batch}
use Rattle.world_spec.specs.declared.Call.TheVariants as Call
use Rattle.world_spec.specs.declared.tasks.TaskCall.TheVariants as TaskCall
use Rattle.world_spec.specs.declared.Reply.TheVariants as Reply
use Rattle.world_spec.specs.declared.Entry.{Entry}
use Rattle.world_spec.specs.Worlds.{world_first}
use Rattle.world_spec.specs.Replays.{AreSteps}
use Rattle.record_spec.specs.declared.AskedLine.{AskedLine}
use Rattle.legal_spec.specs.Calls.{Stands, IsForkOf, IsNumberOf}
use Rattle.live_table.specs.Machines.{LegalFrom}
use Rattle.world_spec.specs.Replies.{child_of}
use Rattle.smack_kernel.specs.Histories.{world_means}
use Rattle.runs_spec.specs.Scripts.{Scripted}
use Rattle.run_laws.proofs.Lives.{Life}
use Rattle.run_laws.proofs.Histories.{child_above, one_child, same_stand}
use Rattle.run_laws.proofs.Pids.{no_fork, one_fork}

same_pid : (a b : Pid) → Call.Task (TaskCall.Fork a) ≡ Call.Task (TaskCall.Fork b) → a ≡ b
same_pid a b is = cc

module _ (full : Bool) (s : Scripted) (j : List Batch) (h : List Entry) (ls : List AskedLine) (steps : AreSteps j world_first h)
    (legal : LegalFrom world_means 0 0 h) where
  -- the task of a number has the pid of its lines
  pub pid_of_life : (k : ℕ) (pid : Pid) (L : Life full s j h ls k) → IsNumberOf h k pid → L.pid ≡ pid.0
  pid_of_life k pid L is =
      ⊎_elim (λ z. ⊎_elim (λ y. z.1 ∙ sym y.1)
      (λ b. absurd (let x = (child_above 0 0 b.0 h b.1 k legal b.2 (ap child_of b.3.1)).0 in let x' = z.0 in omega arith)) is)
      (λ a. ⊎_elim (λ y. absurd (let x = (child_above 0 0 a.1 h a.0 k legal a.2 (ap child_of a.3.1)).0 in let x' = y.0 in omega arith))
      (λ b.
      let place = one_child 0 0 a.1 b.0 h a.0 b.1 k legal a.2 b.2 (ap child_of a.3.1) (ap child_of b.3.1) in
      let same = same_stand h a.1 b.0 a.0 b.1 place a.2 b.2 in
      ap (λ (p : Pid). p.0) (same_pid (record { 0 = L.pid }) pid (sym a.3.0 ∙ (ap (λ (e : Entry). e.call) same ∙ b.3.0)))) is) L.born

  -- a pid has one number
  pub one_number : (k i : ℕ) (pid : Pid) → IsNumberOf h k pid → IsNumberOf h i pid → k ≡ i
  one_number k i pid is it =
      ⊎_elim (λ y. ⊎_elim (λ z. y.0 ∙ sym z.0) (λ b. absurd (first pid y.1 b.0 b.1 i b.2 b.3)) it)
      (λ a. ⊎_elim (λ z. absurd (first pid z.1 a.0 a.1 k a.2 a.3))
      (λ b.
      let place = one_fork pid j world_first h a.0 b.0 a.1 b.1 k i steps a.2 b.2 a.3 b.3 in
      let same = same_stand h a.0 b.0 a.1 b.1 place a.2 b.2 in
      same_child k i (sym a.3.1 ∙ (ap (λ (e : Entry). e.reply) same ∙ b.3.1))) it) is
    where
      same_child : (x y : ℕ) → Reply.Child x ≡ Reply.Child y → x ≡ y
      same_child x y e = cc

      first : (p : Pid) → p.0 ≡ 0 → (n : ℕ) (e : Entry) (k : ℕ) → Stands h n e → IsForkOf e k p → ⊥
      first p zero_ n e k st fork =
          no_fork p j world_first h n e k steps (ap (λ (x : ℕ). (0 == x) || false) zero_) st fork
