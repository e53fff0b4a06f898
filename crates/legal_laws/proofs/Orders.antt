use Rattle.std.proofs.Common.{◌≡◌, ◌≤◌, ◌<◌, ◌⊎◌, ℕ, zero, suc, inl, inr, List, [], length, refl, sym, ap, ◌∙◌, arith}
use Rattle.std.proofs.lemmas.Option.{slice_get_within}
use Rattle.smack_base.specs.declared.ids.Pid.{Pid}
use Rattle.rules_spec.specs.Rulings.{ruling}
use Rattle.script_spec.specs.Lines.{ScriptLine}
use Rattle.script_spec.specs.Tasks.{calls_by, parents_in, task_names}
use Rattle.world_spec.specs.declared.tasks.TaskCall.TheVariants as TaskCall
use Rattle.world_spec.specs.declared.Call.{Call}
use Rattle.world_spec.specs.declared.Call.TheVariants as Call
use Rattle.world_spec.specs.declared.Entry.{Entry}
use Rattle.world_spec.specs.Steps.{step}
use Rattle.replay_spec.specs.Replays.{Run}
use Rattle.legal_spec.specs.Calls.{Stands, IsForkOf, IsNumberOf, entry as entry_call}
use Rattle.legal_forms_laws.proofs.Members.{stands_in}
use Rattle.legal_laws.proofs.Places.{stands_more}
use Rattle.legal_laws.proofs.Runs.{entry_by, IsNext, batch, entry, asked, Replays, first, more}
use Rattle.legal_laws.proofs.Growth.{CallIn, call_grows, calls_within}
use Rattle.legal_laws.proofs.Judged.{run_stands}
use Rattle.legal_laws.proofs.Children.{fork_number}
use Rattle.legal_laws.proofs.Lineages.{parent_there}
use Rattle.legal_laws.proofs.ForkLines.{parents_many}
use Rattle.legal_laws.proofs.Forks.{AreForked}

-- each task of the lines so far has its pid as its number, and no other
pub number_there : (above : List ScriptLine) (history : List Entry) → AreForked above history → (task : ℕ) → task < length (task_names above)
    → IsNumberOf history task (record { 0 = task })
number_there above history forked zero there = inl (refl, refl)
number_there above history forked (suc n) there =
    let parent = parent_there (parents_in above) (suc n) (omega arith) (omega (arith, there, parents_many above)) in
    let has = forked.there (suc n) parent.0 parent.1 in
    inr (has.place, has.fork, has.there, has.is)

pub number_is : (above : List ScriptLine) (history : List Entry) → AreForked above history → (number : ℕ) (pid : Pid)
    → IsNumberOf history number pid → number ≡ pid.0
number_is above history forked number pid (inl is) = is.0 ∙ sym is.1
number_is above history forked number pid (inr has) = (forked.known has.0 has.1 number pid has.2 has.3).is_pid

-- the entry of a line that makes a task, which has the next number
new_number : (run : Run) (l : ScriptLine) (call : Call) (x : Entry) (number : ℕ) (pid : Pid) → x ≡ entry_by run l call → IsForkOf x number pid
    → number ≡ length run.world.tasks
new_number run l call x number pid new fork =
    let given : Call.Task (TaskCall.Fork pid) ≡ call = sym fork.0 ∙ ap (λ y. y.call) new in
    fork_number run.world (ruling run.journal) l.task pid number
    (ap (λ c. (step run.world (ruling run.journal) l.task c).reply) given ∙ sym (ap (λ y. y.reply) new) ∙ fork.1)

module _ (labels names : List (List ℕ)) where
  -- an entry of the run after a line is one of the run before it, or the line's, behind all the others
  pub entry_grows : (run after : Run) (l : ScriptLine) → IsNext labels names run l after → (i : ℕ) (x : Entry) → Stands after.history i x
      → Stands run.history i x ⊎ ((i ≡ length run.history) × (x.task ≡ l.task) × (x.seq ≡ l.seq))
  entry_grows run after l (batch ops of may) i x at = inl at
  entry_grows run after l (entry call of) i x at =
      elim (stands_more run.history (entry_by run l call) i x at) [
        | inl old ↦ inl old
        | inr new ↦ inr (new.0, ap (λ y. y.task) new.1, ap (λ y. y.seq) new.1)
      ]
  entry_grows run after l (asked what of so) i x at = inl at

  -- a fork of the run after a line is one of the run before it, or makes a new task
  pub fork_grows : (run after : Run) (l : ScriptLine) → IsNext labels names run l after → (i : ℕ) (x : Entry) (number : ℕ) (pid : Pid)
      → Stands after.history i x → IsForkOf x number pid → Stands run.history i x ⊎ (number ≡ length run.world.tasks)
  fork_grows run after l (batch ops of may) i x number pid at fork = inl at
  fork_grows run after l (entry call of) i x number pid at fork =
      elim (stands_more run.history (entry_by run l call) i x at) [
        | inl old ↦ inl old
        | inr new ↦ inr (new_number run l call x number pid new.1 fork)
      ]
  fork_grows run after l (asked what of so) i x number pid at fork = inl at

  -- the object calls of a child stand behind its fork
  pub behind_forks : (above : List ScriptLine) (run : Run) → Replays labels names above run → (i k : ℕ) (fork e : Entry) (pid : Pid)
      → Stands run.history i fork → IsForkOf fork e.task pid → Stands run.history k e → i < k
  behind_forks lines now first i k fork e pid at is at_e = cc
  behind_forks lines now (more above l run after replays good in_step rest whole next) i k fork e pid at is at_e =
      elim (entry_grows run after l next k e at_e) [
        | inl old_e ↦
            let within = calls_within labels names above run replays e.task e.seq e.version e.version (entry_call k e old_e) in
            elim (fork_grows run after l next i fork e.task pid at is) [
              | inl old ↦ behind_forks above run replays i k fork e pid old is old_e
              | inr new ↦ absurd (omega (arith, new, within.there, in_step.many))
            ]
        | inr new_e ↦
            elim (fork_grows run after l next i fork e.task pid at is) [
              | inl old ↦ omega (arith, new_e.0, slice_get_within run.history i fork old)
              | inr new ↦ absurd (omega (arith, new, new_e.1, good.there, in_step.many))
            ]
      ]

  -- a call needs what each earlier call of its task reached
  pub calls_see : (above : List ScriptLine) (run : Run) → Replays labels names above run → (task seq needs reaches seq' needs' reaches' : ℕ)
      → CallIn labels names run task seq needs reaches → CallIn labels names run task seq' needs' reaches' → seq < seq' → reaches ≤ needs'
  calls_see lines now first task seq needs reaches seq' needs' reaches' c d earlier =
      let none = calls_within labels names [] now first task seq needs reaches c in absurd (omega (arith, none.from, none.to))
  calls_see lines now (more above l run after replays good in_step rest whole next) task seq needs reaches seq' needs' reaches' c d earlier =
      elim (call_grows labels names run after l next task seq needs reaches c) [
        | inl old_c ↦
            let within = calls_within labels names above run replays task seq needs reaches old_c in
            elim (call_grows labels names run after l next task seq' needs' reaches' d) [
              | inl old_d ↦ calls_see above run replays task seq needs reaches seq' needs' reaches' old_c old_d earlier
              | inr new_d ↦ omega (arith, within.version, new_d.newest)
            ]
        | inr new_c ↦
            elim (call_grows labels names run after l next task seq' needs' reaches' d) [
              | inl old_d ↦
                  let within = calls_within labels names above run replays task seq' needs' reaches' old_d in
                  let count : calls_by above task ≡ calls_by above l.task = ap (λ t. calls_by above t) new_c.own in
                  absurd (omega (arith, within.to, count, new_c.last, good.seq, earlier))
              | inr new_d ↦ absurd (omega (arith, new_c.last, new_d.last, earlier))
            ]
      ]

  -- and the version of the fork that made the task
  pub calls_are_told : (above : List ScriptLine) (run : Run) → Replays labels names above run → (i : ℕ) (fork : Entry) (pid : Pid)
      → (task seq needs reaches : ℕ) → Stands run.history i fork → IsForkOf fork task pid → CallIn labels names run task seq needs reaches
      → fork.version ≤ needs
  calls_are_told lines now first i fork pid task seq needs reaches at is c = cc
  calls_are_told lines now (more above l run after replays good in_step rest whole next) i fork pid task seq needs reaches at is c =
      elim (fork_grows run after l next i fork task pid at is) [
        | inl old ↦
            elim (call_grows labels names run after l next task seq needs reaches c) [
              | inl old_c ↦ calls_are_told above run replays i fork pid task seq needs reaches old is old_c
              | inr new_c ↦
                  let versions = (run_stands labels names above run replays).versions in
                  omega (arith, stands_in (λ x. x.version ≤ length run.journal) run.history i fork versions old, new_c.newest)
            ]
        | inr new ↦
            elim (call_grows labels names run after l next task seq needs reaches c) [
              | inl old_c ↦
                  let within = calls_within labels names above run replays task seq needs reaches old_c in
                  absurd (omega (arith, new, within.there, in_step.many))
              | inr new_c ↦ absurd (omega (arith, new, new_c.own, good.there, in_step.many))
            ]
      ]
