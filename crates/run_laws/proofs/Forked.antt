-- Where nothing stopped, each fork of the history made a task.
use Rattle.std.proofs.Common.{◌≡◌, ℕ, List, ◌∷◌, ◌++◌, true, false, sym, refl, ap, ◌∙◌, subst, ⊎_elim}
use Rattle.smack_base.specs.declared.ids.Pid.{Pid}
use Rattle.rules_spec.specs.declared.Batch.{Batch}
use Rattle.world_spec.specs.declared.Call.TheVariants as Call
use Rattle.world_spec.specs.declared.tasks.TaskCall.TheVariants as TaskCall
use Rattle.world_spec.specs.declared.Reply.TheVariants as Reply
use Rattle.world_spec.specs.declared.Entry.{Entry}
use Rattle.live_table.specs.Lists.{Has, here, there}
use Rattle.live_table.proofs.Lists.{has_either}
use Rattle.smack_kernel.specs.Answers.{is_fork_call}
use Rattle.runs_spec.specs.Scripts.{Scripted}
use Rattle.runs_spec.specs.Deeds.{entered, batched, answered, entries_in, Made}
use Rattle.runs_spec.specs.Runs.{TaskRun, ends, does, forks, wait_deeds, own, numbers, AllMade, Kids}
use Rattle.runs_spec.proofs.Runs.{entries-append}
use Rattle.run_laws.proofs.Lists.{has_those}
use Rattle.run_laws.proofs.Kids.{no_entry}

abbrev pub MadeOne : Entry → Type 0
MadeOne e = (k : ℕ) × (e.reply ≡ Reply.Child k)

is_no_fork : (e : Entry) (pid : Pid) → is_fork_call e.call ≡ false → e.call ≡ Call.Task (TaskCall.Fork pid) → ⊥
is_no_fork e pid not is = absurd (let x : true ≡ false = sym (ap is_fork_call is) ∙ not in cc)

module _ (s : Scripted) (j : List Batch) (h : List Entry) (e : Entry) (there_ : Has e h) (pid : Pid) (is : e.call ≡ Call.Task (TaskCall.Fork pid)) where
  pub own_fork : (r : TaskRun) → Kids true s r → Has e (entries_in (own r)) → MadeOne e
  own_fork ends q g = elim g [ ]
  own_fork (does (entered x n) r) q g = by x e g refl (q.0.1 refl) (own_fork r q.1) is
    where
      by : (x y : Entry) → Has y (x ∷ entries_in (own r)) → y ≡ e → is_fork_call x.call ≡ false → (Has e (entries_in (own r)) → MadeOne e)
          → e.call ≡ Call.Task (TaskCall.Fork pid) → MadeOne e
      by x y here same not rest is = absurd (is_no_fork x pid not (ap (λ (z : Entry). z.call) same ∙ is))
      by x y (there u) same not rest is = rest (subst (λ z. Has z (entries_in (own r))) same u)
  own_fork (does (batched n b m) r) q g = own_fork r q.1 g
  own_fork (does (answered l m) r) q g = own_fork r q.1 g
  own_fork (forks x n p y o c w r) q g = by x e g refl q.1 (own_fork o q.4) (own_fork r q.6)
    where
      by : (x z : Entry) → Has z (x ∷ entries_in (own o ++ (wait_deeds w ++ own r))) → z ≡ e → x.reply ≡ Reply.Child y
          → (Has e (entries_in (own o)) → MadeOne e) → (Has e (entries_in (own r)) → MadeOne e) → MadeOne e
      by x z here same made mine after = (y, ap (λ (u : Entry). u.reply) (sym same) ∙ made)
      by x z (there g) same made mine after =
          let here_ = subst (λ u. Has u (entries_in (own o ++ (wait_deeds w ++ own r)))) same g in
          ⊎_elim mine (λ u. ⊎_elim (λ v. absurd (no_entry w e v)) after
          (has_either (entries_in (wait_deeds w)) (entries_in (own r)) (subst (Has e) (entries-append (wait_deeds w) (own r)) u)))
          (has_either (entries_in (own o)) (entries_in (wait_deeds w ++ own r)) (subst (Has e) (entries-append (own o) (wait_deeds w ++ own r)) here_))

  kid_fork : (y : ℕ) (c : TaskRun) → Kids true s c → Made j h y (own c)
      → ((x : ℕ) → e.task ≡ x → Has x (numbers c) → MadeOne e) → (x : ℕ) → e.task ≡ x → Has x (y ∷ numbers c) → MadeOne e
  kid_fork y c q m rec x i here = own_fork c q (subst (Has e) m.entries (has_those (λ (z : Entry). z.task) y h e i there_))
  kid_fork y c q m rec x i (there u) = rec x i u

  pub below_fork : (r : TaskRun) → Kids true s r → AllMade j h r → (x : ℕ) → e.task ≡ x → Has x (numbers r) → MadeOne e
  below_fork ends q m x i u = elim u [ ]
  below_fork (does d r) q m x i u = below_fork r q.1 m x i u
  below_fork (forks z n p y o c w r) q m x i u =
      ⊎_elim (λ v. below_fork o q.4 m.1 x i v)
      (λ v. ⊎_elim (λ b. kid_fork y c q.5 m.0 (λ x' i' b'. below_fork c q.5 m.2 x' i' b') x i b)
      (λ b. below_fork r q.6 m.3 x i b) (has_either (y ∷ numbers c) (numbers r) v))
      (has_either (numbers o) ((y ∷ numbers c) ++ numbers r) u)

  -- a fork of the task itself, or of one below it
  pub any_fork : (t : ℕ) (r : TaskRun) → Kids true s r → AllMade j h r
      → (Has e h → e.task ≡ t → Has e (entries_in (own r))) → (x : ℕ) → e.task ≡ x → Has x (t ∷ numbers r) → MadeOne e
  any_fork t r q m mine x i here = own_fork r q (mine there_ i)
  any_fork t r q m mine x i (there u) = below_fork r q m x i u
