-- What the entries of a run's tasks make.
use Rattle.std.proofs.Common.{◌≡◌, ℕ, List, ◌∷◌, ◌++◌, Bool, sym, ap, ◌∙◌, subst, Option, Some, None, ⊎_elim}
use Rattle.rules_spec.specs.declared.Batch.{Batch}
use Rattle.world_spec.specs.declared.Entry.{Entry}
use Rattle.record_spec.specs.declared.AskedLine.{AskedLine}
use Rattle.live_table.specs.Lists.{Has, here, there}
use Rattle.live_table.proofs.Lists.{has_left, has_right, has_either}
use Rattle.world_spec.specs.Replies.{child_of}
use Rattle.runs_spec.specs.Scripts.{Scripted}
use Rattle.runs_spec.specs.Deeds.{entered, batched, answered, entries_in, Made}
use Rattle.runs_spec.specs.Runs.{TaskRun, ends, does, forks, wait_deeds, own, numbers, AllMade, Kids}
use Rattle.runs_spec.proofs.Runs.{entries-append}
use Rattle.run_laws.proofs.Lists.{has_those}

pub no_entry : (w : Option AskedLine) (e : Entry) → Has e (entries_in (wait_deeds w)) → ⊥
no_entry None e g = elim g [ ]
no_entry (Some l) e g = elim g [ ]

module _ (full : Bool) (s : Scripted) (j : List Batch) (h : List Entry) where
  -- what a task's own entries make is among its children
  pub own_child : (r : TaskRun) → Kids full s r → (e : Entry) → Has e (entries_in (own r)) → (k : ℕ) → child_of e.reply ≡ Some k → Has k (numbers r)
  own_child ends q e g k is = elim g [ ]
  own_child (does (entered x n) r) q e here k is = absurd (let z : None ≡ Some k = sym q.0.0 ∙ is in cc)
  own_child (does (entered x n) r) q e (there g) k is = own_child r q.1 e g k is
  own_child (does (batched n b m) r) q e g k is = own_child r q.1 e g k is
  own_child (does (answered l m) r) q e g k is = own_child r q.1 e g k is
  own_child (forks x n pid y o c w r) q e here k is =
      let z : Some y ≡ Some k = sym (ap child_of q.1) ∙ is in
      let z' : y ≡ k = cc in has_right (numbers o) (subst (λ m. Has m (y ∷ (numbers c ++ numbers r))) z' here)
  own_child (forks x n pid y o c w r) q e (there g) k is =
      ⊎_elim (λ u. has_left ((y ∷ numbers c) ++ numbers r) (own_child o q.4 e u k is))
      (λ u. ⊎_elim (λ v. absurd (no_entry w e v)) (λ v. has_right (numbers o) (there (has_right (numbers c) (own_child r q.6 e v k is))))
      (has_either (entries_in (wait_deeds w)) (entries_in (own r)) (subst (Has e) (entries-append (wait_deeds w) (own r)) u)))
      (has_either (entries_in (own o)) (entries_in (wait_deeds w ++ own r)) (subst (Has e) (entries-append (own o) (wait_deeds w ++ own r)) g))

  -- what a child's entries, or those of a task below it, make is below it
  pub kid_makes : (y : ℕ) (c : TaskRun) (e : Entry) (k : ℕ) → Kids full s c → Made j h y (own c) → Has e h → child_of e.reply ≡ Some k
      → ((x : ℕ) → e.task ≡ x → Has x (numbers c) → Has k (numbers c)) → (x : ℕ) → e.task ≡ x → Has x (y ∷ numbers c) → Has k (numbers c)
  kid_makes y c e k q m g is rec x i here = own_child c q e (subst (Has e) m.entries (has_those (λ (z : Entry). z.task) y h e i g)) k is
  kid_makes y c e k q m g is rec x i (there u) = rec x i u

  pub below_child : (r : TaskRun) → Kids full s r → AllMade j h r → (e : Entry) → Has e h → (k : ℕ) → child_of e.reply ≡ Some k → (x : ℕ)
      → e.task ≡ x → Has x (numbers r) → Has k (numbers r)
  below_child ends q m e g k is x i u = elim u [ ]
  below_child (does d r) q m e g k is x i u = below_child r q.1 m e g k is x i u
  below_child (forks f n pid y o c w r) q m e g k is x i u =
      ⊎_elim (λ v. has_left ((y ∷ numbers c) ++ numbers r) (below_child o q.4 m.1 e g k is x i v))
      (λ v. has_right (numbers o)
      (⊎_elim (λ b. there (has_left (numbers r) (kid_makes y c e k q.5 m.0 g is (λ x' i' b'. below_child c q.5 m.2 e g k is x' i' b') x i b)))
      (λ b. there (has_right (numbers c) (below_child r q.6 m.3 e g k is x i b))) (has_either (y ∷ numbers c) (numbers r) v)))
      (has_either (numbers o) ((y ∷ numbers c) ++ numbers r) u)
