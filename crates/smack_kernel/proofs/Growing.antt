use Rattle.std.proofs.Common.{◌≡◌, ℕ, List, [], ◌∷◌, ◌++◌, sym, refl, ap, ◌∙◌, subst, append-nil, false}
use Rattle.smack_base.specs.declared.rule_op.RuleOp.{RuleOp}
use Rattle.rules_spec.specs.declared.Batch.{Batch}
use Rattle.rules_spec.specs.Creds.{Creds}
use Rattle.world_spec.specs.declared.Entry.{Entry}
use Rattle.live_table.specs.declared.view.View.{View}
use Rattle.live_table.specs.Lists.{Begins, Has, here, there, rest_of}
use Rattle.live_table.specs.Batches.{batches_by, task_of_batch}
use Rattle.live_table.specs.Machines.{entries_by}
use Rattle.live_table.specs.Plays.{with_pen}
use Rattle.live_table.specs.Seats.{Sees}
use Rattle.live_table.proofs.Lists.{begins_self, begins_more, those-append, those_none, those_all}
use Rattle.smack_kernel.specs.Histories.{world_means}
use Rattle.smack_kernel.specs.Growth.{Grows, Publishes, IsBatchJudged, batch_of}
use Rattle.smack_kernel.specs.declared.publishing.Published.{Published}
use Rattle.smack_kernel.specs.declared.publishing.Published.TheVariants as Published

module _ {number : ℕ} {ended numbers : List ℕ} {j j' : List Batch} {h h' : List Entry} where
  -- what a seat has seen grew, and its numbers have no more in it
  pub grows_by : numbers ≡ number ∷ ended → Begins j' j → Begins h' h
      → ((k : ℕ) → Has k numbers → batches_by k j' ≡ batches_by k j)
      → ((k : ℕ) → Has k numbers → entries_by world_means k h' ≡ entries_by world_means k h)
      → Grows number ended j j' h h' [] []
  grows_by named journal history batches entries = record {
    journal = journal;
    history = history;
    own_batches = batches number (subst (Has number) (sym named) here) ∙ sym (append-nil (batches_by number j));
    own_entries = entries number (subst (Has number) (sym named) here)
        ∙ sym (append-nil (entries_by world_means number h));
    batches = λ k x. batches k (subst (Has k) (sym named) (there x));
    entries = λ k x. entries k (subst (Has k) (sym named) (there x));
  }

only_one : {x y : Batch} → Has x (y ∷ []) → x ≡ y
only_one here = refl
only_one (there h) = elim h [ ]

module _ {number : ℕ} {ended : List ℕ} {j j' : List Batch} {h h' : List Entry} where
  -- one batch more of the number
  pub grows_batch : (b : Batch) → b.task ≡ number → (Has number ended → ⊥) → Grows number ended j j' h h' [] []
      → Grows number ended j (j' ++ b ∷ []) h h' (b ∷ []) []
  grows_batch b own apart g = record {
    journal = begins_more (b ∷ []) g.journal;
    history = g.history;
    own_batches = those-append task_of_batch number j' (b ∷ [])
        ∙ (ap (λ l. l ++ those) (g.own_batches ∙ append-nil (batches_by number j))
        ∙ ap (λ l. batches_by number j ++ l)
        (those_all task_of_batch number (b ∷ []) (λ x i. ap task_of_batch (only_one i) ∙ own)));
    own_entries = g.own_entries;
    batches = λ k x. those-append task_of_batch k j' (b ∷ [])
        ∙ (ap (λ l. batches_by k j' ++ l)
        (those_none task_of_batch k (b ∷ [])
        (λ y i e. apart (subst (λ z. Has z ended) (sym e ∙ (ap task_of_batch (only_one i) ∙ own)) x)))
        ∙ (append-nil (batches_by k j') ∙ g.batches k x));
    entries = g.entries;
  }
    where
      those : List Batch
      those = batches_by number (b ∷ [])

-- what a seat that took the pen has seen
pub pen_grows : (v m : View Entry) (number : ℕ) → v.numbers ≡ number ∷ rest_of v.numbers → Sees (with_pen v) m
    → Grows number (rest_of v.numbers) v.journal m.journal v.history m.history [] []
pen_grows v m number named s =
    let history : m.history ≡ v.history = ap (λ (z : View Entry). z.history) s.view in
    grows_by named s.journal (subst (λ h. Begins h v.history) (sym history) (begins_self v.history)) s.batches
    (λ k x. ap (entries_by world_means k) history)

-- what a seat that gave the pen back with nothing has seen
pub back_grows : (v m n : View Entry) (number : ℕ) → v.numbers ≡ number ∷ rest_of v.numbers → Sees (with_pen v) m
    → n ≡ record m { pen = false }
    → Grows number (rest_of v.numbers) v.journal n.journal v.history n.history [] []
back_grows v m n number named s is =
    subst (λ (z : View Entry). Grows number (rest_of v.numbers) v.journal z.journal v.history z.history [] []) (sym is)
    (pen_grows v m number named s)

-- what a seat that published a batch has seen
pub batch_grows : (v m n : View Entry) (number : ℕ) (creds : Creds) (b : Batch) → v.numbers ≡ number ∷ rest_of v.numbers
    → (Has number (rest_of v.numbers) → ⊥) → b.task ≡ number → Sees (with_pen v) m
    → n ≡ record m { journal = m.journal ++ b ∷ []; pen = false; filled = [] }
    → IsBatchJudged m.journal creds b.ops Published.Batch
    → Publishes number (rest_of v.numbers) v.journal n.journal v.history n.history b.seq b.ops creds
batch_grows v m n number creds b named apart own s is judged =
    let same : b ≡ batch_of number b.seq b.ops = λ i. record { task = own i; seq = b.seq; ops = b.ops } in
    let grows = grows_batch b own apart (pen_grows v m number named s) in record {
      before = m.journal;
      is = ap (λ (z : View Entry). z.journal) is ∙ ap (λ z. m.journal ++ z ∷ []) same;
      more = s.journal;
      grows = subst
          (λ (z : View Entry × Batch). Grows number (rest_of v.numbers) v.journal z.0.journal v.history z.0.history
          (z.1 ∷ []) []) (λ i. (sym is i, same i)) grows;
      effective = judged.0;
      fits = judged.1;
    }

-- what was judged with the pen holds of what is seen after it
pub back_judged : (m n : View Entry) (creds : Creds) (ops : List RuleOp) (p q : Published)
    → n ≡ record m { pen = false } → q ≡ p → IsBatchJudged m.journal creds ops q
    → IsBatchJudged n.journal creds ops p
back_judged m n creds ops p q is same judged = subst
    (λ (z : View Entry × Published). IsBatchJudged z.0.journal creds ops z.1) (λ i. (sym is i, same i)) judged
