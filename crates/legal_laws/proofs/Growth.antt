use Rattle.std.proofs.Common.{◌≡◌, ◌≤◌, ◌<◌, ◌⊎◌, ℕ, ◌+◌, ◌==◌, cond, inl, inr, List, [], ◌∷◌, ◌++◌, length, length-append, refl, ap, ◌∙◌, arith}
use Rattle.std.proofs.lemmas.Bool.{eq-eqb}
use Rattle.std.proofs.lemmas.List.Sums.{sum_by-append}
use Rattle.script_spec.specs.Lines.{ScriptLine}
use Rattle.script_spec.specs.Tasks.{calls_by, change_of, forked_name, task_names}
use Rattle.record_spec.specs.declared.RunRecord.{RunRecord}
use Rattle.replay_spec.specs.Replays.{Run}
use Rattle.legal_spec.specs.Calls.{IsCall, batch as batch_call, entry as entry_call, asked as asked_call}
use Rattle.plain_laws.proofs.Tasks.{names_more}
use Rattle.legal_laws.proofs.Places.{stands_more, asked_more}
use Rattle.legal_laws.proofs.Runs.{batch_by, entry_by, asked_by, IsNext, batch, entry, asked, Replays, first, more}

-- a run as a record
abbrev pub record_of : List (List ℕ) → List (List ℕ) → Run → RunRecord
record_of labels names run = record {
  labels = labels;
  names = names;
  journal = run.journal;
  history = run.history;
  asked = run.asked;
}

-- the call that a line has become
pub record IsNewCall (run after : Run) (l : ScriptLine) (task seq needs reaches : ℕ) : Type 0 where
  pub own : task ≡ l.task
  pub last : seq ≡ l.seq
  pub newest : needs ≡ length run.journal
  pub within : reaches ≤ length after.journal

module _ (labels names : List (List ℕ)) where
  abbrev pub CallIn : Run → ℕ → ℕ → ℕ → ℕ → Type 0
  CallIn run task seq needs reaches = IsCall (record_of labels names run) task seq needs reaches

  -- a call of the run after a line is one of the run before it, or the line's
  pub call_grows : (run after : Run) (l : ScriptLine) → IsNext labels names run l after → (k q n m : ℕ) → CallIn after k q n m
      → CallIn run k q n m ⊎ IsNewCall run after l k q n m
  call_grows run after l (batch ops of may) k q n m (batch_call i b at) =
      elim (stands_more run.journal (batch_by l ops) i b at) [
        | inl old ↦ inl (batch_call i b old)
        | inr new ↦
            inr
            (record {
              own = ap (λ x. x.task) new.1;
              last = ap (λ x. x.seq) new.1;
              newest = new.0;
              within = omega (arith, new.0, length-append run.journal (batch_by l ops ∷ []));
            })
      ]
  call_grows run after l (batch ops of may) k q n m (entry_call i e at) = inl (entry_call i e at)
  call_grows run after l (batch ops of may) k q n m (asked_call i a at) = inl (asked_call i a at)
  call_grows run after l (entry call of) k q n m (batch_call i b at) = inl (batch_call i b at)
  call_grows run after l (entry call of) k q n m (entry_call i e at) =
      elim (stands_more run.history (entry_by run l call) i e at) [
        | inl old ↦ inl (entry_call i e old)
        | inr new ↦
            let version : e.version ≡ length run.journal = ap (λ x. x.version) new.1 in
            inr
            (record { own = ap (λ x. x.task) new.1; last = ap (λ x. x.seq) new.1; newest = version; within = omega (arith, version) })
      ]
  call_grows run after l (entry call of) k q n m (asked_call i a at) = inl (asked_call i a at)
  call_grows run after l (asked what of so) k q n m (batch_call i b at) = inl (batch_call i b at)
  call_grows run after l (asked what of so) k q n m (entry_call i e at) = inl (entry_call i e at)
  call_grows run after l (asked what of so) k q n m (asked_call i a at) =
      elim (asked_more run.asked (asked_by run l what) i a at) [
        | inl old ↦ inl (asked_call old.0 a old.1)
        | inr new ↦
            let version : a.version ≡ length run.journal = ap (λ x. x.version) new in
            inr (record { own = ap (λ x. x.task) new; last = ap (λ x. x.seq) new; newest = version; within = omega (arith, version) })
      ]

  -- the journal grows
  pub journal_grows : (run after : Run) (l : ScriptLine) → IsNext labels names run l after → length run.journal ≤ length after.journal
  journal_grows run after l (batch ops of may) = omega (arith, length-append run.journal (batch_by l ops ∷ []))
  journal_grows run after l (entry call of) = omega arith
  journal_grows run after l (asked what of so) = omega arith

-- the calls of a task with one more line, and the tasks
pub calls_more : (above : List ScriptLine) (l : ScriptLine) (k : ℕ) → calls_by (above ++ l ∷ []) k ≡ calls_by above k + cond (l.task == k) 1 0
calls_more above l k = omega (arith, sum_by-append (λ (x : ScriptLine). cond (x.task == k) 1 0) above (l ∷ []))

pub own_calls_more : (above : List ScriptLine) (l : ScriptLine) → calls_by (above ++ l ∷ []) l.task ≡ calls_by above l.task + 1
own_calls_more above l =
    let one : ◌≡◌ {A = ℕ} (cond (l.task == l.task) 1 0) 1 = ap (λ b. cond b 1 0) (eq-eqb l.task l.task refl) in
    omega (arith, calls_more above l l.task, one)

pub tasks_more : (above : List ScriptLine) (l : ScriptLine) → length (task_names above) ≤ length (task_names (above ++ l ∷ []))
tasks_more above l =
    omega (arith, ap (λ (t : List (List ℕ)). length t) (names_more above l), length-append (task_names above) (forked_name (change_of l)))

-- the numbers of the calls of a run, and the versions that they reach, are those of the lines so far
pub record IsWithin (above : List ScriptLine) (run : Run) (task seq reaches : ℕ) : Type 0 where
  pub from : 1 ≤ seq
  pub to : seq ≤ calls_by above task
  pub version : reaches ≤ length run.journal
  pub there : task < length (task_names above)

module _ (labels names : List (List ℕ)) where
  pub calls_within : (above : List ScriptLine) (run : Run) → Replays labels names above run → (k q n m : ℕ) → CallIn labels names run k q n m
      → IsWithin above run k q m
  calls_within lines now first k q n m (batch_call i b at) = cc
  calls_within lines now first k q n m (entry_call i e at) = cc
  calls_within lines now first k q n m (asked_call i a at) = cc
  calls_within lines now (more above l run after replays good in_step rest whole next) k q n m call =
      let names_grow = tasks_more above l in
      let versions_grow = journal_grows labels names run after l next in
      elim (call_grows labels names run after l next k q n m call) [
        | inl old ↦
            let w = calls_within above run replays k q n m old in
            record {
              from = w.from;
              to = omega (arith, w.to, calls_more above l k);
              version = omega (arith, w.version, versions_grow);
              there = omega (arith, w.there, names_grow);
            }
        | inr new ↦
            let own : calls_by (above ++ l ∷ []) k ≡ calls_by above l.task + 1 =
            ap (λ t. calls_by (above ++ l ∷ []) t) new.own ∙ own_calls_more above l in
            record {
              from = omega (arith, new.last, good.seq);
              to = omega (arith, new.last, good.seq, own);
              version = new.within;
              there = omega (arith, new.own, good.there, names_grow);
            }
      ]
