-- A history has fewer entries than its script has lines where a line has no call; and no task has more calls than lines.
use Rattle.std.proofs.Common.{◌≡◌, ℕ, ◌<◌, ◌≤◌, List, [], ◌∷◌, length, Bool, true, sym, refl, ap, subst, arith, ⊎_elim, inl, inr}
use Rattle.atomic_table.specs.Seated.{TableId}
use Rattle.world_spec.specs.declared.Entry.{Entry}
use Rattle.script_spec.specs.Lines.{ScriptLine}
use Rattle.legal_spec.specs.Calls.{IsNumberOf}
use Rattle.live_table.specs.Lists.{Has, here, there}
use Rattle.smack_kernel.specs.Tasks.{TaskValue, booted_task, most_calls}
use Rattle.smack_kernel.specs.Answers.{ClosedValue, Closes}
use Rattle.runs_spec.specs.Scripts.{Scripted, lines_by}
use Rattle.runs_spec.specs.Deeds.{entries_of, Deed, entries_in}
use Rattle.runs_spec.specs.Runs.{own, numbers, asked_of, Distinct, WentOver}
use Rattle.runs_spec.specs.Stops.{IsForkedTask, LacksCalls, IsOutOfCalls}
use Rattle.runs_spec.proofs.Stops.{fits_length}
use Rattle.run_laws.proofs.Lists.{has_stands}
use Rattle.run_laws.proofs.Histories.{seen_as_one}
use Rattle.run_laws.proofs.Sorting.{in_order}
use Rattle.run_laws.proofs.Counts.{length_kinds}
use Rattle.run_laws.proofs.Legal.{life, named, entry_task}
use Rattle.run_laws.proofs.Numbers.{pid_of_life, one_number}
use Rattle.run_laws.proofs.Sums.{sum_of, all_under, under_distinct}

entries_few : (ds : List Deed) → length (entries_in ds) ≤ length ds
entries_few ds = omega (arith, length_kinds ds)

module _ (full : Bool) (s : Scripted) (left : List ScriptLine) (done : full ≡ true → left ≡ []) (t : TableId) (w : TaskValue) (g : WentOver full s (lines_by 0 s.lines) left (booted_task t) w) (labels : List (List ℕ)) (closed : ClosedValue) (c : Closes labels w closed) where
  abbrev h : List Entry
  h = w.history

  abbrev all : List ℕ
  all = 0 ∷ numbers g.run

  abbrev entry_count : ℕ → ℕ
  entry_count k = length (entries_of k h)

  abbrev line_count : ℕ → ℕ
  line_count p = length (lines_by p s.lines)

  -- a number with fewer entries than its script task has lines
  record IsShort (k : ℕ) : Type 0 where
    pid : ℕ
    is : IsNumberOf h k (record { 0 = pid })
    fewer : entry_count k < line_count pid

  -- numbers and their pids: no more entries than lines
  record Tally (ks : List ℕ) : Type 0 where
    pids : List ℕ
    distinct : Distinct pids
    of : (p : ℕ) → Has p pids → (k : ℕ) × Has k ks × IsNumberOf h k (record { 0 = p })
    few : sum_of entry_count ks ≤ sum_of line_count pids
    fewer : (k : ℕ) → Has k ks → IsShort k → sum_of entry_count ks < sum_of line_count pids

  tally_more : (k pid : ℕ) (ks : List ℕ) → IsNumberOf h k (record { 0 = pid }) → entry_count k ≤ line_count pid
      → ((p : ℕ) → IsNumberOf h k (record { 0 = p }) → pid ≡ p) → (Has k ks → ⊥) → Tally ks → Tally (k ∷ ks)
  tally_more k pid ks is low one new T = record {
    pids = pid ∷ T.pids;
    distinct = (
      (λ i.
          let b = T.of pid i in
          let same = one_number full s w.journal h (in_order (asked_of g.run)) (seen_as_one c).steps (seen_as_one c).legal k b.0 (record { 0 = pid }) is b.2 in
          new (subst (λ n. Has n ks) (sym same) b.1)),
      T.distinct,
    );
    of = of;
    few = omega (arith, low, T.few);
    fewer = fewer;
  } where
    of : (p : ℕ) → Has p (pid ∷ T.pids) → (n : ℕ) × Has n (k ∷ ks) × IsNumberOf h n (record { 0 = p })
    of p here = (k, here, is)
    of p (there i) = let b = T.of p i in (b.0, there b.1, b.2)

    fewer : (n : ℕ) → Has n (k ∷ ks) → IsShort n → sum_of entry_count (k ∷ ks) < sum_of line_count (pid ∷ T.pids)
    fewer n here q =
        let same = ap line_count (one q.pid q.is) in omega (arith, same, q.fewer, T.few)
    fewer n (there i) q = omega (arith, low, T.fewer n i q)

  tally : (ks : List ℕ) → Distinct ks → ((k : ℕ) → Has k ks → Has k all) → Tally ks
  tally [] d within = record { pids = []; distinct = tt; of = λ p i. elim i [ ]; few = omega arith; fewer = λ k i. elim i [ ] }
  tally (k ∷ ks) d within =
      let L = life full s left done t w g labels closed c k (within k here) in
      tally_more k L.pid ks (named full s left done t w g labels closed c k L)
      (omega (
        arith,
        ap (λ (es : List Entry). length es) L.entries,
        entries_few L.calls,
        fits_length s k 1 L.calls (lines_by L.pid s.lines) L.rest L.fits,
      ))
      (λ p is. pid_of_life full s w.journal h (in_order (asked_of g.run)) (seen_as_one c).steps (seen_as_one c).legal k (record { 0 = p }) L is)
      d.0 (tally ks d.1 (λ n i. within n (there i)))

  short_of : LacksCalls s (lines_by 0 s.lines) (booted_task t) w → (k : ℕ) × Has k all × IsShort k
  short_of lacks = ⊎_elim
      (λ m. (
        0,
        here,
        record {
          pid = 0;
          is = inl (refl, refl);
          fewer = omega (arith, m, g.made, ap (λ (es : List Entry). length es) g.own_entries, entries_few (own g.run));
        },
      ))
      (λ b. (b.0, there (subst (Has b.0) g.ended b.1), cut b.0 b.2 b.3)) lacks
    where
      cut : (k : ℕ) → (q : IsForkedTask s w k) → 0 < length q.rest → IsShort k
      cut k q some = let st = has_stands h q.fork q.there in record {
        pid = q.pid;
        is = inr (st.0, q.fork, st.1, q.is);
        fewer = omega (
          arith,
          ap (λ (es : List Entry). length es) q.made.entries,
          entries_few q.calls,
          some,
          fits_length s k 1 q.calls (lines_by q.pid s.lines) q.rest q.fits,
        );
      }

  pub fewer_entries : LacksCalls s (lines_by 0 s.lines) (booted_task t) w → length h < length s.lines
  fewer_entries lacks =
      let T = tally all ((λ u. g.apart 0 here u), g.distinct) (λ k u. u) in
      let q = short_of lacks in
      omega (
        arith,
        all_under (λ (e : Entry). e.task) h all (λ e u. let st = has_stands h e u in entry_task full s left done t w g labels closed c st.0 e st.1),
        T.fewer q.0 q.1 q.2,
        under_distinct (λ (l : ScriptLine). l.task) s.lines T.pids T.distinct,
      )

  lines_within : (p : ℕ) → line_count p ≤ length s.lines
  lines_within p = omega (arith, under_distinct (λ (l : ScriptLine). l.task) s.lines (p ∷ []) ((λ u. elim u [ ]), tt))

  -- no task has more calls than the script has lines
  pub calls_within : IsOutOfCalls s w → most_calls ≤ length s.lines
  calls_within out = ⊎_elim
      (λ m. omega (arith, m, g.made, fits_length s 0 1 (own g.run) (lines_by 0 s.lines) left g.fits, lines_within 0))
      (λ b. let f = b.2 in
      omega (arith, b.3, fits_length s b.0 1 f.calls (lines_by f.pid s.lines) f.rest f.fits, lines_within f.pid)) out
