-- What is known of one task of a run, of its number in a journal, a history and asked lines.
use Rattle.std.proofs.Common.{◌≡◌, ℕ, ◌+◌, ◌<◌, ◌≤◌, ◌⊎◌, List, [], Bool, true, sym, subst}
use Rattle.rules_spec.specs.declared.Batch.{Batch}
use Rattle.world_spec.specs.declared.Entry.{Entry}
use Rattle.script_spec.specs.Lines.{ScriptLine}
use Rattle.record_spec.specs.declared.AskedLine.{AskedLine}
use Rattle.legal_spec.specs.Calls.{Stands, IsForkOf}
use Rattle.live_table.specs.Lists.{Has, those_of}
use Rattle.live_table.specs.Batches.{batches_by, task_of_batch}
use Rattle.runs_spec.specs.Scripts.{Scripted, lines_by}
use Rattle.runs_spec.specs.Deeds.{entries_of, Deed, entered, batched, answered, entries_in, batches_in, AllAt, FitsTo, by_place}
use Rattle.run_laws.proofs.Lists.{Rising, rising_pairs, one_place, stands_has, has_those}
use Rattle.run_laws.proofs.Deeds.{lines_of, seq_of, need_of, reach_of, Rises, RisesBy, deed_of_entry, deed_of_batch, deed_of_line, at_of, entry_rising, batch_rising, line_rising, fits_cut, Later}

-- the asked, refused and waited lines of one task
abbrev pub asked_by : ℕ → List AskedLine → List AskedLine
asked_by = those_of (λ l. l.task)

-- The calls of a number are those of the first lines of its script task; and where they stand.
pub record Life (full : Bool) (s : Scripted) (j : List Batch) (h : List Entry) (ls : List AskedLine) (k : ℕ) : Type 0 where
  pub pid : ℕ
  pub calls : List Deed
  pub rest : List ScriptLine
  pub fits : FitsTo s k 1 calls (lines_by pid s.lines) rest
  pub done : full ≡ true → rest ≡ []
  pub batches : batches_by k j ≡ batches_in calls
  pub entries : entries_of k h ≡ entries_in calls
  pub lines : asked_by k ls ≡ lines_of calls
  pub at : AllAt j h k calls
  pub place_low : ℕ
  pub place_high : ℕ
  pub places : RisesBy by_place place_low calls place_high
  pub low : ℕ
  pub high : ℕ
  pub rises : Rises low calls high
  -- it is the first task, or it was made by a fork that stands before its entries
  pub born : ((k ≡ 0) × (pid ≡ 0))
      ⊎ ((e : Entry) × (n : ℕ) × Stands h n e × IsForkOf e k (record { 0 = pid }) × (e.version ≤ low) × (n + 1 ≤ place_low))

pub record DeedOf (ds : List Deed) (q n r : ℕ) : Type 0 where
  pub deed : Deed
  pub there_ : Has deed ds
  pub seq : seq_of deed ≡ q
  pub need : need_of deed ≡ n
  pub reach : reach_of deed ≡ r

module _ (full : Bool) (s : Scripted) (j : List Batch) (h : List Entry) (ls : List AskedLine) (k : ℕ) (L : Life full s j h ls k) where
  entries_rise : Rising (λ (e : Entry). e.task) (λ (e : Entry). e.seq) 1 (entries_of k h)
  entries_rise =
      subst (Rising (λ (e : Entry). e.task) (λ (e : Entry). e.seq) 1) (sym L.entries)
      (entry_rising s k 1 L.calls (lines_by L.pid s.lines) L.rest L.fits)

  batches_rise : Rising (λ (b : Batch). b.task) (λ (b : Batch). b.seq) 1 (batches_by k j)
  batches_rise =
      subst (Rising (λ (b : Batch). b.task) (λ (b : Batch). b.seq) 1) (sym L.batches)
      (batch_rising s k 1 L.calls (lines_by L.pid s.lines) L.rest L.fits)

  lines_rise : Rising (λ (a : AskedLine). a.task) (λ (a : AskedLine). a.seq) 1 (asked_by k ls)
  lines_rise =
      subst (Rising (λ (a : AskedLine). a.task) (λ (a : AskedLine). a.seq) 1) (sym L.lines)
      (line_rising s k 1 L.calls (lines_by L.pid s.lines) L.rest L.fits)

  -- and so do its other lines
  pub line_seqs_rise : (n m : ℕ) (a b : AskedLine) → Stands ls n a → Stands ls m b → a.task ≡ k → b.task ≡ k → n < m → a.seq < b.seq
  line_seqs_rise n m a b = rising_pairs (λ (x : AskedLine). x.task) (λ (x : AskedLine). x.seq) k 1 ls lines_rise n m a b

  -- the object calls of a task stand in the order of their numbers
  pub seqs_rise : (n m : ℕ) (e f : Entry) → Stands h n e → Stands h m f → e.task ≡ k → f.task ≡ k → n < m → e.seq < f.seq
  seqs_rise n m e f = rising_pairs (λ (x : Entry). x.task) (λ (x : Entry). x.seq) k 1 h entries_rise n m e f

  -- an entry has one place
  pub one_entry : (n m : ℕ) (e : Entry) → Stands h n e → Stands h m e → e.task ≡ k → n ≡ m
  one_entry n m e = one_place (λ (x : Entry). x.task) (λ (x : Entry). x.seq) k 1 h entries_rise n m e

  -- and a batch
  pub one_batch : (n m : ℕ) (b : Batch) → Stands j n b → Stands j m b → b.task ≡ k → n ≡ m
  one_batch n m b = one_place (λ (x : Batch). x.task) (λ (x : Batch). x.seq) k 1 j batches_rise n m b

  -- an entry of the task is one of its calls
  pub entry_deed : (n : ℕ) (e : Entry) → Stands h n e → e.task ≡ k → Has (entered e n) L.calls
  entry_deed n e st is =
      let d = deed_of_entry L.calls e (subst (Has e) L.entries (has_those (λ (x : Entry). x.task) k h e is (stands_has h n e st))) in
      let same = one_entry d.0 n e (at_of j h k L.calls (entered e d.0) L.at d.1) st is in
      subst (λ x. Has (entered e x) L.calls) same d.1

  pub batch_deed : (n : ℕ) (b : Batch) → Stands j n b → b.task ≡ k → (m : ℕ) × Has (batched n b m) L.calls
  batch_deed n b st is =
      let d = deed_of_batch L.calls b (subst (Has b) L.batches (has_those task_of_batch k j b is (stands_has j n b st))) in
      let same = one_batch d.0 n b (at_of j h k L.calls (batched d.0 b d.1) L.at d.2).0 st is in
      (d.1, subst (λ x. Has (batched x b d.1) L.calls) same d.2)

  pub line_deed : (l : AskedLine) → Has l ls → l.task ≡ k → (m : ℕ) × Has (answered l m) L.calls
  line_deed l g is = deed_of_line L.calls l (subst (Has l) L.lines (has_those (λ (x : AskedLine). x.task) k ls l is g))

  -- what is entered behind a line has at least this place
  pub later_place : (l : AskedLine) (m : ℕ) → Later m l L.calls → (x : Entry) (i : ℕ) → Has (entered x i) L.calls → l.seq < x.seq → m ≤ i
  later_place l m t x i g lt =
      t.low x i (fits_cut s k 1 t.front (answered l 0) t.back (lines_by L.pid s.lines) L.rest (entered x i)
      (subst (λ ds. FitsTo s k 1 ds (lines_by L.pid s.lines) L.rest) t.is L.fits) (subst (Has (entered x i)) t.is g) lt)
