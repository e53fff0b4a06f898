-- The calls of one task in order.
use Rattle.std.proofs.Common.{◌≡◌, ℕ, ◌+◌, ◌<◌, ◌≤◌, List, [], ◌∷◌, ◌++◌, sym, refl, ap, ◌∙◌, append_assoc, arith, Option, Some, None, ⊎_elim, le_refl}
use Rattle.rules_spec.specs.declared.Batch.{Batch}
use Rattle.world_spec.specs.declared.Entry.{Entry}
use Rattle.script_spec.specs.Lines.{ScriptLine}
use Rattle.record_spec.specs.declared.AskedLine.{AskedLine}
use Rattle.live_table.specs.Lists.{Has, here, there}
use Rattle.live_table.proofs.Lists.{has_right, has_either}
use Rattle.runs_spec.specs.Scripts.{Scripted}
use Rattle.runs_spec.specs.Deeds.{Deed, entered, batched, answered, asked_in, entries_in, batches_in, IsAt, AllAt, FitsLine, FitsTo, by_version, by_place}
use Rattle.runs_spec.specs.Runs.{TaskRun, ends, does, forks, wait_deeds, own, Awaits, Over}
use Rattle.runs_spec.proofs.Runs.{Clock, version_clock, place_clock}
use Rattle.run_laws.proofs.Lists.{Rising, rising_low}

-- the asked, refused and waited lines of some calls
abbrev pub lines_of : List Deed → List AskedLine
lines_of [] = []
lines_of (d ∷ ds) = asked_in d ++ lines_of ds

abbrev pub seq_of : Deed → ℕ
seq_of (entered e n) = e.seq
seq_of (batched n b m) = b.seq
seq_of (answered l m) = l.seq

abbrev pub need_of : Deed → ℕ
need_of (entered e n) = e.version
need_of (batched n b m) = n
need_of (answered l m) = l.version

abbrev pub reach_of : Deed → ℕ
reach_of (entered e n) = e.version
reach_of (batched n b m) = n + 1
reach_of (answered l m) = l.version

-- a clock over a task's calls, from a to z
abbrev pub RisesBy : (ℕ → Deed → ℕ → Type 0) → ℕ → List Deed → ℕ → Type 0
RisesBy step a [] z = a ≤ z
RisesBy step a (d ∷ ds) z = (b : ℕ) × step a d b × RisesBy step b ds z

abbrev pub Rises : ℕ → List Deed → ℕ → Type 0
Rises = RisesBy by_version

abbrev pub AreOf : ℕ → List Deed → Type 0
AreOf t [] = Unit {0}
AreOf t (entered e n ∷ ds) = (e.task ≡ t) × AreOf t ds
AreOf t (batched n b m ∷ ds) = (b.task ≡ t) × AreOf t ds
AreOf t (answered l m ∷ ds) = (l.task ≡ t) × AreOf t ds

pub are-append : (t : ℕ) (xs ys : List Deed) → AreOf t (xs ++ ys) → AreOf t xs × AreOf t ys
are-append t [] ys a = (tt, a)
are-append t (entered e n ∷ xs) ys a = let b = are-append t xs ys a.1 in ((a.0, b.0), b.1)
are-append t (batched n x m ∷ xs) ys a = let b = are-append t xs ys a.1 in ((a.0, b.0), b.1)
are-append t (answered l m ∷ xs) ys a = let b = are-append t xs ys a.1 in ((a.0, b.0), b.1)

pub fits_of : (s : Scripted) (t q : ℕ) (d : Deed) (l : ScriptLine) → FitsLine s t q d l → AreOf t (d ∷ []) × (seq_of d ≡ q)
fits_of s t q (entered e n) l f = ((f.0, tt), f.1)
fits_of s t q (batched n b m) l f = ((f.0, tt), f.1)
fits_of s t q (answered a m) l f = ((f.0, tt), f.1)

are_cons : (t : ℕ) (d : Deed) (ds : List Deed) → AreOf t (d ∷ []) → AreOf t ds → AreOf t (d ∷ ds)
are_cons t (entered e n) ds a b = (a.0, b)
are_cons t (batched n x m) ds a b = (a.0, b)
are_cons t (answered l m) ds a b = (a.0, b)

pub fits_are : (s : Scripted) (t q : ℕ) (ds : List Deed) (ls rest : List ScriptLine) → FitsTo s t q ds ls rest → AreOf t ds
fits_are s t q [] ls rest f = tt
fits_are s t q (d ∷ ds) [] rest f = absurd f
fits_are s t q (d ∷ ds) (l ∷ ls) rest f = are_cons t d ds (fits_of s t q d l f.0).0 (fits_are s t (q + 1) ds ls rest f.1)

module _ (step : ℕ → Deed → ℕ → Type 0) (clock : Clock step) where
  rises_low : (a a' : ℕ) (ds : List Deed) (z : ℕ) → a' ≤ a → RisesBy step a ds z → RisesBy step a' ds z
  rises_low a a' [] z l r = omega arith
  rises_low a a' (d ∷ ds) z l r = (r.0, clock.low a a' d r.0 l r.1, r.2)

  rises-append : (a : ℕ) (xs ys : List Deed) (m z : ℕ) → RisesBy step a xs m → RisesBy step m ys z → RisesBy step a (xs ++ ys) z
  rises-append a [] ys m z r q = rises_low m a ys z r q
  rises-append a (d ∷ xs) ys m z r q = (r.0, r.1, rises-append r.0 xs ys m z r.2 q)

  wait_rises : (m m' : ℕ) (x : Option AskedLine) → Awaits step m x m' → RisesBy step m (wait_deeds x) m'
  wait_rises m m' None h = h
  wait_rises m m' (Some l) h = (m', h, le_refl m')

  pub over_rises : (a : ℕ) (r : TaskRun) (z : ℕ) → Over step a r z → RisesBy step a (own r) z
  over_rises a ends z o = o
  over_rises a (does d r) z o = (o.0, o.1, over_rises o.0 r z o.2)
  over_rises a (forks e n pid k p c w r) z o = (o.0, o.1, rises-append o.0 (own p) (wait_deeds w ++ own r) o.2 z (over_rises o.0 p o.2 o.3) (rises-append o.2 (wait_deeds w) (own r) o.5 z (wait_rises o.2 o.5 w o.6) (over_rises o.5 r z o.7)))

pub need_low : (a b : ℕ) (d : Deed) → by_version a d b → (a ≤ need_of d) × (reach_of d ≤ b)
need_low a b (entered e n) s = s
need_low a b (batched n x m) s = s
need_low a b (answered l m) s = s

pub places_up : (a : ℕ) (ds : List Deed) (z : ℕ) → RisesBy by_place a ds z → a ≤ z
places_up a [] z r = r
places_up a (d ∷ ds) z r = let x = place_clock.rises a d r.0 r.1 in let y = places_up r.0 ds z r.2 in omega arith

pub rises_up : (a : ℕ) (ds : List Deed) (z : ℕ) → Rises a ds z → a ≤ z
rises_up a [] z r = r
rises_up a (d ∷ ds) z r = let x = version_clock.rises a d r.0 r.1 in let y = rises_up r.0 ds z r.2 in omega arith

-- each call needs at least the first version and reaches at most the last
pub rises_within : (a : ℕ) (ds : List Deed) (z : ℕ) (d : Deed) → Rises a ds z → Has d ds → (a ≤ need_of d) × (reach_of d ≤ z)
rises_within a [] z x r h = elim h [ ]
rises_within a (d ∷ ds) z x r here = let n = need_low a r.0 d r.1 in let u = rises_up r.0 ds z r.2 in let v = n.1 in (n.0, omega arith)
rises_within a (d ∷ ds) z x r (there h) = let i = rises_within r.0 ds z x r.2 h in let u = version_clock.rises a d r.0 r.1 in let v = i.0 in (omega arith, i.1)

pub seq_low : (s : Scripted) (t q : ℕ) (ds : List Deed) (ls rest : List ScriptLine) (d : Deed) → FitsTo s t q ds ls rest → Has d ds → q ≤ seq_of d
seq_low s t q [] ls rest d f h = elim h [ ]
seq_low s t q (x ∷ ds) [] rest d f h = absurd f
seq_low s t q (x ∷ ds) (l ∷ ls) rest d f here = let e = (fits_of s t q x l f.0).1 in omega arith
seq_low s t q (x ∷ ds) (l ∷ ls) rest d f (there h) = let e = seq_low s t (q + 1) ds ls rest d f.1 h in omega arith

-- a later call needs at least what an earlier one reached
pub ordered : (s : Scripted) (t q a : ℕ) (ds : List Deed) (ls rest : List ScriptLine) (z : ℕ) (d d' : Deed) → FitsTo s t q ds ls rest → Rises a ds z → Has d ds → Has d' ds → seq_of d < seq_of d' → reach_of d ≤ need_of d'
ordered s t q a [] ls rest z d d' f r h h' lt = elim h [ ]
ordered s t q a (x ∷ ds) [] rest z d d' f r h h' lt = absurd f
ordered s t q a (x ∷ ds) (l ∷ ls) rest z d d' f r here here lt = absurd (omega arith)
ordered s t q a (x ∷ ds) (l ∷ ls) rest z d d' f r here (there h') lt = let n = (need_low a r.0 x r.1).1 in let i = (rises_within r.0 ds z d' r.2 h').0 in omega arith
ordered s t q a (x ∷ ds) (l ∷ ls) rest z d d' f r (there h) here lt = absurd (let e = (fits_of s t q x l f.0).1 in let i = seq_low s t (q + 1) ds ls rest d f.1 h in omega arith)
ordered s t q a (x ∷ ds) (l ∷ ls) rest z d d' f r (there h) (there h') lt = ordered s t (q + 1) r.0 ds ls rest z d d' f.1 r.2 h h' lt

-- a call has one number
pub one_deed : (s : Scripted) (t q : ℕ) (ds : List Deed) (ls rest : List ScriptLine) (d d' : Deed) → FitsTo s t q ds ls rest → Has d ds → Has d' ds → seq_of d ≡ seq_of d' → d ≡ d'
one_deed s t q [] ls rest d d' f h h' same = elim h [ ]
one_deed s t q (x ∷ ds) [] rest d d' f h h' same = absurd f
one_deed s t q (x ∷ ds) (l ∷ ls) rest d d' f here here same = refl
one_deed s t q (x ∷ ds) (l ∷ ls) rest d d' f here (there h') same = absurd (let e = (fits_of s t q x l f.0).1 in let i = seq_low s t (q + 1) ds ls rest d' f.1 h' in omega arith)
one_deed s t q (x ∷ ds) (l ∷ ls) rest d d' f (there h) here same = absurd (let e = (fits_of s t q x l f.0).1 in let i = seq_low s t (q + 1) ds ls rest d f.1 h in omega arith)
one_deed s t q (x ∷ ds) (l ∷ ls) rest d d' f (there h) (there h') same = one_deed s t (q + 1) ds ls rest d d' f.1 h h' same

pub deed_of_entry : (ds : List Deed) (e : Entry) → Has e (entries_in ds) → (n : ℕ) × Has (entered e n) ds
deed_of_entry [] e h = elim h [ ]
deed_of_entry (entered x n ∷ ds) e here = (n, here)
deed_of_entry (entered x n ∷ ds) e (there h) = let i = deed_of_entry ds e h in (i.0, there i.1)
deed_of_entry (batched n b m ∷ ds) e h = let i = deed_of_entry ds e h in (i.0, there i.1)
deed_of_entry (answered l m ∷ ds) e h = let i = deed_of_entry ds e h in (i.0, there i.1)

pub deed_of_batch : (ds : List Deed) (b : Batch) → Has b (batches_in ds) → (n : ℕ) × (m : ℕ) × Has (batched n b m) ds
deed_of_batch [] b h = elim h [ ]
deed_of_batch (batched n x m ∷ ds) b here = (n, m, here)
deed_of_batch (batched n x m ∷ ds) b (there h) = let i = deed_of_batch ds b h in (i.0, i.1, there i.2)
deed_of_batch (entered e n ∷ ds) b h = let i = deed_of_batch ds b h in (i.0, i.1, there i.2)
deed_of_batch (answered l m ∷ ds) b h = let i = deed_of_batch ds b h in (i.0, i.1, there i.2)

pub deed_of_line : (ds : List Deed) (l : AskedLine) → Has l (lines_of ds) → (m : ℕ) × Has (answered l m) ds
deed_of_line [] l h = elim h [ ]
deed_of_line (answered x m ∷ ds) l here = (m, here)
deed_of_line (answered x m ∷ ds) l (there h) = let i = deed_of_line ds l h in (i.0, there i.1)
deed_of_line (entered e n ∷ ds) l h = let i = deed_of_line ds l h in (i.0, there i.1)
deed_of_line (batched n b m ∷ ds) l h = let i = deed_of_line ds l h in (i.0, there i.1)

pub at_of : (j : List Batch) (h : List Entry) (k : ℕ) (ds : List Deed) (d : Deed) → AllAt j h k ds → Has d ds → IsAt j h k d
at_of j h k [] d a g = elim g [ ]
at_of j h k (x ∷ ds) d a here = a.0
at_of j h k (x ∷ ds) d a (there g) = at_of j h k ds d a.1 g

pub place_high_of : (a : ℕ) (ds : List Deed) (z : ℕ) (e : Entry) (i : ℕ) → RisesBy by_place a ds z → Has (entered e i) ds → i + 1 ≤ z
place_high_of a [] z e i r h = elim h [ ]
place_high_of a (d ∷ ds) z e i r here = let u = places_up r.0 ds z r.2 in let v = r.1.1 in omega arith
place_high_of a (d ∷ ds) z e i r (there h) = place_high_of r.0 ds z e i r.2 h

pub place_low_of : (a : ℕ) (ds : List Deed) (z : ℕ) (e : Entry) (i : ℕ) → RisesBy by_place a ds z → Has (entered e i) ds → a ≤ i
place_low_of a [] z e i r h = elim h [ ]
place_low_of a (d ∷ ds) z e i r here = r.1.0
place_low_of a (d ∷ ds) z e i r (there h) = let x = place_clock.rises a d r.0 r.1 in let y = place_low_of r.0 ds z e i r.2 h in omega arith

-- a deed that saw the first m entries
pub record Saw (d : Deed) (m : ℕ) : Type 0 where
  pub clock : (a b : ℕ) → by_place a d b → (a ≤ m) × (m ≤ b)
  pub other : (e : Entry) (i : ℕ) → entered e i ≡ d → ⊥

pub saw_low : (a : ℕ) (ds : List Deed) (z : ℕ) (d : Deed) (m : ℕ) → Saw d m → RisesBy by_place a ds z → Has d ds → a ≤ m
saw_low a [] z d m w r h = elim h [ ]
saw_low a (x ∷ ds) z d m w r here = (w.clock a r.0 r.1).0
saw_low a (x ∷ ds) z d m w r (there h) = let i = place_clock.rises a x r.0 r.1 in let y = saw_low r.0 ds z d m w r.2 h in omega arith

-- the entries that it saw are those of the calls before it
pub place_order : (s : Scripted) (t q a : ℕ) (ds : List Deed) (ls rest : List ScriptLine) (z : ℕ) (d : Deed) (m : ℕ) (e : Entry) (i : ℕ) → FitsTo s t q ds ls rest → RisesBy by_place a ds z → Saw d m → Has d ds → Has (entered e i) ds → (i < m → e.seq < seq_of d) × (m ≤ i → seq_of d ≤ e.seq)
place_order s t q a [] ls rest z d m e i f r w h g = elim h [ ]
place_order s t q a (x ∷ ds) [] rest z d m e i f r w h g = absurd f
place_order s t q a (x ∷ ds) (l ∷ ls) rest z d m e i f r w here here = absurd (w.other e i refl)
place_order s t q a (x ∷ ds) (l ∷ ls) rest z d m e i f r w here (there g) = let c = (w.clock a r.0 r.1).1 in let y = place_low_of r.0 ds z e i r.2 g in let s1 = (fits_of s t q x l f.0).1 in let s2 = seq_low s t (q + 1) ds ls rest (entered e i) f.1 g in ((λ lt. absurd (omega arith)), (λ _. omega arith))
place_order s t q a (x ∷ ds) (l ∷ ls) rest z d m e i f r w (there h) here = let c = r.1.1 in let y = saw_low r.0 ds z d m w r.2 h in let s1 = (fits_of s t q x l f.0).1 in let s2 = seq_low s t (q + 1) ds ls rest d f.1 h in ((λ _. omega arith), (λ le. absurd (omega arith)))
place_order s t q a (x ∷ ds) (l ∷ ls) rest z d m e i f r w (there h) (there g) = place_order s t (q + 1) r.0 ds ls rest z d m e i f.1 r.2 w h g

-- the line stands among the calls, and what is entered behind it has at least the place m
pub record Later (m : ℕ) (l : AskedLine) (ds : List Deed) : Type 0 where
  pub front : List Deed
  pub back : List Deed
  pub is : ds ≡ front ++ answered l 0 ∷ back
  pub low : (x : Entry) (i : ℕ) → Has (entered x i) back → m ≤ i

pub later_left : (m : ℕ) (l : AskedLine) (xs ds : List Deed) → Later m l ds → Later m l (xs ++ ds)
later_left m l xs ds t = record { front = xs ++ t.front; back = t.back; is = ap (λ (y : List Deed). xs ++ y) t.is ∙ sym (append_assoc xs t.front (answered l 0 ∷ t.back)); low = t.low }

pub later_right : (m : ℕ) (l : AskedLine) (ds ys : List Deed) → ((x : Entry) (i : ℕ) → Has (entered x i) ys → m ≤ i) → Later m l ds → Later m l (ds ++ ys)
later_right m l ds ys f t = record { front = t.front; back = t.back ++ ys; is = ap (λ (y : List Deed). y ++ ys) t.is ∙ append_assoc t.front (answered l 0 ∷ t.back) ys; low = λ x i g. ⊎_elim (t.low x i) (f x i) (has_either t.back ys g) }

-- a deed with a higher number than the line's stands behind it
pub fits_cut : (s : Scripted) (t q : ℕ) (xs : List Deed) (d : Deed) (ys : List Deed) (ls rest : List ScriptLine) (x : Deed) → FitsTo s t q (xs ++ d ∷ ys) ls rest → Has x (xs ++ d ∷ ys) → seq_of d < seq_of x → Has x ys
fits_cut s t q [] d ys [] rest x f g lt = absurd f
fits_cut s t q [] d ys (l ∷ ls) rest x f here lt = absurd (omega arith)
fits_cut s t q [] d ys (l ∷ ls) rest x f (there g) lt = g
fits_cut s t q (y ∷ xs) d ys [] rest x f g lt = absurd f
fits_cut s t q (y ∷ xs) d ys (l ∷ ls) rest x f here lt = absurd (let s1 = (fits_of s t q y l f.0).1 in let s2 = seq_low s t (q + 1) (xs ++ d ∷ ys) ls rest d f.1 (has_right xs here) in omega arith)
fits_cut s t q (y ∷ xs) d ys (l ∷ ls) rest x f (there g) lt = fits_cut s t (q + 1) xs d ys ls rest x f.1 g lt

pub entry_rising : (s : Scripted) (t q : ℕ) (ds : List Deed) (ls rest : List ScriptLine) → FitsTo s t q ds ls rest
    → Rising (λ (e : Entry). e.task) (λ (e : Entry). e.seq) q (entries_in ds)
entry_rising s t q [] ls rest f = tt
entry_rising s t q (d ∷ ds) [] rest f = absurd f
entry_rising s t q (batched n e m ∷ ds) (l ∷ ls) rest f = rising_low (λ (e : Entry). e.task) (λ (e : Entry). e.seq) (q + 1) q (entries_in ds) (omega arith) (entry_rising s t (q + 1) ds ls rest f.1)
entry_rising s t q (entered b n ∷ ds) (l ∷ ls) rest f = let e = f.0.1 in (omega arith, rising_low (λ (e : Entry). e.task) (λ (e : Entry). e.seq) (q + 1) (b.seq + 1) (entries_in ds) (omega arith) (entry_rising s t (q + 1) ds ls rest f.1))
entry_rising s t q (answered x m ∷ ds) (l ∷ ls) rest f = rising_low (λ (e : Entry). e.task) (λ (e : Entry). e.seq) (q + 1) q (entries_in ds) (omega arith) (entry_rising s t (q + 1) ds ls rest f.1)

pub batch_rising : (s : Scripted) (t q : ℕ) (ds : List Deed) (ls rest : List ScriptLine) → FitsTo s t q ds ls rest
    → Rising (λ (b : Batch). b.task) (λ (b : Batch). b.seq) q (batches_in ds)
batch_rising s t q [] ls rest f = tt
batch_rising s t q (d ∷ ds) [] rest f = absurd f
batch_rising s t q (entered e n ∷ ds) (l ∷ ls) rest f = rising_low (λ (b : Batch). b.task) (λ (b : Batch). b.seq) (q + 1) q (batches_in ds) (omega arith) (batch_rising s t (q + 1) ds ls rest f.1)
batch_rising s t q (batched n b m ∷ ds) (l ∷ ls) rest f = let e = f.0.1 in (omega arith, rising_low (λ (b : Batch). b.task) (λ (b : Batch). b.seq) (q + 1) (b.seq + 1) (batches_in ds) (omega arith) (batch_rising s t (q + 1) ds ls rest f.1))
batch_rising s t q (answered x m ∷ ds) (l ∷ ls) rest f = rising_low (λ (b : Batch). b.task) (λ (b : Batch). b.seq) (q + 1) q (batches_in ds) (omega arith) (batch_rising s t (q + 1) ds ls rest f.1)

pub line_rising : (s : Scripted) (t q : ℕ) (ds : List Deed) (ls rest : List ScriptLine) → FitsTo s t q ds ls rest
    → Rising (λ (a : AskedLine). a.task) (λ (a : AskedLine). a.seq) q (lines_of ds)
line_rising s t q [] ls rest f = tt
line_rising s t q (d ∷ ds) [] rest f = absurd f
line_rising s t q (entered e n ∷ ds) (l ∷ ls) rest f = rising_low (λ (a : AskedLine). a.task) (λ (a : AskedLine). a.seq) (q + 1) q (lines_of ds) (omega arith) (line_rising s t (q + 1) ds ls rest f.1)
line_rising s t q (batched n b m ∷ ds) (l ∷ ls) rest f = rising_low (λ (a : AskedLine). a.task) (λ (a : AskedLine). a.seq) (q + 1) q (lines_of ds) (omega arith) (line_rising s t (q + 1) ds ls rest f.1)
line_rising s t q (answered a m ∷ ds) (l ∷ ls) rest f = let e = f.0.1 in (omega arith, rising_low (λ (x : AskedLine). x.task) (λ (x : AskedLine). x.seq) (q + 1) (a.seq + 1) (lines_of ds) (omega arith) (line_rising s t (q + 1) ds ls rest f.1))
