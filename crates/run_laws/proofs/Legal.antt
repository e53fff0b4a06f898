-- From what the tasks did, and the closed kernel, to a legal record.
use Rattle.std.proofs.Common.{◌≡◌, ℕ, ◌+◌, ◌<◌, ◌≤◌, ◌⊎◌, List, [], ◌∷◌, length, Bool, true, sym, refl, ap, ◌∙◌, subst, arith, ⊎_elim, inl, inr, Some}
use mathlib.Core.Logic.{dite}
use native.Mathlib.Decide.{ℕ_discrete}
use Rattle.std.proofs.Math.Nat.{eq-or-lt_of_le}
use Rattle.std.proofs.lemmas.Bool.{cases_lt}
use Rattle.std.specs.Prelude.{is_some}
use Rattle.atomic_table.specs.Seated.{TableId}
use Rattle.smack_base.specs.declared.ids.Pid.{Pid}
use Rattle.smack_base.specs.declared.cap.Cap.TheVariants as Cap
use Rattle.rules_spec.specs.declared.Batch.{Batch}
use Rattle.rules_spec.specs.Creds.{is_effective}
use Rattle.file_spec.specs.declared.Refusal.{Refusal}
use Rattle.file_spec.specs.Writes.{rule_file}
use Rattle.world_spec.specs.declared.Reply.TheVariants as Reply
use Rattle.world_spec.specs.declared.Entry.{Entry}
use Rattle.world_spec.specs.Replays.{version_of, cred_at}
use Rattle.script_spec.specs.Lines.{ScriptLine, word_in, table_of}
use Rattle.script_spec.specs.Tasks.{task_names}
use Rattle.record_spec.specs.declared.AskedLine.{AskedLine}
use Rattle.record_spec.specs.declared.AskedWhat.{AskedWhat}
use Rattle.record_spec.specs.declared.RunRecord.{RunRecord}
use Rattle.replay_spec.specs.Plain.{IsNameTable}
use Rattle.plain_laws.proofs.Tasks.{names_are_a_table}
use Rattle.legal_spec.specs.Calls.{Stands, IsNumberOf, IsCall, batch, entry, asked, Descends, itself, child}
use Rattle.legal_spec.specs.Legal.{IsEachCallOnce, AreJudged, ArePrivileged, IsRefused, IsSo, AreAnswered, HasWaited, IsFresh, IsLegal}
use Rattle.legal_spec.specs.Lines.{IsAskedOfLine}
use Rattle.legal_laws.proofs.TextRefusals.{rules_of_file}
use Rattle.legal_forms_laws.proofs.Steps.{are_judged as entries_are_judged}
use Rattle.live_table.specs.Lists.{Has, here, there}
use Rattle.live_table.specs.Batches.{task_of_batch}
use Rattle.live_table.specs.Machines.{made}
use Rattle.live_table.proofs.Closes.{covers}
use Rattle.live_table.proofs.Lists.{those_none}
use Rattle.live_table.proofs.TurnSteps.{legal_below}
use Rattle.world_spec.specs.Replies.{child_of}
use Rattle.smack_kernel.specs.Histories.{world_means}
use Rattle.smack_kernel.specs.Tasks.{TaskValue, booted_task}
use Rattle.smack_kernel.specs.Answers.{ClosedValue, Closes}
use Rattle.runs_spec.specs.Scripts.{Scripted, scripted, lines_by}
use Rattle.runs_spec.specs.Deeds.{Deed, entered, batched, answered, creds_after, IsTrueRefusal, IsTrueAnswer, FitsLine, FitsTo, IsSeen, by_version, by_place}
use Rattle.runs_spec.specs.Runs.{own, numbers, asked_of, WentOver}
use Rattle.runs_spec.proofs.Runs.{version_clock, place_clock}
use Rattle.run_laws.specs.Laws.{RunsAreLegal}
use Rattle.run_laws.proofs.Lists.{stands_has, has_stands}
use Rattle.run_laws.proofs.Deeds.{seq_of, fits_are, over_rises, ordered, rises_within, one_deed, places_up, at_of, place_high_of, place_low_of, Saw, saw_low, place_order, Later}
use Rattle.run_laws.proofs.Lives.{Life, DeedOf, seqs_rise, line_seqs_rise, entry_deed, batch_deed, line_deed, later_place}
use Rattle.run_laws.proofs.Family.{Part, own_of, lift, find, Waiter, Awaits_, waits_in, line_task}
use Rattle.run_laws.proofs.Whole.{makes_own, all_numbers}
use Rattle.run_laws.proofs.Histories.{seen_as_one, child_above, one_child, same_stand, versions_rise, versions_within}
use Rattle.run_laws.proofs.Sorting.{in_order, order_keeps, order_has, tasks_rise}
use Rattle.run_laws.proofs.Counts.{Counted, each_once}
use Rattle.run_laws.proofs.Creds.{creds_are}

-- a number is a member or not
has_or_not : (k : ℕ) (ks : List ℕ) → Has k ks ⊎ (Has k ks → ⊥)
has_or_not k [] = inr (λ h. elim h [ ])
has_or_not k (x ∷ ks) = dite (ℕ_discrete k x) (λ e. inl (subst (λ y. Has k (y ∷ ks)) e here))
    (λ ne. ⊎_elim (λ h. inl (there h)) (λ no_. inr (neither ne no_)) (has_or_not k ks))
  where
    neither : (k ≡ x → ⊥) → (Has k ks → ⊥) → Has k (x ∷ ks) → ⊥
    neither ne no_ h = by k h refl ne no_
      where
        by : (y : ℕ) → Has y (x ∷ ks) → y ≡ k → (k ≡ x → ⊥) → (Has k ks → ⊥) → ⊥
        by y here e ne no_ = ne (sym e)
        by y (there g) e ne no_ = no_ (subst (λ z. Has z ks) e g)

-- the line of a call
pub record LineOf (s : Scripted) (t : ℕ) (d : Deed) (ls : List ScriptLine) : Type 0 where
  pub q : ℕ
  pub l : ScriptLine
  pub there_ : Has l ls
  pub fits : FitsLine s t q d l

pub line_of_deed : (s : Scripted) (t q : ℕ) (ds : List Deed) (ls rest : List ScriptLine) (d : Deed) → FitsTo s t q ds ls rest → Has d ds → LineOf s t d ls
line_of_deed s t q [] ls rest d f h = elim h [ ]
line_of_deed s t q (x ∷ ds) [] rest d f h = absurd f
line_of_deed s t q (x ∷ ds) (l ∷ ls) rest d f here = record { q = q; l = l; there_ = here; fits = f.0 }
line_of_deed s t q (x ∷ ds) (l ∷ ls) rest d f (there h) =
    let i = line_of_deed s t (q + 1) ds ls rest d f.1 h in record { q = i.q; l = i.l; there_ = there i.there_; fits = i.fits }

module _ (full : Bool) (s : Scripted) (left : List ScriptLine) (done : full ≡ true → left ≡ []) (t : TableId) (w : TaskValue) (g : WentOver full s (lines_by 0 s.lines) left (booted_task t) w) (labels : List (List ℕ)) (closed : ClosedValue) (c : Closes labels w closed) where
  abbrev h : List Entry
  h = w.history

  abbrev j : List Batch
  j = w.journal

  abbrev told : List AskedLine
  told = asked_of g.run

  abbrev ls : List AskedLine
  ls = in_order (asked_of g.run)

  abbrev pub record_of : RunRecord
  record_of = record { labels = s.labels; names = s.names; journal = w.journal; history = w.history; asked = in_order (asked_of g.run) }

  root : Part full s j h 0 g.run 0 w.version
  root = record {
    are = fits_are s 0 1 (own g.run) (lines_by 0 s.lines) left g.fits;
    kids = g.kids;
    made = g.others;
    at = g.at;
    fresh = g.fresh;
    from_place = 0;
    to_place = length w.history;
    placed = g.placed;
    apart = λ u. g.apart 0 here u;
    distinct = g.distinct;
  }

  first_life : Life full s j h told 0
  first_life = record {
    pid = 0;
    calls = own g.run;
    rest = left;
    fits = g.fits;
    done = done;
    batches = g.own_batches;
    entries = g.own_entries;
    lines = own_of full s j h 0 g.run 0 w.version root;
    at = g.at;
    low = 0;
    high = w.version;
    place_low = 0;
    place_high = length w.history;
    places = over_rises by_place place_clock 0 g.run (length w.history) g.placed;
    rises = over_rises by_version version_clock 0 g.run w.version g.fresh;
    born = inl (refl, refl);
  }

  life_told : (k : ℕ) → Has k (0 ∷ numbers g.run) → Life full s j h told k
  life_told k here = first_life
  life_told k (there u) = (find full s j h 0 g.run 0 w.version root k u).life

  abbrev ordered_life : (k : ℕ) → Life full s j h told k → Life full s j h ls k
  ordered_life k L = lift full s j h told ls k (order_keeps k told) L

  pub life : (k : ℕ) → Has k (0 ∷ numbers g.run) → Life full s j h ls k
  life k u = ordered_life k (life_told k u)

  pub all : (k : ℕ) → k ≤ made world_means h → Has k (0 ∷ numbers g.run)
  all k le =
      covers world_means h (0 ∷ numbers g.run) (seen_as_one c).legal here
      (λ e a n k' is. there (makes_own full s (lines_by 0 s.lines) left t w g e a e.task refl n k' is)) k le

  pub entry_task : (n : ℕ) (e : Entry) → Stands h n e → Has e.task (0 ∷ numbers g.run)
  entry_task n e st = all e.task (let y = legal_below world_means 0 0 h e (seen_as_one c).legal (stands_has h n e st) in omega arith)

  pub batch_task : (n : ℕ) (b : Batch) → Stands j n b → Has b.task (0 ∷ numbers g.run)
  batch_task n b st =
      subst (Has b.task) (all_numbers full s (lines_by 0 s.lines) left t w g) (c.tasks b (stands_has j n b st))

  pub line_number : (n : ℕ) (a : AskedLine) → Stands ls n a → Has a.task (0 ∷ numbers g.run)
  line_number n a st =
      ⊎_elim (λ z. subst (λ y. Has y (0 ∷ numbers g.run)) (sym z) here) (λ u. there u)
      (line_task full s j h 0 g.run 0 w.version root a (order_has told a (stands_has ls n a st)))

  caller : (k q n r : ℕ) → IsCall record_of k q n r → Has k (0 ∷ numbers g.run)
  caller k q n r (batch i b st) = batch_task i b st
  caller k q n r (entry i e st) = entry_task i e st
  caller k q n r (asked i a st) = line_number i a st

  call_deed : (k q n r : ℕ) → IsCall record_of k q n r → (L : Life full s j h ls k) → DeedOf L.calls q n r
  call_deed k q n r (batch i b st) L =
      let d = batch_deed full s j h ls b.task L i b st refl in
      record { deed = batched i b d.0; there_ = d.1; seq = refl; need = refl; reach = refl }
  call_deed k q n r (entry i e st) L = record {
    deed = entered e i;
    there_ = entry_deed full s j h ls e.task L i e st refl;
    seq = refl;
    need = refl;
    reach = refl;
  }
  call_deed k q n r (asked i a st) L =
      let d = line_deed full s j h ls a.task L a (stands_has ls i a st) refl in
      record { deed = answered a d.0; there_ = d.1; seq = refl; need = refl; reach = refl }

  -- the number of a task has its pid
  pub named : (k : ℕ) (L : Life full s j h ls k) → IsNumberOf h k (record { 0 = L.pid })
  named k L = ⊎_elim (λ z. inl (z.0, z.1)) (λ b. inr (b.1, b.0, b.2, b.3)) L.born

  -- a fork that makes a task stands before its first place, in a version that its calls need
  pub fork_first : (n : ℕ) (e : Entry) (k : ℕ) → Stands h n e → e.reply ≡ Reply.Child k → (L : Life full s j h ls k) → n + 1 ≤ L.place_low
  fork_first n e k st is L =
      ⊎_elim (λ z. absurd (let y = (child_above 0 0 n h e k (seen_as_one c).legal st (ap child_of is)).0 in let x = z.0 in omega arith))
      (λ b. let same = one_child 0 0 n b.1 h e b.0 k (seen_as_one c).legal st b.2 (ap child_of is) (ap child_of b.3.1) in let x = b.5 in omega arith) L.born

  fork_low : (n : ℕ) (e : Entry) (k : ℕ) → Stands h n e → e.reply ≡ Reply.Child k → (L : Life full s j h ls k) → e.version ≤ L.low
  fork_low n e k st is L =
      ⊎_elim (λ z. absurd (let y = (child_above 0 0 n h e k (seen_as_one c).legal st (ap child_of is)).0 in let x = z.0 in omega arith))
      (λ b.
      let place = one_child 0 0 n b.1 h e b.0 k (seen_as_one c).legal st b.2 (ap child_of is) (ap child_of b.3.1) in
      let same = same_stand h n b.1 e b.0 place st b.2 in
      subst (λ (x : Entry). x.version ≤ L.low) (sym same) b.4) L.born

  -- a number that has a pid is one of the numbers
  pub numbers_in : (k : ℕ) (pid : Pid) → IsNumberOf h k pid → Has k (0 ∷ numbers g.run)
  numbers_in k pid is =
      ⊎_elim (λ z. subst (λ x. Has x (0 ∷ numbers g.run)) (sym z.0) here)
      (λ b. all k (let y = (child_above 0 0 b.0 h b.1 k (seen_as_one c).legal b.2 (ap child_of b.3.1)).1 in omega arith)) is

  counted : (k : ℕ) → Counted s record_of k
  counted k = ⊎_elim (λ u. let L = life k u in record {
    calls = L.calls;
    ls = lines_by L.pid s.lines;
    rest = L.rest;
    fits = L.fits;
    batches = L.batches;
    entries = L.entries;
    lines = L.lines;
  })
      (λ none. record {
        calls = [];
        ls = [];
        rest = [];
        fits = refl;
        batches = those_none task_of_batch k j (λ b u e. none (of_member b u e));
        entries = those_none (λ (x : Entry). x.task) k h (λ x u e. none (of_entry x u e));
        lines = those_none (λ (x : AskedLine). x.task) k ls (λ x u e. none (of_line x u e));
      }) (has_or_not k (0 ∷ numbers g.run))
    where
      of_member : (b : Batch) → Has b j → b.task ≡ k → Has k (0 ∷ numbers g.run)
      of_member b u e = subst (λ x. Has x (0 ∷ numbers g.run)) e
          (subst (Has b.task) (all_numbers full s (lines_by 0 s.lines) left t w g) (c.tasks b u))

      of_entry : (x : Entry) → Has x h → x.task ≡ k → Has k (0 ∷ numbers g.run)
      of_entry x u e = let st = has_stands h x u in subst (λ y. Has y (0 ∷ numbers g.run)) e (entry_task st.0 x st.1)

      of_line : (x : AskedLine) → Has x ls → x.task ≡ k → Has k (0 ∷ numbers g.run)
      of_line x u e = let st = has_stands ls x u in subst (λ y. Has y (0 ∷ numbers g.run)) e (line_number st.0 x st.1)

  -- each call once and in order
  pub calls_once : IsEachCallOnce record_of
  calls_once = record {
    once = λ k q. each_once s record_of k (counted k) q;
    rising = λ i k e f se sf lt same.
        seqs_rise full s j h ls f.task (life f.task (entry_task k f sf)) i k e f se sf same refl lt;
    listed = λ i k a b sa sb lt. dite (ℕ_discrete a.task b.task)
        (λ same. inr (same, line_seqs_rise full s j h ls b.task (life b.task (line_number k b sb)) i k a b sa sb same refl lt))
        (λ other. let low = tasks_rise told i k a b sa sb lt in inl (omega (arith, low, other)));
    of_tasks = λ k q n r a. let L = life k (caller k q n r a) in (record { 0 = L.pid }, named k L);
    behind_fork = λ i k fork e pid st is se.
        let L = life e.task (entry_task k e se) in
        let low = place_low_of L.place_low L.calls L.place_high e k L.places (entry_deed full s j h ls e.task L k e se refl) in
        let x = fork_first i fork e.task st is.1 L in omega arith;
  }

  -- the object calls
  pub are_judged : AreJudged record_of
  are_judged = entries_are_judged record_of (record {
    steps = (seen_as_one c).steps;
    rising = λ i k e f se sf lt. versions_rise 0 0 i k h e f (seen_as_one c).legal se sf lt;
    within = λ i e st. let x = versions_within 0 0 i h e (seen_as_one c).legal st in let y = (seen_as_one c).recent in omega arith;
  })

  -- the credentials of a task before a call that saw the first m entries
  creds_seen : (k : ℕ) (L : Life full s j h ls k) (d : Deed) (m : ℕ) → Saw d m → Has d L.calls
      → cred_at j h k (seq_of d) ≡ creds_after j h k m
  creds_seen k L d m saw there_ =
      creds_are j h k (seq_of d) m (seen_as_one c).steps (λ n e st lt is. (order n e st is).0 lt) (λ n e st le is. (order n e st is).1 le)
      (λ n e st le is.
      let x = fork_first n e k st is L in
      let y = saw_low L.place_low L.calls L.place_high d m saw L.places there_ in absurd (omega arith))
    where
      order : (n : ℕ) (e : Entry) → Stands h n e → e.task ≡ k → (n < m → e.seq < seq_of d) × (m ≤ n → seq_of d ≤ e.seq)
      order n e st is =
          place_order s k 1 L.place_low L.calls (lines_by L.pid s.lines) L.rest L.place_high d m e n L.fits L.places saw there_
          (entry_deed full s j h ls k L n e st is)

  -- the batches
  pub are_privileged : ArePrivileged record_of
  are_privileged i b st =
      let L = life b.task (batch_task i b st) in
      let d = batch_deed full s j h ls b.task L i b st refl in
      let at = at_of j h b.task L.calls (batched i b d.0) L.at d.1 in
      let creds = creds_seen b.task L (batched i b d.0) d.0 (record { clock = λ x y r. r; other = λ e n z. cc }) d.1 in
      ap (λ x. is_effective x Cap.MacAdmin (version_of j i)) creds ∙ at.2

  so_refused : (a : AskedLine) (L : Life full s j h ls a.task) (m : ℕ) → Has (answered a m) L.calls → (l : ScriptLine) (file : List ℕ)
      (fault : Refusal) → a.what ≡ AskedWhat.Refused file fault → IsTrueRefusal j h a.task m a.version fault
      → IsAskedOfLine s.labels s.names l (AskedWhat.Refused file fault) → IsRefused record_of a file fault
  so_refused a L m u l file Refusal.NoSuchFile is so line = tt
  so_refused a L m u l file Refusal.TooLong is so line = tt
  so_refused a L m u l file (Refusal.BadLine bad) is so line = tt
  so_refused a L m u l file (Refusal.UnknownLabel n) is so line = tt
  so_refused a L m u l file Refusal.NotPrivileged is so line = (
    subst (λ x. is_some (rule_file x) ≡ true) (sym line.1) (rules_of_file s.labels (word_in 1 l) l.text.bytes line.2.0 line.2.1),
    ap (λ x. is_effective x Cap.MacAdmin (version_of j a.version))
        (creds_seen a.task L (answered a m) m (record { clock = λ x y r. subst (λ q. IsSeen q x m y) is r.1; other = λ e n z. cc }) u)
        ∙ so.1,
  )
  so_refused a L m u l file (Refusal.JournalFull rows) is so line =
      (subst (λ x. is_some (rule_file x) ≡ true) (sym line.1) (rules_of_file s.labels (word_in 1 l) l.text.bytes line.2.0 line.2.1), so)

  is_so : (a : AskedLine) (L : Life full s j h ls a.task) (m : ℕ) → Has (answered a m) L.calls → (l : ScriptLine) (what : AskedWhat)
      → a.what ≡ what → IsTrueAnswer j h a.task m a.version what → IsAskedOfLine s.labels s.names l what → IsSo record_of a what
  is_so a L m u l (AskedWhat.Ask v) is so line = so
  is_so a L m u l (AskedWhat.Refused file fault) is so line = so_refused a L m u l file fault is so line
  is_so a L m u l (AskedWhat.Wait pid) is so line = tt

  -- the asked, refused and waited lines
  pub are_answered : AreAnswered record_of
  are_answered i a st =
      let L = life a.task (line_number i a st) in
      let d = line_deed full s j h ls a.task L a (stands_has ls i a st) refl in
      let at = at_of j h a.task L.calls (answered a d.0) L.at d.1 in
      let line = line_of_deed s a.task 1 L.calls (lines_by L.pid s.lines) L.rest (answered a d.0) L.fits d.1 in
      (at.0, is_so a L d.0 d.1 line.l a.what refl at.1 line.fits.2)

  fam_of : (a : ℕ) (fam : List ℕ) → Has a fam
      → ((e : Entry) → Has e h → (x : ℕ) → e.task ≡ x → Has x fam → (k : ℕ) → child_of e.reply ≡ Some k → Has k fam) → (k : ℕ)
      → Descends h a k → Has k fam
  fam_of a fam m cl k itself = m
  fam_of a fam m cl k (child i e x pid d st is) =
      cl e (stands_has h i e st) e.task refl (fam_of a fam m cl e.task d) x (ap child_of is.1)

  -- what a waiter enters behind its line
  waiter_low : (a : AskedLine) (m : ℕ) → Waiter full s j h told 0 (own g.run) (numbers g.run) a m → (n : ℕ) (e : Entry) → Stands h n e
      → e.task ≡ a.task → a.seq < e.seq → m ≤ n
  unfolding first_life
  waiter_low a m waiter n e st is lt =
      ⊎_elim (λ b. whole (subst (λ k. (L : Life full s j h told k) × Later m a L.calls) (sym b.0) (first_life, b.1)))
      (λ b. whole (b.1, b.2)) waiter
    where
      whole : (L : Life full s j h told a.task) × Later m a L.calls → m ≤ n
      whole b =
          later_place full s j h told a.task b.0 a m b.1 e n (entry_deed full s j h told a.task b.0 n e st is) lt

  no_line : (e : Entry) (n : ℕ) (a : AskedLine) (m : ℕ) → entered e n ≡ answered a m → ⊥
  no_line e n a m is = cc

  -- it waits behind its fork
  wait_behind : (i : ℕ) (a : AskedLine) (pid : Pid) → Stands ls i a → (W : Awaits_ full s j h told 0 (own g.run) (numbers g.run) root.to_place a pid)
      → W.fork.seq < a.seq
  wait_behind i a pid st W =
      ⊎_elim (λ lt. lt) (λ le. ⊎_elim (λ same. absurd (no_line W.fork W.place a line.0 (one_number (sym same)))) (λ lt. absurd (low lt)) (eq-or-lt_of_le le))
      (cases_lt W.fork.seq a.seq)
    where
      L : Life full s j h ls a.task
      L = life a.task (line_number i a st)

      line : (m : ℕ) × Has (answered a m) L.calls
      line = line_deed full s j h ls a.task L a (stands_has ls i a st) refl

      one_number : W.fork.seq ≡ a.seq → entered W.fork W.place ≡ answered a line.0
      one_number same =
          one_deed s a.task 1 L.calls (lines_by L.pid s.lines) L.rest (entered W.fork W.place) (answered a line.0) L.fits
          (entry_deed full s j h ls a.task L W.place W.fork W.there_ W.by) line.1 same

      low : a.seq < W.fork.seq → ⊥
      low lt =
          let F = W.lives W.number W.mine in
          let first = fork_first W.place W.fork W.number W.there_ W.is.1 (ordered_life W.number F.life) in
          let up = places_up F.life.place_low F.life.calls F.life.place_high F.life.places in
          let top : F.life.place_high ≤ W.bound = F.place in
          let late = waiter_low a W.bound W.waiter W.place W.fork W.there_ W.by lt in omega arith

  pub has_waited : (i : ℕ) (a : AskedLine) (pid : Pid) → Stands ls i a → a.what ≡ AskedWhat.Wait pid → HasWaited record_of a pid
  has_waited i a pid st is =
      let W = waits_in full s j h 0 g.run 0 w.version root a pid (order_has told a (stands_has ls i a st)) is in
      record {
        number = W.number;
        place = W.place;
        fork = W.fork;
        there = W.there_;
        is = W.is;
        own = W.by;
        after = wait_behind i a pid st W;
        told = λ k q n r D call.
            let F = W.lives k (fam_of W.number W.fam W.mine W.closed k D) in
            let L = ordered_life k F.life in
            let top : L.high ≤ a.version = F.top in
            let d = call_deed k q n r call L in
            let e3 = d.reach in
            let up = (rises_within L.low L.calls L.high d.deed L.rises d.there_).1 in omega arith;
        behind = λ n m e f D se sf of lt.
            let F = W.lives e.task (fam_of W.number W.fam W.mine W.closed e.task D) in
            let L = F.life in
            let high = place_high_of L.place_low L.calls L.place_high e n L.places (entry_deed full s j h told e.task L n e se refl) in
            let top : L.place_high ≤ W.bound = F.place in
            let low = waiter_low a W.bound W.waiter m f sf of lt in omega arith;
      }

  -- no call is judged in a version older than its task had seen or been told of
  pub is_fresh : IsFresh record_of
  is_fresh = record {
    seen = λ k q n r q' n' r' a b lt.
        let L = life k (caller k q n r a) in
        let d = call_deed k q n r a L in
        let d' = call_deed k q' n' r' b L in
        let e1 = d.seq in
        let e2 = d'.seq in
        let e3 = d.reach in
        let e4 = d'.need in
        let o = ordered s k 1 L.low L.calls (lines_by L.pid s.lines) L.rest L.high d.deed d'.deed L.fits L.rises d.there_ d'.there_ (omega arith) in
        omega arith;
    forked = λ i fork pid k q n r st is a.
        let L = life k (caller k q n r a) in
        let d = call_deed k q n r a L in
        let e4 = d.need in
        let low = (rises_within L.low L.calls L.high d.deed L.rises d.there_).0 in
        let early = fork_low i fork k st is.1 L in omega arith;
    waited = has_waited;
  }

  pub is_legal : IsNameTable s.names → IsLegal record_of
  is_legal table = record { names = table; calls = calls_once; entries = are_judged; batches = are_privileged; asked = are_answered; fresh = is_fresh }

pub runs_are_legal : RunsAreLegal
runs_are_legal bytes lines is table w answers ran closed c =
    let s = scripted lines in
    let legal = is_legal true s ran.left (λ _. ran.on refl) table w ran.went (table_of lines) closed c (names_are_a_table bytes lines is) in
    subst (λ (x : List Batch × List Entry × List AskedLine).
    IsLegal (record { labels = table_of lines; names = task_names lines; journal = x.0; history = x.1; asked = in_order x.2 }))
    (λ i. (sym c.journal i, sym c.history i, sym (ran.asked refl) i)) legal
