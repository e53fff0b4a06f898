-- A fork: what the task and its child then did side by side, the adoption, and the wait.
use Rattle.std.proofs.Common.{◌≡◌, ℕ, ◌+◌, ◌≤◌, ◌&&◌, List, [], ◌∷◌, ◌++◌, length, Bool, true, false, sym, refl, ap, ◌∙◌, subst, append_assoc, append-nil, arith, length-append, Option, Some, None, ⊎_elim, le_refl, take, drop}
use Rattle.std.proofs.lemmas.List.{take-take, take-append-le, take-append-drop}
use Rattle.rules_spec.specs.declared.Batch.{Batch}
use Rattle.world_spec.specs.declared.Call.TheVariants as Call
use Rattle.world_spec.specs.declared.tasks.TaskCall.TheVariants as TaskCall
use Rattle.world_spec.specs.declared.Reply.TheVariants as Reply
use Rattle.world_spec.specs.declared.Entry.{Entry}
use Rattle.script_spec.specs.Lines.{ScriptLine}
use Rattle.record_spec.specs.declared.AskedLine.{AskedLine}
use Rattle.record_spec.specs.declared.AskedWhat.TheVariants as AskedWhat
use Rattle.legal_spec.specs.Calls.{Stands}
use Rattle.live_table.specs.Lists.{Begins, Has, here, there}
use Rattle.live_table.specs.Batches.{batches_by, rows_of}
use Rattle.live_table.proofs.Lists.{has_left, has_right, has_either, begins_trans, begins_length, rows_begin}
use Rattle.smack_kernel.specs.Tasks.{TaskValue, Calls, Starts, Adopts, LoadsOnce}
use Rattle.smack_kernel.specs.Indexes.{version_rows}
use Rattle.smack_kernel.specs.Growth.{told_entry}
use Rattle.smack_kernel.specs.declared.turns.Entered.{Entered}
use Rattle.runs_spec.specs.Scripts.{Scripted, ForksTask, WaitsFor, lines_by}
use Rattle.runs_spec.specs.Deeds.{entries_of, entries_in, batches_in, IsTrueAnswer, AllAt, FitsTo, by_version, by_place}
use Rattle.runs_spec.specs.Runs.{TaskRun, ends, forks, waited, wait_deeds, own, numbers, IsWaitOf, Kids, Distinct, WentOver}
use Rattle.runs_spec.specs.Meetings.{AllWithin, with_wait_line, Waits}
use Rattle.runs_spec.proofs.Growing.{stands_grow, stands_last, all_at-grow, all_made-grow}
use Rattle.runs_spec.proofs.Runs.{fits-then, kids-any, distinct-append, all_at-append, batches-append, entries-append, version_clock, place_clock, over_low, over_high}
use Rattle.runs_spec.proofs.Calls.{line_of}

pub waits_none : (s : Scripted) (pid : ℕ) (w : TaskValue) (l : ScriptLine) (ls : List ScriptLine) → Waits s pid w None w.made (with_wait_line None l ls) ls
waits_none s pid w l ls = record {
  is_made = omega arith;
  fits = refl;
  is_wait = tt;
  fresh = le_refl w.version;
  placed = λ n. le_refl n;
  within = tt;
}

abbrev pub wait_of : TaskValue → ℕ → AskedLine
wait_of w pid = line_of w w.version (AskedWhat.Wait (record { 0 = pid }))

pub waits_one : (s : Scripted) (pid : ℕ) (w : TaskValue) (l : ScriptLine) (ls : List ScriptLine) → w.version ≤ length w.journal → WaitsFor s l pid
    → Waits s pid w (Some (wait_of w pid)) (w.made + 1) (with_wait_line (Some (wait_of w pid)) l ls) ls
waits_one s pid w l ls top line = record {
  is_made = refl;
  fits = ((refl, refl, line), refl);
  is_wait = refl;
  fresh = (le_refl w.version, le_refl w.version);
  placed = λ n. (le_refl n, tt);
  within = (top, tt);
}

pub kids-mine : (f g : Bool) (s : Scripted) (r : TaskRun) → Kids f s r → Kids (f && g) s r
kids-mine true g s r k = kids-any g s r k
kids-mine false g s r k = k

pub kids-theirs : (f g : Bool) (s : Scripted) (r : TaskRun) → Kids g s r → Kids (f && g) s r
kids-theirs true g s r k = k
kids-theirs false true s r k = kids-any false s r k
kids-theirs false false s r k = k

pub version_within : (j : List Batch) (n : ℕ) → version_rows j n ≤ rows_of j
version_within j n = rows_begin {xs = j} {ys = take n j} record { rest = drop n j; is = sym (take-append-drop n j) }

pub has_first_or : (P : ℕ → Type 0) {x : ℕ} {xs : List ℕ} → P x → ((n : ℕ) → Has n xs → P n) → (n : ℕ) → Has n (x ∷ xs) → P n
has_first_or P p q n here = p
has_first_or P p q n (there h) = q n h

-- a later version of a longer journal has no fewer rows
pub rows_grow : {j j' : List Batch} (n m : ℕ) → Begins j' j → n ≤ length j → n ≤ m → version_rows j n ≤ version_rows j' m
rows_grow {j} {j'} n m b within later =
    let front : take n (take m j') ≡ take n j = take-take n m j' later ∙ (ap (take n) b.is ∙ take-append-le n j b.rest within) in
    rows_begin {xs = take m j'} {ys = take n j} record {
      rest = drop n (take m j');
      is = sym (take-append-drop n (take m j')) ∙ ap (λ l. l ++ drop n (take m j')) front;
    }

pub both : (f g : Bool) → (f && g) ≡ true → (f ≡ true) × (g ≡ true)
both true g e = (refl, e)
both false g e = absurd (let e' : false ≡ true = e in cc)

module _ (s : Scripted) (pid : ℕ) (ls mid rest left : List ScriptLine) (v u u' c c' w : TaskValue) (r : Entered) (wait : Option AskedLine)
    (made' : ℕ) where
  unfoldable pub went_fork : (f g : Bool) (l : ScriptLine) → ForksTask s l pid → Calls v u (Call.Task (TaskCall.Fork (record { 0 = pid }))) r → r.reply ≡ Reply.Child c.number
      → Starts u c c.number → LoadsOnce v u → WentOver f s ls mid u u' → WentOver g s (lines_by pid s.lines) left c c' → (g ≡ true → left ≡ []) → Adopts u' c' w
      → Waits s pid w wait made' mid rest → WentOver (f && g) s (l ∷ ls) rest v (record w { made = made' })
  went_fork f g l line call_ is_child st once mine theirs done adopted wt = record {
    run = forks e n pid c.number mine.run theirs.run wait ends;
    table = adopted.table ∙ (mine.table ∙ call_.does.table);
    number = adopted.number ∙ nu;
    made = let a = call_.made in let b = mine.made in let d = adopted.made in let x = wt.is_made in
        omega (arith, length-append (own mine.run) (wait_deeds wait ++ []), length-append (wait_deeds wait) []);
    fits = (
      (refl, refl, line),
      fits-then s v.number (v.made + 1 + 1) (own mine.run) (wait_deeds wait ++ []) ls mid rest
          (subst (λ (x : ℕ × ℕ). FitsTo s x.0 x.1 (own mine.run) ls mid)
          (λ i. (call_.does.number i, (let z : u.made + 1 ≡ v.made + 1 + 1 = (let a = call_.made in omega arith) in z) i)) mine.fits)
          (subst (λ d. FitsTo s v.number (v.made + 1 + 1 + length (own mine.run)) d mid rest) (sym (append-nil (wait_deeds wait)))
          (subst (λ (x : ℕ × ℕ). FitsTo s x.0 x.1 (wait_deeds wait) mid rest)
          (λ i. (
            (adopted.number ∙ nu) i,
            (let z : w.made + 1 ≡ v.made + 1 + 1 + length (own mine.run) =
                (let a = call_.made in let b = mine.made in let d = adopted.made in omega arith) in z) i,
          )) wt.fits)),
    );
    kids = (
      refl,
      is_child,
      wt.is_wait,
      record {
        rest = left;
        fits = subst (λ x. FitsTo s c.number x (own theirs.run) (lines_by pid s.lines) left)
            (let z : c.made + 1 ≡ 1 = (let y = st.made in omega arith) in z) theirs.fits;
        all = λ z. done (both f g z).1;
      },
      kids-mine f g s mine.run mine.kids,
      kids-theirs f g s theirs.run theirs.kids,
      tt,
    );
    ended = adopted.ended ∙ ((λ i. ended_u i ++ (theirs.number i ∷ ended_c i))
        ∙ (append_assoc v.ended (numbers mine.run) (c.number ∷ numbers theirs.run)
        ∙ ap (λ l. v.ended ++ (numbers mine.run ++ l)) (sym (append-nil (c.number ∷ numbers theirs.run)))));
    apart = λ k h t. ⊎_elim (mine.apart k (of_u k h)) (λ y. adopted.apart k (of_u' k h) (of_c' k (in_theirs k y)))
        (has_either (numbers mine.run) ((c.number ∷ numbers theirs.run) ++ []) t);
    distinct = distinct-append (numbers mine.run) ((c.number ∷ numbers theirs.run) ++ []) mine.distinct
        (subst Distinct (sym (append-nil (c.number ∷ numbers theirs.run))) ((λ h. theirs.apart c.number here h), theirs.distinct))
        (λ k h y. adopted.apart k (there (of_mine k h)) (of_c' k (in_theirs k y)));
    journal = begins_trans adopted.journal (begins_trans mine.journal call_.does.grows.journal);
    history = begins_trans adopted.history (begins_trans mine.history call_.does.grows.history);
    own_batches = adopted.batches v.number mine_is
        ∙ (subst (λ k. batches_by k u'.journal ≡ batches_by k u.journal ++ batches_in (own mine.run)) call_.does.number mine.own_batches
        ∙ (ap (λ l. l ++ batches_in (own mine.run)) (call_.does.grows.own_batches ∙ append-nil (batches_by v.number v.journal))
        ∙ ap (λ l. batches_by v.number v.journal ++ l) (sym (batches-append (own mine.run) (wait_deeds wait ++ [])
        ∙ (ap (λ l. batches_in (own mine.run) ++ l) (wait_batches wait) ∙ append-nil (batches_in (own mine.run)))))));
    own_entries = adopted.entries v.number mine_is
        ∙ (subst (λ k. entries_of k u'.history ≡ entries_of k u.history ++ entries_in (own mine.run)) call_.does.number mine.own_entries
        ∙ (ap (λ l. l ++ entries_in (own mine.run)) call_.does.grows.own_entries
        ∙ (append_assoc (entries_of v.number v.history) (e ∷ []) (entries_in (own mine.run))
        ∙ ap (λ l. entries_of v.number v.history ++ (e ∷ l)) (sym (entries-append (own mine.run) (wait_deeds wait ++ [])
        ∙ (ap (λ l. entries_in (own mine.run) ++ l) (wait_entries wait) ∙ append-nil (entries_in (own mine.run))))))));
    at = (
      stands_grow u.history w.history n e (begins_trans adopted.history mine.history) stands_e,
      all_at-append w.journal w.history v.number (own mine.run) (wait_deeds wait ++ [])
          (all_at-grow u'.journal w.journal adopted.journal u'.history w.history adopted.history v.number (own mine.run)
          (subst (λ k. AllAt u'.journal u'.history k (own mine.run)) call_.does.number mine.at))
          (wait_at wait wt.is_wait wt.within),
    );
    batches = λ k h. adopted.batches k (there (in_u' k h)) ∙ (mine.batches k (in_u k h) ∙ call_.does.grows.batches k h);
    entries = λ k h. adopted.entries k (there (in_u' k h)) ∙ (mine.entries k (in_u k h) ∙ call_.does.grows.entries k h);
    others = (
      record {
        batches = adopted.told_batches c.number theirs_is ∙ (theirs.own_batches ∙ ap (λ l. l ++ batches_in (own theirs.run)) st.batches);
        entries = adopted.told_entries c.number theirs_is ∙ (theirs.own_entries ∙ ap (λ l. l ++ entries_in (own theirs.run)) st.entries);
        at = all_at-grow c'.journal w.journal adopted.told_journal c'.history w.history adopted.told_history c.number (own theirs.run) theirs.at;
      },
      all_made-grow u'.journal w.journal adopted.journal u'.history w.history adopted.history mine.run
          (λ k h. adopted.batches k (there (of_mine k h))) (λ k h. adopted.entries k (there (of_mine k h))) mine.others,
      all_made-grow c'.journal w.journal adopted.told_journal c'.history w.history adopted.told_history theirs.run
          (λ k h. adopted.told_batches k (there (of_theirs k h))) (λ k h. adopted.told_entries k (there (of_theirs k h))) theirs.others,
      tt,
    );
    fresh = (
      u.version,
      (let a = call_.does.later in let b = call_.now in (omega arith, omega arith)),
      w.version,
      over_high by_version version_clock u.version mine.run u'.version w.version adopted.version mine.fresh,
      over_low by_version version_clock c.version u.version theirs.run w.version (let a = st.version in omega arith)
          (over_high by_version version_clock c.version theirs.run c'.version w.version adopted.told_version theirs.fresh),
      w.version,
      wt.fresh,
      le_refl w.version,
    );
    placed = (
      length u.history,
      (let a = begins_length call_.enters.more in let b = ap length call_.enters.is in
          let d = length-append call_.enters.before (e ∷ []) in (omega arith, omega arith)),
      length w.history,
      over_high by_place place_clock (length u.history) mine.run (length u'.history) (length w.history) (begins_length adopted.history) mine.placed,
      over_low by_place place_clock (length c.history) (length u.history) theirs.run (length w.history) (begins_length st.history)
          (over_high by_place place_clock (length c.history) theirs.run (length c'.history) (length w.history)
          (begins_length adopted.told_history) theirs.placed),
      length w.history,
      wt.placed (length w.history),
      le_refl (length w.history),
    );
    within = adopted.within;
    loads = λ z.
        let a : u.loads + version_rows v.journal v.version ≤ v.loads + version_rows u.journal u.version = once in
        let b : u'.loads + version_rows u.journal u.version ≤ u.loads + version_rows u'.journal u'.version = mine.loads (both f g z).0 in
        let d : w.loads ≡ u'.loads = adopted.counts.loads in
        let e : version_rows u'.journal u'.version ≤ version_rows w.journal w.version =
        rows_grow u'.version w.version adopted.journal mine.within adopted.version in omega arith;
    others_load = λ z.
        let x = mine.others_load (both f g z).0 in
        let y = theirs.others_load (both f g z).1 in
        let once : c'.loads + version_rows c.journal c.version ≤ c.loads + version_rows c'.journal c'.version = theirs.loads (both f g z).1 in
        let told = rows_begin adopted.told_journal in
        record {
          more = x.more ++ c'.loads ∷ y.more;
          is = adopted.ended_loads ∙ ((λ i. (x.is ∙ ap (λ l. l ++ x.more) call_.does.ended_loads) i
              ++ c'.loads ∷ (y.is ∙ ap (λ l. l ++ y.more) st.ended_loads) i)
              ∙ append_assoc v.ended_loads x.more (c'.loads ∷ y.more));
          each = omega (
            arith,
            length-append x.more (c'.loads ∷ y.more),
            length-append (numbers mine.run) ((c.number ∷ numbers theirs.run) ++ []),
            length-append (c.number ∷ numbers theirs.run) [],
            x.each,
            y.each,
          );
          few = λ n h. ⊎_elim (λ i. omega (arith, x.few n i, rows_begin adopted.journal))
              (has_first_or (λ k. k ≤ rows_of w.journal) (omega (arith, once, st.loads, version_within c'.journal c'.version, told))
              (λ k i. omega (arith, y.few k i, told)) n) (has_either x.more (c'.loads ∷ y.more) h);
        };
  } where
    e : Entry
    e = told_entry v.number (v.made + 1) (Call.Task (TaskCall.Fork (record { 0 = pid }))) r.version r.checks r.reply

    n : ℕ
    n = length call_.enters.before

    nu : u'.number ≡ v.number
    nu = mine.number ∙ call_.does.number

    stands_e : Stands u.history n e
    stands_e = stands_last u.history call_.enters.before e call_.enters.is

    ended_u : u'.ended ≡ v.ended ++ numbers mine.run
    ended_u = mine.ended ∙ ap (λ l. l ++ numbers mine.run) call_.does.ended

    ended_c : c'.ended ≡ numbers theirs.run
    ended_c = theirs.ended ∙ ap (λ l. l ++ numbers theirs.run) st.ended

    mine_is : Has v.number (u'.number ∷ u'.ended)
    mine_is = subst (λ k. Has v.number (k ∷ u'.ended)) (sym nu) here

    theirs_is : Has c.number (c'.number ∷ c'.ended)
    theirs_is = subst (λ k. Has c.number (k ∷ c'.ended)) (sym theirs.number) here

    in_theirs : (k : ℕ) → Has k ((c.number ∷ numbers theirs.run) ++ []) → Has k (c.number ∷ numbers theirs.run)
    in_theirs k y = ⊎_elim (λ z. z) (λ z. elim z [ ]) (has_either (c.number ∷ numbers theirs.run) [] y)

    in_u : (k : ℕ) → Has k v.ended → Has k u.ended
    in_u k h = subst (Has k) (sym call_.does.ended) h

    in_u' : (k : ℕ) → Has k v.ended → Has k u'.ended
    in_u' k h = subst (Has k) (sym ended_u) (has_left (numbers mine.run) h)

    of_mine : (k : ℕ) → Has k (numbers mine.run) → Has k u'.ended
    of_mine k h = subst (Has k) (sym ended_u) (has_right v.ended h)

    of_u : (k : ℕ) → Has k (v.number ∷ v.ended) → Has k (u.number ∷ u.ended)
    of_u k h = subst (λ (x : ℕ × List ℕ). Has k (x.0 ∷ x.1)) (λ i. (sym call_.does.number i, sym call_.does.ended i)) h

    of_u' : (k : ℕ) → Has k (v.number ∷ v.ended) → Has k (u'.number ∷ u'.ended)
    of_u' k h = subst (λ (x : ℕ × List ℕ). Has k (x.0 ∷ x.1)) (λ i. (sym nu i, sym ended_u i)) (has_left (numbers mine.run) h)

    of_c' : (k : ℕ) → Has k (c.number ∷ numbers theirs.run) → Has k (c'.number ∷ c'.ended)
    of_c' k h = subst (λ (x : ℕ × List ℕ). Has k (x.0 ∷ x.1)) (λ i. (sym theirs.number i, sym ended_c i)) h

    of_theirs : (k : ℕ) → Has k (numbers theirs.run) → Has k c'.ended
    of_theirs k h = subst (Has k) (sym ended_c) h

    wait_batches : (x : Option AskedLine) → batches_in (wait_deeds x ++ []) ≡ []
    wait_batches None = refl
    wait_batches (Some l) = refl

    wait_entries : (x : Option AskedLine) → entries_in (wait_deeds x ++ []) ≡ []
    wait_entries None = refl
    wait_entries (Some l) = refl

    wait_at : (x : Option AskedLine) → IsWaitOf pid x → AllWithin w.journal (waited x)
        → AllAt w.journal w.history v.number (wait_deeds x ++ [])
    wait_at None i a = tt
    wait_at (Some l) i a = ((a.0, subst (IsTrueAnswer w.journal w.history v.number 0 l.version) (sym i) tt), tt)
