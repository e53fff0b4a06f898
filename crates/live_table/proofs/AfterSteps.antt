-- The slots that a seat holds, and what a join and a turn come to.
use Rattle.std.proofs.Common.{◌≡◌, ℕ, ◌+◌, ◌%◌, List, [], ◌∷◌, ◌++◌, length, sym, refl, ap, ap₂, ◌∙◌, subst, ⊎_elim, arith, true, false, Option, Some}
use Rattle.rules_spec.specs.declared.Batch.{Batch}
use Rattle.live_table.specs.declared.view.View.{View}
use Rattle.live_table.specs.Lists.{Begins, Has}
use Rattle.live_table.specs.Seats.{slots_of}
use Rattle.live_table.specs.Machines.{Means, LegalFrom, last_version, entries_by}
use Rattle.live_table.specs.Core.{Rule}
use Rattle.live_table.specs.Plays.{Saw, with_pen, Heard, TookTurn, joined, at_turn, given, gave, MayGive}
use Rattle.atomic_table.specs.Table.{Me, step, Allows}
use mathlib.Core.Option.{none}
use Rattle.live_table.proofs.TurnSteps.{gives_turn}
use Rattle.live_table.specs.Seats.{SeatValue, Hears, Sees, Turns, IsSeat, IsWhole, Closes, AreWhole, with_loads}
use Rattle.live_table.proofs.Lists.{begins_self, begins_trans, begins_length, rows-append, has_either}

pub slots_none : {X : Type 0} (l : List (ℕ × X)) → slots_of l ≡ [] → l ≡ []
slots_none [] e = refl
slots_none (x ∷ l) e = absurd (let e' : x.0 ∷ slots_of l ≡ [] = e in cc)

pub slots_one : {X : Type 0} (l : List (ℕ × X)) → slots_of l ≡ 0 ∷ [] → (y : X) × (l ≡ (0, y) ∷ [])
slots_one [] e = absurd (let e' : ◌≡◌ {A = List ℕ} [] (0 ∷ []) = e in cc)
slots_one (x ∷ l) e =
    let e' : x.0 ∷ slots_of l ≡ 0 ∷ [] = e in
    let a : x.0 ≡ 0 = cc in let b : slots_of l ≡ [] = cc in (x.1, λ i. (a i, x.1) ∷ slots_none l b i)

module _ {S E : Type 0} (m : Means S E) where
  pub heard_all : (v w x : View E) (r : ℕ) → Heard m (joined v w) r x → Hears m v w x
  heard_all v w x r h = record {
    numbers = ap (λ (y : View E). y.numbers) h.view;
    pen = ap (λ (y : View E). y.pen) h.view;
    filled = ap (λ (y : View E). y.filled) h.view;
    turn = ap (λ (y : View E). y.turn) h.view;
    noticed = ap (λ (y : View E). y.noticed) h.view;
    known = ap (λ (y : View E). y.known) h.view;
    loads = ap (λ (y : View E). y.loads) h.view;
    ended_loads = ap (λ (y : View E). y.ended_loads) h.view;
    looks = ap (λ (y : View E). y.looks) h.view;
    pens = ap (λ (y : View E). y.pens) h.view;
    journal = h.journal;
    history = h.history;
    told_journal = h.told_journal;
    told_history = h.told_history;
    longest = h.longest;
    apart = h.apart;
    batches = h.batches;
    entries = h.entries;
    told_batches = h.told_batches;
    told_entries = h.told_entries;
  }

  module _ (longer : (x : S) (js ks : List Batch) → m.stands x js → m.stands x (js ++ ks)) where
    pub turned_all : (v w u w' : View E) (held : List (ℕ × Option S)) (x : S) (r : ℕ) → TookTurn m v w held x → u ≡ w
        → Saw u r w' → Turns m v w' x
    turned_all v w u w' held x r t e s' =
        let s : Saw w r w' = subst (λ y. Saw y r w') e s' in
        let same : w'.history ≡ w.history = ap (λ (y : View E). y.history) s.same in
        let all : (k : ℕ) → Has k v.numbers
        → Has k w.numbers = λ k h. subst (λ (y : View E). Has k y.numbers) (sym t.view) h in record {
          view = s.same
              ∙ ((λ i. record (t.view i) {
                journal = w'.journal;
                loads = w.loads;
                looks = w.looks + 1;
                misses = w.misses + r % 2;
              })
              ∙ (λ i. record (at_turn v w'.journal (sym same i)) {
                loads = (sym s.same i).loads;
                looks = (sym s.same i).looks;
                misses = (sym s.same i).misses;
              }));
          journal = begins_trans s.more t.journal;
          history = subst (λ l. Begins l v.history) (sym same) t.history;
          is = t.is ∙ sym same;
          stands = subst (m.stands x) (sym s.more.is) (longer x w.journal s.more.rest t.stands);
          legal = subst (LegalFrom m 0 0) (sym same) t.legal;
          recent = let a = t.recent in
              let b = begins_length s.more in
              let c : last_version m w'.history ≡ last_version m w.history = ap (last_version m) same in omega arith;
          batches = λ k h. s.own k (all k h) ∙ t.batches k h;
          entries = λ k h. ap (entries_by m k) same ∙ t.entries k h;
        }

    pub gives_after : (slots id : ℕ) (me : Me (Option S) (View E)) (v : View E) (x : S) (l : List (ℕ × Option S))
        (es : List E) → me ≡ (v, (0, Some x) ∷ l) → l ≡ [] → v.turn ≡ true → v.told_numbers ≡ [] → MayGive m v x es
        → Allows (Rule m) slots id me 2 (λ _. 0) (λ _. gave m (step slots 2 0 0 none) me 0)
    gives_after slots id me v x l es e bare has settled may =
        let e' : me ≡ (v, (0, Some x) ∷ []) = e ∙ (λ i. (v, (0, Some x) ∷ bare i)) in
        subst (λ z. Allows (Rule m) slots id z 2 (λ _. 0) (λ _. gave m (step slots 2 0 0 none) z 0)) (sym e')
        (gives_turn m longer slots id (v, (0, Some x) ∷ []) x es has settled refl may)

  pub gave_all : (slots : ℕ) (me me' : Me (Option S) (View E)) (v : View E) (x : S) (l : List (ℕ × Option S))
      → me ≡ (v, (0, Some x) ∷ l) → l ≡ [] → gave m (step slots 2 0 0 none) me 0 me'
      → (es : List E) → m.history x ≡ v.history ++ es → me' ≡ (given v es, [])
  gave_all slots me me' v x l e bare g es is =
      let e' : me ≡ (v, (0, Some x) ∷ []) = e ∙ (λ i. (v, (0, Some x) ∷ bare i)) in
      let h = g.1 x es (ap (λ z. z.1) e') (is ∙ ap (λ z. z.0.history ++ es) (sym e')) in
      let k : me'.0 ≡ given v es = h ∙ ap (λ z. given z.0 es) e' in λ i. (k i, g.0 i)

pub sees_self : {E : Type 0} (v : View E) → Sees v v
sees_self v = record { view = refl; journal = begins_self v.journal; batches = λ _ _. refl }

-- a seat that has so many rows loaded has its own number of them loaded
pub loaded_own : {E : Type 0} (s : SeatValue E) {t : SeatValue E} {n : ℕ} → t ≡ with_loads n s → t ≡ with_loads t.view.loads s
loaded_own {E} s {t} {n} now = now ∙ ap (λ k. with_loads k s) (sym (ap (λ (z : SeatValue E). z.view.loads) now))

-- a seat that has loaded more rows, and then more
pub loaded_more : {E : Type 0} (s : SeatValue E) {t u : SeatValue E} {n : ℕ} → t ≡ with_loads t.view.loads s → u ≡ with_loads n t
    → u ≡ with_loads u.view.loads s
loaded_more {E} s {t} {u} {n} before now = loaded_own s (now ∙ ap (with_loads n) before)

-- what a seat loaded is no matter to what it may close, and to what it is handed
pub whole_loaded : {S E : Type 0} (m : Means S E) (v : View E) (n : ℕ) → IsWhole m v
    → IsWhole m (record v { loads = n })
whole_loaded m v n w = record { penless = w.penless; turnless = w.turnless; first = w.first; closed = w.closed }

pub closes_loaded : {S E : Type 0} (m : Means S E) (v : View E) (n : ℕ) (x : S) → Closes m (record v { loads = n }) x
    → Closes m v x
closes_loaded m v n x c = record {
  history = c.history;
  stands = c.stands;
  legal = c.legal;
  recent = c.recent;
  tasks = c.tasks;
}

pub sees_loaded : {E : Type 0} {v w : View E} (n : ℕ) → Sees v w → Sees v (record w { loads = n })
sees_loaded {E} {v} {w} n s = record {
  view = ap (λ (y : View E). record y { loads = n }) s.view;
  journal = s.journal;
  batches = s.batches;
}

pub turns_loaded : {S E : Type 0} (m : Means S E) {v w : View E} {x : S} (n : ℕ) → Turns m v w x
    → Turns m v (record w { loads = n }) x
turns_loaded {S} {E} m {v} {w} {x} n t = record {
  view = ap (λ (y : View E). record y { loads = n }) t.view;
  journal = t.journal;
  history = t.history;
  is = t.is;
  stands = t.stands;
  legal = t.legal;
  recent = t.recent;
  batches = t.batches;
  entries = t.entries;
}

-- a look is looks
pub saw_sees : {E : Type 0} (v w : View E) (r : ℕ) → Saw v r w → Sees v w
saw_sees {E} v w r s = record {
  view = s.same ∙ (λ i. record v {
    journal = w.journal;
    loads = (sym s.same i).loads;
    looks = (sym s.same i).looks;
    misses = (sym s.same i).misses;
  });
  journal = s.more;
  batches = s.own;
}

-- what a seat keeps, after it has published whole batches
pub publishes_seat : {S E : Type 0} (me me' : Me (Option S) (View E)) (number rows filled : ℕ)
    → IsSeat me number rows filled → (w : AreWhole me.0.filled number)
    → me'.1 ≡ me.1 → me'.0 ≡ record me.0 { journal = me.0.journal ++ w.batches; pen = false; filled = [] }
    → IsSeat me' number (rows + filled) 0
publishes_seat {S} {E} me me' number rows filled s w held view = subst
    (λ (z : Me (Option S) (View E)). IsSeat z number (rows + filled) 0) (λ i. (sym view i, sym held i)) record {
      numbered = s.numbered;
      settled = s.settled;
      counted = ap₂ (λ (x y : ℕ). x + y) s.counted (s.filled_is ∙ ap length w.words)
          ∙ sym (rows-append me.0.journal w.batches);
      room = let r = s.room in omega arith;
      packed = λ x h. ⊎_elim (s.packed x) (w.packed x) (has_either me.0.journal w.batches h);
      held = s.held;
      filled_is = refl;
    }

-- what a seat keeps, after it gave the turn back
pub gives_seat : {S E : Type 0} (me me' : Me (Option S) (View E)) (number rows filled : ℕ) (es : List E)
    → IsSeat me number rows filled → me' ≡ (given me.0 es, []) → IsSeat me' number rows filled
gives_seat {S} {E} me me' number rows filled es s is = subst
    (λ (z : Me (Option S) (View E)). IsSeat z number rows filled) (sym is) record {
      numbered = s.numbered;
      settled = s.settled;
      counted = s.counted;
      room = s.room;
      packed = s.packed;
      held = refl;
      filled_is = s.filled_is;
    }

pub sees_then : {E : Type 0} (u v w : View E) → Sees u v → Sees v w → Sees u w
sees_then {E} u v w a s = record {
  view = s.view
      ∙ ap (λ (y : View E). record y { journal = w.journal; loads = w.loads; looks = w.looks; misses = w.misses }) a.view;
  journal = begins_trans s.journal a.journal;
  batches = λ k h. s.batches k (subst (λ (y : View E). Has k y.numbers) (sym a.view) h) ∙ a.batches k h;
}

-- what looks show before the pen is taken, they show after it
pub sees_before_pen : {E : Type 0} (u v : View E) → Sees u v → Sees (with_pen u) (with_pen v)
sees_before_pen {E} u v a = record {
  view = ap with_pen a.view;
  journal = a.journal;
  batches = a.batches;
}

pub sees_then_pen : {E : Type 0} (u v w : View E) → Sees u v → Sees (with_pen v) w → Sees (with_pen u) w
sees_then_pen {E} u v w a s = sees_then (with_pen u) (with_pen v) w (sees_before_pen u v a) s
