-- Each step keeps the table's rule.
use Rattle.std.proofs.Common.{◌≡◌, ℕ, suc, ◌+◌, ◌-◌, ◌*◌, ◌/◌, ◌%◌, ◌<◌, ◌≤◌, ◌≢◌, eqb, Bool, true, false, List, [], ◌∷◌, ◌++◌, length, get_or, set, sym, refl, ap, ap₂, ◌∙◌, subst, ⊎_elim, append_assoc, append-nil, arith, length-append, length-set, Option}
use mathlib.Core.Option as maybe
use mathlib.Core.Option.{none, some}
use lib.ListN.{get_elem?, get_or-append}
use lib.Seq.{set-get_or, get_or-append-add, set-append_seam}
use prog.Atomic.{either}
use Rattle.atomic_table.specs.Table.{State, Me, Act, step, keeps, stepped, Allows, Valid, carried_after}
use Rattle.atomic_table.proofs.Lists.{exchanged}
use Rattle.rules_spec.specs.declared.Batch.{Batch}
use Rattle.live_table.specs.declared.view.View.{View}
use Rattle.live_table.specs.Lists.{Begins, Has, here}
use Rattle.live_table.specs.Batches.{ArePacked, journal_words, rows_of, batches_by, task_of_batch}
use Rattle.live_table.specs.Machines.{Means, last_version}
use Rattle.live_table.specs.Core.{bit, Core, row_count, drawn_count, Home, Fits, Holds, Rule}
use Rattle.live_table.specs.Plays.{Saw, with_pen, saw, read, penned, filled, published}
use Rattle.live_table.proofs.Lists.{begins_self, begins_more, begins_trans, begins_length, has_either, those-append, those_none, words-append, words_begin, each_set, there_set, at_same, one_words}

pub halved : (n : ℕ) (b : Bool) → (2 * n + bit b) / 2 ≡ n
halved n true = let e : (2 * n + 1) / 2 ≡ n = omega arith in e
halved n false = let e : (2 * n + 0) / 2 ≡ n = omega arith in e

pub has_none : {y : ℕ} {l : List ℕ} → l ≡ [] → Has y l → ⊥
has_none {y} {l} e h = elim (subst (Has y) e h) [ ]

filled_in : (rows front : List ℕ) (x : ℕ) → Begins rows front → length front < length rows
    → Begins (set rows (length front) x) (front ++ x ∷ [])
filled_in rows front x b inside = case b.rest b.is where
  case : (rest : List ℕ) → rows ≡ front ++ rest → Begins (set rows (length front) x) (front ++ x ∷ [])
  case [] e = absurd (omega (arith, ap length e, length-append front []))
  case (y ∷ rest) e = record {
    rest = rest;
    is = ap (λ l. set l (length front) x) e
        ∙ (set-append_seam front y rest x ∙ sym (append_assoc front (x ∷ []) rest));
  }

module _ {S E : Type 0} (m : Means S E) where
  abbrev St : Type 0
  St = State (Option S) (View E)

  abbrev M : Type 0
  M = Me (Option S) (View E)

  pub holds_set : (b : Bool) (j : ℕ) (held : View E → Bool) (vs : List (View E)) (me : ℕ) (v w : View E)
      → get_elem? vs me ≡ some v → held w ≡ held v → Holds m b j held vs → Holds m b j held (set vs me w)
  holds_set false j held vs me v w at same h = tt
  holds_set true j held vs me v w at same h = there_set (λ d. held d ≡ true) vs me j v w at (λ e. same ∙ e) h

  -- a step that changes neither the core nor a word
  pub unmoved : (s : St) (r : Rule m s) (i me : ℕ) (cs : List (ℕ × Option S)) (v w : View E)
      → get_elem? s.views me ≡ some v → Fits m r.core me w → w.numbers ++ w.told_numbers ≡ v.numbers ++ v.told_numbers
      → w.pen ≡ v.pen → w.turn ≡ v.turn
      → Rule m (stepped s i (get_or s.words i 0) me cs w keeps)
  unmoved s r i me cs v w at mine numbers pen turn = record {
    core = r.core;
    rows = r.rows;
    words = set-get_or s.words i 0 ∙ r.words;
    room = r.room;
    shown = r.shown;
    home = r.home;
    legal = r.legal;
    recent = r.recent;
    tasks = r.tasks;
    packed = r.packed;
    idle = r.idle;
    first = r.first;
    unfilled = r.unfilled;
    penned = holds_set r.core.penned r.core.penner (λ d. d.pen) s.views me v w at pen r.penned;
    turned = holds_set r.core.turned r.core.turner (λ d. d.turn) s.views me v w at turn r.turned;
    owned = λ k l. there_set (λ d. Has k (d.numbers ++ d.told_numbers)) s.views me (r.core.owner k) v w at
        (subst (Has k) (sym numbers)) (r.owned k l);
    fits = each_set (Fits m r.core) s.views me w mine (λ j d _. r.fits j d);
  }

  -- what the seat counts is no matter to the rule
  pub fits_counting : (c : Core E) (me : ℕ) (v : View E) → Fits m c me v → (loads misses : ℕ)
      → Fits m c me (record v { loads = loads; misses = misses })
  fits_counting c me v f loads misses = record {
    seen = f.seen;
    told = f.told;
    met = f.met;
    heard = f.heard;
    known = f.known;
    owns = f.owns;
    told_owns = f.told_owns;
    apart = f.apart;
    pen = f.pen;
    turn = f.turn;
    mark = f.mark;
    bare = f.bare;
  }

  -- the seat sees the whole journal
  pub fits_seeing : (c : Core E) (me : ℕ) (v : View E) → last_version m c.history ≤ length c.journal → Fits m c me v
      → (looks misses : ℕ) → Fits m c me (record v { journal = c.journal; looks = looks; misses = misses })
  fits_seeing c me v recent f looks misses = record {
    seen = begins_self c.journal;
    told = f.told;
    met = f.met;
    heard = f.heard;
    known = f.known;
    owns = λ k h. let o = f.owns k h in
        record { owner = o.owner; drawn = o.drawn; batches = refl; entries = o.entries };
    told_owns = f.told_owns;
    apart = f.apart;
    pen = λ e. let p = f.pen e in
        record {
          penned = p.penned;
          penner = p.penner;
          journal = refl;
          filled = p.filled;
          number = p.number;
          ended = p.ended;
          numbers = p.numbers;
        };
    turn = λ e. let p = f.turn e in
        record {
          turned = p.turned;
          turner = p.turner;
          history = p.history;
          recent = recent;
          noticed = p.noticed;
          number = p.number;
          ended = p.ended;
          numbers = p.numbers;
          alive = p.alive;
        };
    mark = f.mark;
    bare = f.bare;
  }

  -- the rows have room for what is published, and for what this seat has filled
  pub in_room : (s : St) (r : Rule m s) (j : ℕ) (d : View E) → get_elem? s.views j ≡ some d
      → rows_of r.core.journal + length d.filled ≤ row_count
  in_room s r j d at =
      let c = r.core in
      let f = r.fits j d at in
      let b = begins_length r.shown in let l = length-append (journal_words c.journal) c.filled in let rm = r.room in
      (elim d.pen as (λ b'. d.pen ≡ b' → rows_of c.journal + length d.filled ≤ row_count) [
        | true ↦ λ e. let g = ap (λ (x : List ℕ). length x) (f.pen e).filled in omega arith
        | false ↦ λ e. let g = ap (λ (x : List ℕ). length x) (f.bare e) in omega arith
      ]) refl

  pub saw_all : (s : St) (r : Rule m s) (me : ℕ) (v : View E) → get_elem? s.views me ≡ some v
      → Saw v (get_or s.words 1 0) (record v {
        journal = r.core.journal;
        looks = v.looks + 1;
        misses = v.misses + get_or s.words 1 0 % 2;
      })
  saw_all s r me v at = let c = r.core in let f = r.fits me v at in record {
    same = refl;
    more = f.seen;
    rows = ap (λ ws. get_or ws 1 0 / 2) r.words ∙ halved (rows_of c.journal) c.penned;
    own = λ k h. (f.owns k h).batches;
    room = in_room s r me v at;
    packed = r.packed;
  }

  pub sees : (slots id : ℕ) (me : M) → Allows (Rule m) slots id me 1 (λ x. x) (saw (step slots 1 0 0 none) me)
  sees slots id me s r _ at _ =
      let c = r.core in let f = r.fits id me.0 at in let x : ℕ = get_or s.words 1 0 in
      let w : View E = record me.0 { journal = c.journal; looks = me.0.looks + 1; misses = me.0.misses + x % 2 } in (
        w,
        keeps,
        tt,
        unmoved s r 1 id me.1 me.0 w at (fits_seeing c id me.0 r.recent f w.looks w.misses) refl refl refl,
        (saw_all s r id me.0 at, refl),
      )

  pub reads : (slots id : ℕ) (me : M) (i : ℕ) → i < rows_of me.0.journal
      → Allows (Rule m) slots id me (i + 3) (λ x. x) (read (step slots (i + 3) 0 0 none) me)
  reads slots id me i inside s r _ at _ = let c = r.core in let f = r.fits id me.0 at in
      let w : View E = record me.0 { loads = me.0.loads + 1 } in
      let all : Begins r.rows (journal_words me.0.journal) = begins_trans
      (begins_trans r.shown (record { rest = c.filled; is = refl })) (words_begin f.seen) in
      let back : (i + 3) - 3 ≡ i = omega arith in let front : i + 3 ≡ 3 + i = omega arith in
      let row : get_or s.words (i + 3) 0 ≡ get_or r.rows i 0 = ap₂ (λ ws (x : ℕ). get_or ws x 0) r.words front
      ∙ get_or-append-add
      (drawn_count m c ∷ (2 * rows_of c.journal + bit c.penned) ∷ bit c.turned ∷ []) r.rows i 0 in (
        w,
        keeps,
        tt,
        unmoved s r (i + 3) id me.1 me.0 w at (fits_counting c id me.0 f w.loads w.misses) refl refl refl,
        (
          refl,
          refl,
          row ∙ (ap (λ l. get_or l i 0) all.is
              ∙ (get_or-append (journal_words me.0.journal) all.rest 0 i inside
              ∙ ap (λ x. get_or (journal_words me.0.journal) x 0) (sym back))),
        ),
      )

  -- the pen and what it filled are no matter to a view without the pen
  fits_pen : (c : Core E) (b : Bool) (p : ℕ) (l : List ℕ) (j : ℕ) (d : View E) → (d.pen ≡ true → ⊥) → Fits m c j d
      → Fits m (record c { penned = b; penner = p; filled = l }) j d
  fits_pen c b p l j d without f = record {
    seen = f.seen;
    told = f.told;
    met = f.met;
    heard = f.heard;
    known = f.known;
    owns = f.owns;
    told_owns = f.told_owns;
    apart = f.apart;
    pen = λ e. absurd (without e);
    turn = f.turn;
    mark = f.mark;
    bare = f.bare;
  }

  home_pen : (c : Core E) (b : Bool) (p : ℕ) (l : List ℕ) (t : Bool) (homes : List (maybe.Option (Option S)))
      → Home m c t homes → Home m (record c { penned = b; penner = p; filled = l }) t homes
  home_pen c b p l true homes h = h
  home_pen c b p l false homes h = h

  unpenned : (n old : ℕ) (b : Bool) → 2 * n + bit b ≡ old → old % 2 ≡ 0 → b ≡ false
  unpenned n old true e even = absurd (let e' : 2 * n + 1 ≡ old = e in omega arith)
  unpenned n old false e even = refl

  pub takes_pen : (slots id : ℕ) (me : M) (old k : ℕ) (ks : List ℕ) → old % 2 ≡ 0 → me.0.numbers ≡ k ∷ ks
      → Allows (Rule m) slots id me 1 (λ n. either (eqb n old) (old + 1) n)
      (penned (step slots 1 old (old + 1) none) me)
  takes_pen slots id me old k ks even named s r _ at _ = let n : ℕ = get_or s.words 1 0 in
      exchanged n old (old + 1)
      (λ x. (w : View E) × (a : Act (Option S)) × Valid s.homes me.1 a × Rule m (stepped s 1 x id me.1 w a)
      × penned (step slots 1 old (old + 1) none) me n (w, carried_after me.1 a))
      (λ hit. let c = r.core in
      let f = r.fits id me.0 at in
      let v : View E = with_pen me.0 in
      let w : View E = record v { journal = c.journal; looks = v.looks + 1; misses = v.misses + n % 2 } in
      let c' : Core E = record c { penned = true; penner = id; filled = [] } in
      let now : 2 * rows_of c.journal + bit c.penned ≡ old = sym (ap (λ ws. get_or ws 1 0) r.words) ∙ hit in
      let free = unpenned (rows_of c.journal) old c.penned now even in
      let apart : (j : ℕ) (d : View E) → get_elem? s.views j ≡ some d → d.pen ≡ true
      → ⊥ = λ j d e h. let was = ((r.fits j d e).pen h).penned in cc in
      let more : old + 1 ≡ 2 * rows_of c.journal + bit true = ap (λ x. x + 1)
      (sym now ∙ ap (λ b. 2 * rows_of c.journal + bit b) free)
      ∙ (let q : ℕ = rows_of c.journal in let z : (2 * q + 0) + 1 ≡ 2 * q + 1 = omega arith in z) in
      let base = fits_pen c true id [] id me.0 (apart id me.0 at) f in
      let seeing = fits_seeing c' id me.0 r.recent base w.looks w.misses in (
        w,
        keeps,
        tt,
        record {
          core = c';
          rows = r.rows;
          words = ap (λ ws. set ws 1 (old + 1)) r.words ∙ (λ i. drawn_count m c ∷ more i ∷ bit c.turned ∷ r.rows);
          room = r.room;
          shown = subst (λ (l : List ℕ). Begins r.rows (journal_words c.journal ++ l)) (r.unfilled free) r.shown;
          home = home_pen c true id [] c.turned s.homes r.home;
          legal = r.legal;
          recent = r.recent;
          tasks = r.tasks;
          packed = r.packed;
          idle = r.idle;
          first = r.first;
          unfilled = λ e. refl;
          penned = (w, at_same s.views id me.0 w at, refl);
          turned = holds_set c.turned c.turner (λ d. d.turn) s.views id me.0 w at refl r.turned;
          owned = λ x l. there_set (λ d. Has x (d.numbers ++ d.told_numbers)) s.views id (c.owner x) me.0 w at (λ h. h)
              (r.owned x l);
          fits = each_set (Fits m c') s.views id w record {
            seen = seeing.seen;
            told = seeing.told;
            met = seeing.met;
            heard = seeing.heard;
            known = seeing.known;
            owns = seeing.owns;
            told_owns = seeing.told_owns;
            apart = seeing.apart;
            pen = λ _. record {
              penned = refl;
              penner = refl;
              journal = refl;
              filled = refl;
              number = k;
              ended = ks;
              numbers = named;
            };
            turn = seeing.turn;
            mark = seeing.mark;
            bare = λ e. absurd (let e' : true ≡ false = e in cc);
          } (λ j d _ e. fits_pen c true id [] j d (apart j d e) (r.fits j d e));
        },
        (
          refl,
          (λ _. record {
            same = refl;
            more = f.seen;
            rows = ap (λ x. x / 2) (hit ∙ sym now) ∙ halved (rows_of c.journal) c.penned;
            own = λ x h. (f.owns x h).batches;
            packed = r.packed;
            room =
                let b = begins_length r.shown in
                let l = length-append (journal_words c.journal) c.filled in let rm = r.room in omega arith;
          }),
          (λ miss. absurd (miss hit)),
        ),
      ))
      (λ miss. let w : View E = record me.0 { misses = me.0.misses + 1 } in (
        w,
        keeps,
        tt,
        unmoved s r 1 id me.1 me.0 w at (fits_counting r.core id me.0 (r.fits id me.0 at) w.loads w.misses) refl refl refl,
        (refl, (λ hit. absurd (miss hit)), (λ _. refl)),
      ))

  pub fills : (slots id : ℕ) (me : M) (i x : ℕ) → me.0.pen ≡ true → i ≡ rows_of me.0.journal + length me.0.filled + 3
      → rows_of me.0.journal + length me.0.filled < row_count
      → Allows (Rule m) slots id me i (λ _. x) (λ _. filled (step slots i x 0 none) me x)
  fills slots id me i x has is room s r _ at _ =
      let c = r.core in
      let f = r.fits id me.0 at in let p = f.pen has in let n : ℕ = rows_of me.0.journal + length me.0.filled in
      let front : List ℕ = journal_words c.journal ++ c.filled in
      let long : n ≡ length front = ap₂ (λ (js : List Batch) (l : List ℕ). rows_of js + length l) p.journal p.filled
      ∙ sym (length-append (journal_words c.journal) c.filled) in
      let l' : List ℕ = c.filled ++ x ∷ [] in
      let w : View E = record me.0 { filled = me.0.filled ++ x ∷ [] } in let c' : Core E = record c { filled = l' } in
      let far : i ≡ suc (suc (suc (length front))) = is
      ∙ (let z : n + 3 ≡ suc (suc (suc (length front))) = omega arith in z) in
      let other : (j : ℕ) (d : View E) → j ≢ id → get_elem? s.views j ≡ some d → d.pen ≡ true
      → ⊥ = λ j d ne e h. ne (sym ((r.fits j d e).pen h).penner ∙ p.penner) in (
        w,
        keeps,
        tt,
        record {
          core = c';
          rows = set r.rows (length front) x;
          words = ap₂ (λ ws (z : ℕ). set ws z x) r.words far;
          room = length-set r.rows (length front) x ∙ r.room;
          shown = let b = filled_in r.rows front x r.shown (let rm = r.room in omega arith) in
              subst (Begins (set r.rows (length front) x)) (append_assoc (journal_words c.journal) c.filled (x ∷ [])) b;
          home = home_pen c c.penned c.penner l' c.turned s.homes r.home;
          legal = r.legal;
          recent = r.recent;
          tasks = r.tasks;
          packed = r.packed;
          idle = r.idle;
          first = r.first;
          unfilled = λ e. let was = p.penned in cc;
          penned = holds_set c.penned c.penner (λ d. d.pen) s.views id me.0 w at refl r.penned;
          turned = holds_set c.turned c.turner (λ d. d.turn) s.views id me.0 w at refl r.turned;
          owned = λ y l. there_set (λ d. Has y (d.numbers ++ d.told_numbers)) s.views id (c.owner y) me.0 w at (λ h. h)
              (r.owned y l);
          fits = each_set (Fits m c') s.views id w record {
            seen = f.seen;
            told = f.told;
            met = f.met;
            heard = f.heard;
            known = f.known;
            owns = f.owns;
            told_owns = f.told_owns;
            apart = f.apart;
            pen = λ _. record {
              penned = p.penned;
              penner = p.penner;
              journal = p.journal;
              filled = ap (λ (l : List ℕ). l ++ x ∷ []) p.filled;
              number = p.number;
              ended = p.ended;
              numbers = p.numbers;
            };
            turn = f.turn;
            mark = f.mark;
            bare = λ e. absurd (let e' : me.0.pen ≡ false = e in cc);
          } (λ j d ne e. fits_pen c c.penned c.penner l' j d (other j d ne e) (r.fits j d e));
        },
        (refl, refl),
      )

  module _ (longer : (x : S) (js ks : List Batch) → m.stands x js → m.stands x (js ++ ks)) where
    home_longer : (c : Core E) (bs : List Batch) (b : Bool) (p : ℕ) (l : List ℕ) (t : Bool)
        (homes : List (maybe.Option (Option S))) → Home m c t homes
        → Home m (record c { journal = c.journal ++ bs; penned = b; penner = p; filled = l }) t homes
    home_longer c bs b p l true homes h = h
    home_longer c bs b p l false homes h = (h.0, h.1, h.2, longer h.0 c.journal bs h.3)

    pub publishes : (slots id : ℕ) (me : M) (x k : ℕ) (ks : List ℕ) (bs : List Batch) → me.0.pen ≡ true
        → me.0.numbers ≡ k ∷ ks → me.0.told_numbers ≡ [] → me.0.filled ≡ journal_words bs
        → ((b : Batch) → Has b bs → b.task ≡ k) → ArePacked bs
        → x ≡ 2 * (rows_of me.0.journal + length me.0.filled)
        → Allows (Rule m) slots id me 1 (λ _. x) (λ _. published (step slots 1 x 0 none) me x)
    publishes slots id me x k ks bs has named settled whole own brief is s r _ at _ =
        let c = r.core in let f = r.fits id me.0 at in let p = f.pen has in
        let w : View E = record me.0 { journal = me.0.journal ++ bs; pen = false; filled = [] } in
        let c' : Core E = record c { journal = c.journal ++ bs; penned = false; filled = [] } in
        let mine = f.owns k (subst (Has k) (sym named) here) in
        let grown : journal_words (c.journal ++ bs) ≡ journal_words c.journal ++ c.filled = words-append c.journal bs
        ∙ ap (λ (l : List ℕ). journal_words c.journal ++ l) (sym whole ∙ p.filled) in
        let now : x ≡ 2 * rows_of (c.journal ++ bs) + bit false = is
        ∙ (let e : rows_of me.0.journal + length me.0.filled ≡ rows_of (c.journal ++ bs) = ap₂
        (λ (js : List Batch) (l : List ℕ). rows_of js + length l) p.journal p.filled
        ∙ (sym (length-append (journal_words c.journal) c.filled) ∙ ap length (sym grown)) in omega arith) in
        let long : length (c.journal ++ bs) ≡ length c.journal + length bs = length-append c.journal bs in
        let others : (y : ℕ) → y ≢ k
        → batches_by y (c.journal ++ bs) ≡ batches_by y c.journal = λ y ne. those-append task_of_batch y c.journal bs
        ∙ (ap (λ (l : List Batch). batches_by y c.journal ++ l)
        (those_none task_of_batch y bs (λ b h e. ne (sym e ∙ own b h))) ∙ append-nil (batches_by y c.journal)) in (
          w,
          keeps,
          tt,
          record {
            core = c';
            rows = r.rows;
            words = ap (λ ws. set ws 1 x) r.words ∙ (λ i. drawn_count m c ∷ now i ∷ bit c.turned ∷ r.rows);
            room = r.room;
            shown = subst (Begins r.rows) (sym (append-nil (journal_words (c.journal ++ bs)) ∙ grown)) r.shown;
            home = home_longer c bs false c.penner [] c.turned s.homes r.home;
            legal = r.legal;
            recent = let u = r.recent in omega arith;
            tasks = λ b h. ⊎_elim (r.tasks b) (λ g. subst (λ z. z < drawn_count m c) (sym (own b g)) mine.drawn)
                (has_either c.journal bs h);
            packed = λ b h. ⊎_elim (r.packed b) (brief b) (has_either c.journal bs h);
            idle = r.idle;
            first = r.first;
            unfilled = λ e. refl;
            penned = tt;
            turned = holds_set c.turned c.turner (λ d. d.turn) s.views id me.0 w at refl r.turned;
            owned = λ y l. there_set (λ d. Has y (d.numbers ++ d.told_numbers)) s.views id (c.owner y) me.0 w at
                (λ h. h) (r.owned y l);
            fits = each_set (Fits m c') s.views id w record {
              seen = subst (λ (l : List Batch). Begins (c.journal ++ bs) (l ++ bs)) (sym p.journal)
                  (begins_self (c.journal ++ bs));
              told = begins_more bs f.told;
              met = f.met;
              heard = f.heard;
              known = f.known;
              owns = λ y h. let o = f.owns y h in
                  record {
                    owner = o.owner;
                    drawn = o.drawn;
                    batches = ap (λ (l : List Batch). batches_by y (l ++ bs)) (sym p.journal);
                    entries = o.entries;
                  };
              told_owns = λ y h. absurd (has_none settled h);
              apart = λ y h t. absurd (has_none settled t);
              pen = λ e. absurd (let e' : false ≡ true = e in cc);
              turn = λ e. let t = f.turn e in
                  record {
                    turned = t.turned;
                    turner = t.turner;
                    history = t.history;
                    recent =
                        let u = t.recent in
                        omega (arith, length-append me.0.journal bs);
                    noticed = t.noticed;
                    number = t.number;
                    ended = t.ended;
                    numbers = t.numbers;
                    alive = t.alive;
                  };
              mark = f.mark;
              bare = λ e. refl;
            } (λ j d ne e. let g = r.fits j d e in record {
              seen = begins_more bs g.seen;
              told = begins_more bs g.told;
              met = g.met;
              heard = g.heard;
              known = g.known;
              owns = λ y h. let o = g.owns y h in
                  record {
                    owner = o.owner;
                    drawn = o.drawn;
                    batches = others y (λ e. ne (sym o.owner ∙ (ap c.owner e ∙ mine.owner))) ∙ o.batches;
                    entries = o.entries;
                  };
              told_owns = λ y h. let o = g.told_owns y h in
                  record {
                    owner = o.owner;
                    drawn = o.drawn;
                    batches = others y (λ e. ne (sym o.owner ∙ (ap c.owner e ∙ mine.owner))) ∙ o.batches;
                    entries = o.entries;
                  };
              apart = g.apart;
              pen = λ h. absurd (ne (sym (g.pen h).penner ∙ p.penner));
              turn = g.turn;
              mark = g.mark;
              bare = g.bare;
            });
          },
          (
            refl,
            λ cs e t. ap
                (λ (l : List Batch). record me.0 { journal = me.0.journal ++ l; pen = false; filled = [] })
                (one_words bs cs brief t (sym whole ∙ e)),
          ),
        )
