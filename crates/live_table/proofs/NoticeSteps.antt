-- Notices: a view is cut in two, and views are joined.
use Rattle.std.proofs.Common.{◌≡◌, ℕ, zero, suc, ◌<◌, ◌≤◌, ◌≢◌, ◌⊎◌, ◌==◌, ◌&&◌, ◌||◌, not, nat_lt, if◌then◌else◌, Bool, true, false, List, [], ◌∷◌, ◌++◌, length, get_or, set, sym, refl, ap, ◌∙◌, subst, inl, inr, ⊎_elim, append-nil, arith, length-append, length-set, Option, eq-eqb, ne_eqb}
use mathlib.Core.Option as maybe
use mathlib.Core.Option.{none, some, some-injective, some-ne-none}
use mathlib.Core.Logic.{dite}
use native.Mathlib.Decide.{ℕ_discrete}
use lib.ListN.{get_elem?}
use Rattle.std.proofs.lemmas.Bool.Decides.{nat_tests}
use Rattle.atomic_table.specs.Table.{State, Me, step, keeps, Allows, Splits, Joins}
use Rattle.atomic_table.proofs.Lists.{set_else}
use Rattle.live_table.specs.declared.view.View.{View}
use Rattle.live_table.specs.Lists.{Begins, Has, here, there, those_of}
use Rattle.live_table.specs.Machines.{Means, entries_by}
use Rattle.live_table.specs.Core.{Core, drawn_count, Home, Fits, Holds, Rule}
use Rattle.live_table.specs.Plays.{knowing, longer, notified, notice_of, spent, joined, counted, heard}
use Rattle.live_table.proofs.Lists.{begins_self, begins_nil, begins_length, begins_both, has_left, has_right, has_either, those-append, each_set, there_set, there_snoc, at_same}
use Rattle.live_table.proofs.RowSteps.{unmoved, holds_set, saw_all}

at_snoc_here : {A : Type 0} (l : List A) (a b : A) (j : ℕ) → get_elem? (l ++ a ∷ []) j ≡ some b
    → (get_elem? l j ≡ some b) ⊎ ((j ≡ length l) × (a ≡ b))
at_snoc_here [] a b zero e = inr (refl, some-injective a b e)
at_snoc_here [] a b (suc j) e = absurd (some-ne-none b (sym e))
at_snoc_here (x ∷ l) a b zero e = inl e
at_snoc_here (x ∷ l) a b (suc j) e = ⊎_elim (λ t. inl t) (λ t. inr (ap suc t.0, t.1)) (at_snoc_here l a b j e)

module _ {S E : Type 0} (m : Means S E) where
  abbrev St : Type 0
  St = State (Option S) (View E)

  abbrev M : Type 0
  M = Me (Option S) (View E)

  pub counts : (slots id : ℕ) (me : M) → Allows (Rule m) slots id me 0 (λ x. x) (counted (step slots 0 0 0 none) me)
  counts slots id me s r _ at _ =
      let c = r.core in
      let f = r.fits id me.0 at in
      let n : ℕ = get_or s.words 0 0 in
      let is : n ≡ drawn_count m c = ap (λ ws. get_or ws 0 0) r.words in let w : View E = knowing n me.0 in (
        w,
        keeps,
        tt,
        unmoved m s r 0 id me.1 me.0 w at record {
          seen = f.seen;
          told = f.told;
          met = f.met;
          heard = f.heard;
          known = omega arith;
          owns = f.owns;
          told_owns = f.told_owns;
          apart = f.apart;
          pen = f.pen;
          turn = f.turn;
          mark = f.mark;
          bare = f.bare;
        } refl refl refl,
        (refl, refl, (let k = f.known in omega arith), λ k h. let low = (f.owns k h).drawn in omega arith),
      )

  holds_snoc : (b : Bool) (j : ℕ) (held : View E → Bool) (vs : List (View E)) (w : View E) → Holds m b j held vs
      → Holds m b j held (vs ++ w ∷ [])
  holds_snoc false j held vs w h = tt
  holds_snoc true j held vs w h = there_snoc (λ d. held d ≡ true) vs j w h

  home_noticed : (c : Core E) (b : Bool) (i : ℕ) (t : Bool) (homes : List (maybe.Option (Option S))) → Home m c t homes
      → Home m (record c { noticed = b; child = i }) t homes
  home_noticed c b i true homes h = h
  home_noticed c b i false homes h = h

  abbrev notice_view : View E → Bool → View E
  notice_view v b = record {
    numbers = [];
    journal = v.journal;
    history = v.history;
    told_numbers = [];
    told_journal = [];
    told_history = [];
    pen = false;
    filled = [];
    turn = false;
    noticed = false;
    marked = b;
    known = v.known;
    loads = 0;
    ended_loads = [];
    looks = 0;
    pens = 0;
    misses = 0;
  }

  abbrev noticing : View E → Bool → View E
  noticing v b = record v { noticed = b }

  -- the core of a cut: whether the turn's holder has made a notice, and which is marked
  split_at : (s : St) (r : Rule m s) (id : ℕ) (v : View E) → get_elem? s.views id ≡ some v
      → (b mk : Bool) (n : Bool) (i : ℕ)
      → (v.turn ≡ true → b ≡ n) → (r.core.turned ≡ false → n ≡ false) → (r.core.drawn ≡ true → n ≡ true)
      → ((j : ℕ) (d : View E) → j ≢ id → get_elem? s.views j ≡ some d → d.turn ≡ true → r.core.noticed ≡ n)
      → ((j : ℕ) (d : View E) → get_elem? s.views j ≡ some d → d.marked ≡ true → (n ≡ true) × (i ≡ r.core.child))
      → (mk ≡ true → (r.core.turned ≡ true) × (n ≡ true) × (r.core.drawn ≡ false) × (i ≡ length s.views)
      × (v.history ≡ r.core.history))
      → Rule m record {
        words = s.words;
        homes = s.homes;
        views = set s.views id (noticing v b) ++ notice_view v mk ∷ [];
      }
  split_at s r id v at b mk n i own idle first others marks marked =
      let c = r.core in let f = r.fits id v at in let c' : Core E = record c { noticed = n; child = i } in
      let left : View E = noticing v b in
      let right : View E = notice_view v mk in let vs : List (View E) = set s.views id left in
      let long : length vs ≡ length s.views = length-set s.views id left in
      let old : (j : ℕ) (d : View E) → get_elem? vs j ≡ some d
      → Fits m c' j d = each_set (Fits m c') s.views id left record {
        seen = f.seen;
        told = f.told;
        met = f.met;
        heard = f.heard;
        known = f.known;
        owns = f.owns;
        told_owns = f.told_owns;
        apart = f.apart;
        pen = f.pen;
        turn = λ e. let t = f.turn e in
            record {
              turned = t.turned;
              turner = t.turner;
              history = t.history;
              recent = t.recent;
              noticed = own e;
              number = t.number;
              ended = t.ended;
              numbers = t.numbers;
              alive = t.alive;
            };
        mark = λ e. let t = f.mark e in
            let u = marks id v at e in
            record {
              turned = t.turned;
              noticed = u.0;
              drawn = t.drawn;
              child = u.1 ∙ t.child;
              history = t.history;
              numbers = t.numbers;
            };
        bare = f.bare;
      } (λ j d ne e. let g = r.fits j d e in record {
        seen = g.seen;
        told = g.told;
        met = g.met;
        heard = g.heard;
        known = g.known;
        owns = g.owns;
        told_owns = g.told_owns;
        apart = g.apart;
        pen = g.pen;
        turn = λ h. let t = g.turn h in
            record {
              turned = t.turned;
              turner = t.turner;
              history = t.history;
              recent = t.recent;
              noticed = t.noticed ∙ others j d ne e h;
              number = t.number;
              ended = t.ended;
              numbers = t.numbers;
              alive = t.alive;
            };
        mark = λ h. let t = g.mark h in
            let u = marks j d e h in
            record {
              turned = t.turned;
              noticed = u.0;
              drawn = t.drawn;
              child = u.1 ∙ t.child;
              history = t.history;
              numbers = t.numbers;
            };
        bare = g.bare;
      }) in
      record {
        core = c';
        rows = r.rows;
        words = r.words;
        room = r.room;
        shown = r.shown;
        home = home_noticed c n i c.turned s.homes r.home;
        legal = r.legal;
        recent = r.recent;
        tasks = r.tasks;
        packed = r.packed;
        idle = λ e. (idle e, (r.idle e).1);
        first = first;
        unfilled = r.unfilled;
        penned = holds_snoc c.penned c.penner (λ d. d.pen) vs right
            (holds_set m c.penned c.penner (λ d. d.pen) s.views id v left at refl r.penned);
        turned = holds_snoc c.turned c.turner (λ d. d.turn) vs right
            (holds_set m c.turned c.turner (λ d. d.turn) s.views id v left at refl r.turned);
        owned = λ k l. there_snoc (λ d. Has k (d.numbers ++ d.told_numbers)) vs (c.owner k) right
            (there_set (λ d. Has k (d.numbers ++ d.told_numbers)) s.views id (c.owner k) v left at (λ h. h)
            (r.owned k l));
        fits = λ j d e. ⊎_elim (old j d) (λ (t : (j ≡ length vs) × (right ≡ d)). subst (Fits m c' j) t.1 record {
          seen = f.seen;
          told = begins_nil c.journal;
          met = f.met;
          heard = begins_nil c.history;
          known = f.known;
          owns = λ k h. elim h [ ];
          told_owns = λ k h. elim h [ ];
          apart = λ k h t. elim t [ ];
          pen = λ h. absurd (let h' : false ≡ true = h in cc);
          turn = λ h. absurd (let h' : false ≡ true = h in cc);
          mark = λ h. let u = marked h in
              record {
                turned = u.0;
                noticed = u.1;
                drawn = u.2;
                child = u.3 ∙ (sym long ∙ sym t.0);
                history = u.4;
                numbers = refl;
              };
          bare = λ _. refl;
        }) (at_snoc_here vs right d j e);
      }

  pub notices : (id : ℕ) (v : View E) → Splits (Rule m) id v (notified v) (notice_of v)
  notices id v s r at = let c = r.core in let f = r.fits id v at in
      (elim v.turn as
      (λ t. v.turn ≡ t
      → Rule m record {
        words = s.words;
        homes = s.homes;
        views = set s.views id (noticing v t) ++ notice_view v (t && not v.noticed) ∷ [];
      }) [
        | true ↦ λ has. let t = f.turn has in let turned = t.turned in
            (elim v.noticed as
            (λ b. v.noticed ≡ b
            → Rule m record {
              words = s.words;
              homes = s.homes;
              views = set s.views id (noticing v true) ++ notice_view v (true && not b) ∷ [];
            }) [
              | true ↦ λ is. let now : c.noticed ≡ true = sym t.noticed ∙ is in
                  split_at s r id v at true false true c.child (λ _. refl) (λ e. cc) (λ _. refl) (λ j d ne e h. now)
                  (λ j d e h. (refl, refl)) (λ e. absurd (let e' : false ≡ true = e in cc))
              | false ↦ λ is. let now : c.noticed ≡ false = sym t.noticed ∙ is in
                  let undrawn : c.drawn ≡ false = (elim c.drawn as
                  (λ b. c.drawn ≡ b
                  → b ≡ false) [ true ↦ λ e. absurd (let e' = r.first e in cc) | false ↦ λ e. refl ]) refl in
                  split_at s r id v at true true true (length s.views) (λ _. refl) (λ e. cc) (λ _. refl)
                  (λ j d ne e h. absurd (ne (sym ((r.fits j d e).turn h).turner ∙ t.turner)))
                  (λ j d e h. absurd (let u = ((r.fits j d e).mark h).noticed in cc))
                  (λ e. (turned, refl, undrawn, refl, t.history))
            ]) refl
        | false ↦ λ has. split_at s r id v at false false c.noticed c.child (λ e. absurd (cc))
            (λ e. (r.idle e).0) r.first (λ j d ne e h. refl) (λ j d e h. (((r.fits j d e).mark h).noticed, refl))
            (λ e. absurd (let e' : false ≡ true = e in cc))
      ]) refl

  -- what a view's longer list is, and that both are beginnings
  record Longer {A : Type 0} (whole xs ys zs : List A) : Type 0 where
    met : Begins whole zs
    one : Begins zs xs
    two : Begins zs ys

  both_begin : {A : Type 0} (whole xs ys : List A) → Begins whole xs → Begins whole ys
      → Longer whole xs ys (longer xs ys)
  both_begin {A} whole xs ys a b = (elim (nat_lt (length xs) (length ys)) as
      (λ t. nat_lt (length xs) (length ys) ≡ t → Longer whole xs ys (if t then ys else xs)) [
        | true ↦ λ e. let l : length xs < length ys = grind (arith, nat_tests) in
            record { met = b; one = begins_both whole ys xs b a (omega arith); two = begins_self ys }
        | false ↦ λ e. let l : length ys ≤ length xs = grind (arith, nat_tests) in
            record { met = a; one = begins_self xs; two = begins_both whole xs ys a b l }
      ]) refl

  -- the members of one number, between two lists that have the same of them
  between : {A : Type 0} (number : A → ℕ) (k : ℕ) (whole mid front : List A) → Begins whole mid → Begins mid front
      → those_of number k whole ≡ those_of number k front → those_of number k whole ≡ those_of number k mid
  between {A} number k whole mid front a b e = let x = b.rest in let y = a.rest in
      let f : List A = those_of number k front in
      let p : List A = those_of number k x in let q : List A = those_of number k y in
      let m1 : those_of number k mid ≡ f ++ p = ap (those_of number k) b.is ∙ those-append number k front x in
      let m2 : those_of number k whole ≡ (f ++ p) ++ q = ap (those_of number k) a.is
      ∙ (those-append number k mid y ∙ ap (λ l. l ++ q) m1) in
      let len : length p ≡ 0 = (let u : length ((f ++ p) ++ q) ≡ length f = ap length (sym m2 ∙ e) in
      omega (arith, length-append (f ++ p) q, length-append f p)) in
      e ∙ sym (m1 ∙ (ap (λ l. f ++ l) (nothing p len) ∙ append-nil f)) where
        nothing : (l : List A) → length l ≡ 0 → l ≡ []
        nothing [] e = refl
        nothing (x ∷ l) e = absurd (omega arith)

  whole_longer : {A : Type 0} (whole xs ys : List A) → xs ≡ whole → Begins whole ys → longer xs ys ≡ whole
  whole_longer {A} whole xs ys e b =
      let k : length xs ≡ length whole = ap length e in
      let h : length ys ≤ length whole = begins_length b in
      (elim (nat_lt (length xs) (length ys)) as
      (λ t. nat_lt (length xs) (length ys) ≡ t → (if t then ys else xs) ≡ whole) [
        | true ↦ λ i. let l : length xs < length ys = grind (arith, nat_tests) in absurd (omega arith)
        | false ↦ λ i. e
      ]) refl

  abbrev contains : ℕ → List ℕ → Bool
  contains k [] = false
  contains k (x ∷ xs) = (k == x) || contains k xs

  has_contains : {k : ℕ} {l : List ℕ} → Has k l → contains k l ≡ true
  has_contains {k} (here {xs}) = rw (eq-eqb k k refl)
  has_contains {k} (there {y} {xs} h) =
      let e = has_contains h in (elim (k == y) as (λ b. (b || contains k xs) ≡ true) [ true ↦ refl | false ↦ e ])

  contains_has : (k : ℕ) (l : List ℕ) → contains k l ≡ true → Has k l
  contains_has k [] e = absurd (let e' : false ≡ true = e in cc)
  contains_has k (x ∷ l) e = dite (ℕ_discrete k x) (λ i. subst (λ z. Has k (z ∷ l)) i here)
      (λ ne. there (contains_has k l (let p : contains k (x ∷ l) ≡ contains k l = rw (ne_eqb k x ne) in sym p ∙ e)))

  home_owner : (c : Core E) (o : ℕ → ℕ) (t : Bool) (homes : List (maybe.Option (Option S))) → Home m c t homes
      → Home m (record c { owner = o }) t homes
  home_owner c o true homes h = h
  home_owner c o false homes h = h

  pub joins : (id : ℕ) (v : View E) (other : ℕ) (w : View E) → v.told_numbers ≡ [] → w.told_numbers ≡ [] → w.pen ≡ false
      → w.turn ≡ false → Joins (Rule m) id v other w (joined v w) spent
  joins id v other w settled calm penless turnless s r at apart there_is =
      let c = r.core in let f = r.fits id v at in let u : View E = joined v w in
      let their : get_elem? s.views other ≡ some w = sym (set_else s.views id other u apart) ∙ there_is in
      let g = r.fits other w their in
      let c' : Core E = record c { owner = λ k. if contains k w.numbers then id else c.owner k } in
      let vs : List (View E) = set s.views id u in
      let moved : (k : ℕ) → Has k w.numbers → c'.owner k ≡ id = λ k h. rw (has_contains h) in
      let stays : (k : ℕ) → (Has k w.numbers → ⊥)
      → c'.owner k ≡ c.owner k = λ k h.
      (elim (contains k w.numbers) as (λ b. contains k w.numbers ≡ b → (if b then id else c.owner k) ≡ c.owner k) [
        | true ↦ λ e. absurd (h (contains_has k w.numbers e))
        | false ↦ λ e. refl
      ]) refl in
      let theirs : (k j : ℕ) → j ≢ other → c.owner k ≡ j → Has k w.numbers
      → ⊥ = λ k j ne o h. ne (sym o ∙ (g.owns k h).owner) in
      record {
        core = c';
        rows = r.rows;
        words = r.words;
        room = r.room;
        shown = r.shown;
        home = home_owner c c'.owner c.turned s.homes r.home;
        legal = r.legal;
        recent = r.recent;
        tasks = r.tasks;
        packed = r.packed;
        idle = r.idle;
        first = r.first;
        unfilled = r.unfilled;
        penned = holds_away c.penned c.penner (λ d. d.pen) vs other w there_is penless
            (holds_set m c.penned c.penner (λ d. d.pen) s.views id v u at refl r.penned);
        turned = holds_away c.turned c.turner (λ d. d.turn) vs other w there_is turnless
            (holds_set m c.turned c.turner (λ d. d.turn) s.views id v u at refl r.turned);
        owned = λ k l.
            (elim (contains k w.numbers) as
            (λ b. contains k w.numbers ≡ b → (d : View E)
            × (get_elem? (set vs other spent) (if b then id else c.owner k) ≡ some d)
            × Has k (d.numbers ++ d.told_numbers)) [
              | true ↦ λ e. (
                u,
                set_else vs other id spent (λ i. apart (sym i)) ∙ at_same s.views id v u at,
                has_right v.numbers (contains_has k w.numbers e),
              )
              | false ↦ λ e. let without : Has k (w.numbers ++ w.told_numbers)
                  → ⊥ = (λ h. let y = has_contains
                  (subst (Has k) (ap (λ l. w.numbers ++ l) calm ∙ append-nil w.numbers) h) in cc) in
                  away (λ d. Has k (d.numbers ++ d.told_numbers)) vs other w (c.owner k) there_is without
                  (there_set (λ d. Has k (d.numbers ++ d.told_numbers)) s.views id (c.owner k) v u at
                  (λ h. has_left w.numbers (subst (Has k) (ap (λ l. v.numbers ++ l) settled ∙ append-nil v.numbers) h))
                  (r.owned k l))
            ]) refl;
        fits = each_set (Fits m c') vs other spent record {
          seen = begins_nil c.journal;
          told = begins_nil c.journal;
          met = begins_nil c.history;
          heard = begins_nil c.history;
          known = omega arith;
          owns = λ k h. elim h [ ];
          told_owns = λ k h. elim h [ ];
          apart = λ k h t. elim t [ ];
          pen = λ h. absurd (let h' : false ≡ true = h in cc);
          turn = λ h. absurd (let h' : false ≡ true = h in cc);
          mark = λ h. absurd (let h' : false ≡ true = h in cc);
          bare = λ _. refl;
        } (λ j d far e'. each_set (λ i x. i ≢ other → Fits m c' i x) s.views id u (λ _. record {
          seen = f.seen;
          told = g.seen;
          met = f.met;
          heard = g.met;
          known = let a = f.known in let b = g.known in omega arith;
          owns = λ k h. let o = f.owns k h in
              record {
                owner = stays k (theirs k id (λ e. apart (sym e)) o.owner) ∙ o.owner;
                drawn = o.drawn;
                batches = o.batches;
                entries = o.entries;
              };
          told_owns = λ k h. let o = g.owns k h in
              record { owner = moved k h; drawn = o.drawn; batches = o.batches; entries = o.entries };
          apart = λ k h t. theirs k id (λ e. apart (sym e)) (f.owns k h).owner t;
          pen = f.pen;
          turn = f.turn;
          mark = f.mark;
          bare = f.bare;
        }) (λ i x ne e far'. let q = r.fits i x e in record {
          seen = q.seen;
          told = q.told;
          met = q.met;
          heard = q.heard;
          known = q.known;
          owns = λ k h. let o = q.owns k h in
              record {
                owner = stays k (theirs k i far' o.owner) ∙ o.owner;
                drawn = o.drawn;
                batches = o.batches;
                entries = o.entries;
              };
          told_owns = λ k h. let o = q.told_owns k h in
              record {
                owner = stays k (theirs k i far' o.owner) ∙ o.owner;
                drawn = o.drawn;
                batches = o.batches;
                entries = o.entries;
              };
          apart = q.apart;
          pen = q.pen;
          turn = q.turn;
          mark = q.mark;
          bare = q.bare;
        }) j d e' far);
      } where
        away : (P : View E → Type 0) (vs : List (View E)) (other : ℕ) (w : View E) (j : ℕ) → get_elem? vs other ≡ some w
            → (P w → ⊥) → (d : View E) × (get_elem? vs j ≡ some d) × P d → (d : View E)
            × (get_elem? (set vs other spent) j ≡ some d) × P d
        away P vs other w j at without t = (
          t.0,
          set_else vs other j spent
              (λ e. without (subst P (some-injective t.0 w (sym t.1 ∙ (ap (get_elem? vs) e ∙ at))) t.2)) ∙ t.1,
          t.2,
        )

        holds_away : (b : Bool) (j : ℕ) (held : View E → Bool) (vs : List (View E)) (other : ℕ) (w : View E)
            → get_elem? vs other ≡ some w → held w ≡ false → Holds m b j held vs → Holds m b j held (set vs other spent)
        holds_away false j held vs other w at no_ h = tt
        holds_away true j held vs other w at no_ h = away (λ d. held d ≡ true) vs other w j at (λ e. cc) h

  choice : {A : Type 0} (xs ys : List A) → (longer xs ys ≡ xs) ⊎ (longer xs ys ≡ ys)
  choice xs ys = elim (nat_lt (length xs) (length ys)) as
      (λ t. ((if t then ys else xs) ≡ xs) ⊎ ((if t then ys else xs) ≡ ys)) [ true ↦ inr refl | false ↦ inl refl ]

  pub hears : (slots id : ℕ) (me : M) (n : ℕ) (ns : List ℕ) → me.0.numbers ≡ n ∷ ns
      → Allows (Rule m) slots id me 1 (λ x. x) (heard m (step slots 1 0 0 none) me)
  hears slots id me n ns named s r _ at _ = let c = r.core in let v : View E = me.0 in let f = r.fits id v at in
      let hs = both_begin c.history v.history v.told_history f.met f.heard in
      let es : List E = longer v.history v.told_history in
      let w : View E = record v {
        numbers = v.numbers ++ v.told_numbers;
        journal = c.journal;
        history = es;
        told_numbers = [];
        told_journal = [];
        told_history = [];
      } in
      let mine : (k : ℕ) → Has k v.numbers
      → entries_by m k c.history ≡ entries_by m k es = λ k h. between m.number k c.history es v.history hs.met hs.one
      (f.owns k h).entries in
      let told : (k : ℕ) → Has k v.told_numbers
      → entries_by m k c.history ≡ entries_by m k es = λ k h. between m.number k c.history es v.told_history hs.met hs.two
      (f.told_owns k h).entries in
      let saw = saw_all m s r id v at in (
        w,
        keeps,
        tt,
        unmoved m s r 1 id me.1 v w at record {
          seen = begins_self c.journal;
          told = begins_nil c.journal;
          met = hs.met;
          heard = begins_nil c.history;
          known = f.known;
          owns = λ k h. ⊎_elim
              (λ a. let o = f.owns k a in
              record { owner = o.owner; drawn = o.drawn; batches = refl; entries = mine k a })
              (λ b. let o = f.told_owns k b in
              record { owner = o.owner; drawn = o.drawn; batches = refl; entries = told k b })
              (has_either v.numbers v.told_numbers h);
          told_owns = λ k h. elim h [ ];
          apart = λ k h t. elim t [ ];
          pen = λ e. let p = f.pen e in
              record {
                penned = p.penned;
                penner = p.penner;
                journal = refl;
                filled = p.filled;
                number = p.number;
                ended = p.ended ++ v.told_numbers;
                numbers = ap (λ l. l ++ v.told_numbers) p.numbers;
              };
          turn = λ e. let t = f.turn e in
              record {
                turned = t.turned;
                turner = t.turner;
                history = whole_longer c.history v.history v.told_history t.history f.heard;
                recent = r.recent;
                noticed = t.noticed;
                number = t.number;
                ended = t.ended ++ v.told_numbers;
                numbers = ap (λ l. l ++ v.told_numbers) t.numbers;
                alive = t.alive;
              };
          mark = λ e. absurd (let y = (f.mark e).numbers in cc);
          bare = f.bare;
        } (append-nil (v.numbers ++ v.told_numbers)) refl refl,
        (
          refl,
          record {
            view = refl;
            rows = saw.rows;
            room = saw.room;
            packed = r.packed;
            journal = f.seen;
            history = hs.one;
            told_journal = f.told;
            told_history = hs.two;
            longest = choice v.history v.told_history;
            apart = f.apart;
            batches = λ k h. (f.owns k h).batches;
            entries = λ k h. sym (mine k h) ∙ (f.owns k h).entries;
            told_batches = λ k h. (f.told_owns k h).batches;
            told_entries = λ k h. sym (told k h) ∙ (f.told_owns k h).entries;
          },
        ),
      )
