-- The steps on the turn keep the rule.
use Rattle.std.proofs.Common.{◌≡◌, ℕ, ◌+◌, ◌*◌, ◌%◌, ◌^◌, ◌<◌, ◌≤◌, ◌≢◌, ◌==◌, eqb, if◌then◌else◌, Bool, true, false, List, [], ◌∷◌, ◌++◌, length, get_or, set, sym, refl, ap, ap₂, ◌∙◌, subst, append-nil, arith, Option, Some, None, eq-eqb, ne_eqb, mod-eq_of_lt}
use mathlib.Core.Option as maybe
use mathlib.Core.Option.{none, some, some-injective}
use mathlib.Core.Logic.{dite}
use mathlib.Core.List.{append_cancel_left}
use native.Mathlib.Decide.{ℕ_discrete}
use lib.ListN.{get_elem?}
use prog.Atomic.{either}
use Rattle.atomic_table.specs.Table.{State, Me, Act, step, keeps, takes, gives, stepped, Allows, Valid, carried_after}
use Rattle.atomic_table.proofs.Lists.{exchanged}
use Rattle.rules_spec.specs.declared.Batch.{Batch}
use Rattle.live_table.specs.declared.view.View.{View}
use Rattle.live_table.specs.Lists.{Begins, Has, here, there}
use Rattle.live_table.specs.Batches.{rows_of, batches_by, task_of_batch}
use Rattle.live_table.specs.Machines.{Means, makes, made, last_from, last_version, Next, LegalFrom, entries_by}
use Rattle.live_table.specs.Core.{bit, Core, drawn_count, Home, HoldsTurn, Owns, Fits, Rule}
use Rattle.live_table.specs.Plays.{took, gave, drew, MayGive, IsTurn, at_turn, given, enrolled}
use Rattle.live_table.proofs.Lists.{begins_self, begins_more, begins_length, has_left, those-append, those_none, each_set, there_set, at_same}
use Rattle.live_table.proofs.RowSteps.{unmoved, fits_counting, holds_set, in_room, has_none}

module _ {S E : Type 0} (m : Means S E) where
  abbrev St : Type 0
  St = State (Option S) (View E)

  abbrev M : Type 0
  M = Me (Option S) (View E)

  pub home_free : (c : Core E) (t : Bool) (homes : List (maybe.Option (Option S))) → t ≡ false → Home m c t homes
      → Home m c false homes
  home_free c t homes e h = subst (λ b. Home m c b homes) e h

  home_out : (c : Core E) (t : Bool) (homes : List (maybe.Option (Option S))) → t ≡ true → Home m c t homes
      → homes ≡ maybe.none ∷ []
  home_out c t homes e h = subst (λ b. Home m c b homes) e h

  unturned : (b : Bool) → bit b ≡ 0 → b ≡ false
  unturned true e = absurd (let e' : 1 ≡ 0 = e in omega arith)
  unturned false e = refl

  pub takes_turn : (slots id : ℕ) (me : M) (k : ℕ) (ks : List ℕ) → me.0.numbers ≡ k ∷ ks → me.1 ≡ []
      → Allows (Rule m) slots id me 2 (λ n. either (eqb n 0) 1 n) (took m (step slots 2 0 1 none) me)
  takes_turn slots id me k ks named bare s r _ at _ = let n : ℕ = get_or s.words 2 0 in
      exchanged n 0 1
      (λ x. (w : View E) × (a : Act (Option S)) × Valid s.homes me.1 a × Rule m (stepped s 2 x id me.1 w a)
      × took m (step slots 2 0 1 none) me n (w, carried_after me.1 a))
      (λ hit. let c = r.core in let f = r.fits id me.0 at in
      let free = unturned c.turned (sym (ap (λ ws. get_or ws 2 0) r.words) ∙ hit) in
      let h = home_free c c.turned s.homes free r.home in let y : S = h.0 in
      let w : View E = at_turn me.0 c.journal c.history in
      let c' : Core E = record c { turned = true; turner = id } in let still = r.idle free in
      let apart : (j : ℕ) (d : View E) → get_elem? s.views j ≡ some d → d.turn ≡ true
      → ⊥ = λ j d e t. let was = ((r.fits j d e).turn t).turned in cc in
      let plain : (j : ℕ) (d : View E) → get_elem? s.views j ≡ some d → d.marked ≡ true
      → ⊥ = λ j d e t. let was = ((r.fits j d e).mark t).turned in cc in
      let mine = f.owns k (subst (Has k) (sym named) here) in
      let low = mine.drawn in let zero_drawn = ap bit still.1 in (
        w,
        takes 0 (Some y),
        ap (λ l. get_elem? l 0) h.1,
        record {
          core = c';
          rows = r.rows;
          words = ap (λ ws. set ws 2 1) r.words;
          room = r.room;
          shown = r.shown;
          home = ap (λ l. set l 0 none) h.1;
          legal = r.legal;
          recent = r.recent;
          tasks = r.tasks;
          packed = r.packed;
          idle = λ e. absurd (let e' : true ≡ false = e in cc);
          first = r.first;
          unfilled = r.unfilled;
          penned = holds_set m c.penned c.penner (λ d. d.pen) s.views id me.0 w at refl r.penned;
          turned = (w, at_same s.views id me.0 w at, refl);
          owned = λ x l. there_set (λ d. Has x (d.numbers ++ d.told_numbers)) s.views id (c.owner x) me.0 w at (λ h. h)
              (r.owned x l);
          fits = each_set (Fits m c') s.views id w record {
            seen = begins_self c.journal;
            told = f.told;
            met = begins_self c.history;
            heard = f.heard;
            known = f.known;
            owns = λ x h. let o = f.owns x h in
                record { owner = o.owner; drawn = o.drawn; batches = refl; entries = refl };
            told_owns = f.told_owns;
            apart = f.apart;
            pen = λ e. let p = f.pen e in
                record {
                  penned = p.penned;
                  penner = p.penner;
                  journal = refl;
                  filled = p.filled;
                  number = p.number;
                  ended = p.ended;
                  numbers = p.numbers;
                };
            turn = λ _. record {
              turned = refl;
              turner = refl;
              history = refl;
              recent = r.recent;
              noticed = sym still.0;
              number = k;
              ended = ks;
              numbers = named;
              alive = omega arith;
            };
            mark = λ e. absurd (plain id me.0 at e);
            bare = f.bare;
          } (λ j d _ e. let g = r.fits j d e in record {
            seen = g.seen;
            told = g.told;
            met = g.met;
            heard = g.heard;
            known = g.known;
            owns = g.owns;
            told_owns = g.told_owns;
            apart = g.apart;
            pen = g.pen;
            turn = λ t. absurd (apart j d e t);
            mark = λ t. absurd (plain j d e t);
            bare = g.bare;
          });
        },
        (
          (λ _. (
            y,
            record {
              view = refl;
              journal = f.seen;
              history = f.met;
              batches = λ x h. (f.owns x h).batches;
              entries = λ x h. (f.owns x h).entries;
              out = ap (λ l. (0, Some y) ∷ l) bare;
              is = h.2;
              stands = h.3;
              legal = r.legal;
              recent = r.recent;
              room = in_room m s r id me.0 at;
              packed = r.packed;
            },
          )),
          (λ miss. absurd (miss hit)),
        ),
      ))
      (λ miss. let w : View E = record me.0 { misses = me.0.misses + 1 } in (
        w,
        keeps,
        tt,
        unmoved m s r 2 id me.1 me.0 w at (fits_counting m r.core id me.0 (r.fits id me.0 at) w.loads w.misses) refl refl refl,
        ((λ hit. absurd (miss hit)), (λ _. (refl, refl))),
      ))

  pub made-append : (xs ys : List E) → made m (xs ++ ys) ≡ made m xs + made m ys
  made-append [] ys = omega arith
  made-append (x ∷ xs) ys = let e = made-append xs ys in omega arith

  last-snoc : (v : ℕ) (xs : List E) (y : E) → last_from m v (xs ++ y ∷ []) ≡ m.version y
  last-snoc v [] y = refl
  last-snoc v (x ∷ xs) y = last-snoc (m.version x) xs y

  legal-snoc : (c v : ℕ) (xs : List E) (y : E) → LegalFrom m c v xs → m.number y ≤ c + made m xs
      → last_from m v xs ≤ m.version y → Next m (c + made m xs + 1) (m.child y) → LegalFrom m c v (xs ++ y ∷ [])
  legal-snoc c v [] y l low recent next = (
    omega arith,
    recent,
    subst (λ n. Next m n (m.child y)) (omega arith) next,
    tt,
  )
  legal-snoc c v (x ∷ xs) y l low recent next =
      let n : ℕ = makes m (m.child x) in let k : ℕ = made m xs in let same : c + (n + k) ≡ (c + n) + k = omega arith in (
        l.0,
        l.1,
        l.2,
        legal-snoc (c + n) (m.version x) xs y l.3 (subst (λ z. m.number y ≤ z) same low) recent
            (subst (λ z. Next m (z + 1) (m.child y)) same next),
      )

  pub legal_below : (c v : ℕ) (xs : List E) (e : E) → LegalFrom m c v xs → Has e xs → m.number e ≤ c + made m xs
  legal_below c v [] e l h = elim h [ ]
  legal_below c v (x ∷ xs) e l here = let low = l.0 in omega arith
  legal_below c v (x ∷ xs) e l (there h) =
      let low = legal_below (c + makes m (m.child x)) (m.version x) xs e l.3 h in
      let n : ℕ = makes m (m.child x) in let k : ℕ = made m xs in omega arith

  -- what an entry or none does to the core
  record Grows (c : Core E) (k : ℕ) (es : List E) : Type 0 where
    legal : LegalFrom m 0 0 (c.history ++ es)
    recent : last_version m (c.history ++ es) ≤ length c.journal
    count : made m (c.history ++ es) + 1 + 0 ≡ drawn_count m c
    others : (y : ℕ) → y ≢ k → entries_by m y (c.history ++ es) ≡ entries_by m y c.history
    unmarked : c.noticed ≡ true → c.drawn ≡ true

  grows : (s : St) (r : Rule m s) (id : ℕ) (v : View E) (x : S) (es : List E) → get_elem? s.views id ≡ some v
      → (t : HoldsTurn m r.core.turned r.core.turner r.core.history r.core.noticed id v.journal v.history v.noticed v.numbers)
      → IsTurn m v x es → Grows r.core t.number es
  grows s r id v x [] at t quiet =
      let c = r.core in let still : c.noticed ≡ false = sym t.noticed ∙ quiet in let same = append-nil c.history in
      let undrawn : c.drawn ≡ false = (elim c.drawn as
      (λ b. c.drawn ≡ b → b ≡ false) [ true ↦ λ e. absurd (let e' = r.first e in cc) | false ↦ λ e. refl ]) refl in
      record {
        legal = subst (LegalFrom m 0 0) (sym same) r.legal;
        recent = subst (λ l. last_version m l ≤ length c.journal) (sym same) r.recent;
        count = ap (λ l. made m l + 1 + 0) same ∙ ap (λ b. made m c.history + 1 + bit b) (sym undrawn);
        others = λ y _. ap (entries_by m y) same;
        unmarked = λ e. absurd (cc);
      }
  grows s r id v x (e ∷ []) at t may =
      let c = r.core in
      let f = r.fits id v at in
      let alive = t.alive in let first : may.number ≡ t.number = head_same may.numbers t.numbers in
      let own : m.number e ≡ t.number = may.own ∙ first in
      let now = may.within in
      let late : last_version m c.history ≤ m.version e = subst
      (λ l. last_version m l ≤ m.version e) t.history may.late in
      let seen = begins_length f.seen in let prior = t.recent in let was = r.recent in
      let all : made m (c.history ++ e ∷ []) ≡ made m c.history + (makes m (m.child e) + 0) = made-append c.history
      (e ∷ []) in
      let childish : Next m (0 + made m c.history + 1) (m.child e) × (makes m (m.child e) ≡ bit c.drawn)
      × (c.noticed ≡ true → c.drawn ≡ true) = cases c v e f r.first t may.no_child may.child in
      record {
        legal = legal-snoc 0 0 c.history e r.legal (omega arith) (omega arith) childish.0;
        recent = omega (arith, last-snoc 0 c.history e);
        count = let z = childish.1 in omega arith;
        others = λ y ne. those-append m.number y c.history (e ∷ [])
            ∙ (ap (λ l. entries_by m y c.history ++ l)
            (those_none m.number y (e ∷ []) (λ z h i. ne (sym i ∙ (only h ∙ own))))
            ∙ append-nil (entries_by m y c.history));
        unmarked = childish.2;
      } where
        head_same : {a b : ℕ} {xs ys l : List ℕ} → l ≡ a ∷ xs → l ≡ b ∷ ys → a ≡ b
        head_same p q = cc

        only : {z y : E} → Has z (y ∷ []) → m.number z ≡ m.number y
        only here = refl
        only (there h) = elim h [ ]

        cases : (c : Core E) (v : View E) (e : E) → Fits m c id v → (c.drawn ≡ true → c.noticed ≡ true)
            → HoldsTurn m c.turned c.turner c.history c.noticed id v.journal v.history v.noticed v.numbers
            → (v.noticed ≡ false → m.child e ≡ None)
            → (v.noticed ≡ true → (m.child e ≡ Some (made m v.history + 1)) × (made m v.history + 2 ≤ v.known))
            → Next m (0 + made m c.history + 1) (m.child e) × (makes m (m.child e) ≡ bit c.drawn)
            × (c.noticed ≡ true → c.drawn ≡ true)
        cases c v e f first t none_ some_ = (elim v.noticed as
            (λ b. v.noticed ≡ b → Next m (0 + made m c.history + 1) (m.child e) × (makes m (m.child e) ≡ bit c.drawn)
            × (c.noticed ≡ true → c.drawn ≡ true)) [
              | true ↦ λ is. let y = some_ is in let known = f.known in let same = ap (λ l. made m l) t.history in
                  let drawn : c.drawn ≡ true = (elim c.drawn as
                  (λ b. c.drawn ≡ b
                  → b ≡ true) [
                    | true ↦ λ e. refl
                    | false ↦ λ e. absurd
                        (let z = ap bit e in let u = y.1 in omega arith)
                  ]) refl in (
                    subst (Next m (0 + made m c.history + 1)) (sym y.0) (omega arith),
                    ap (makes m) y.0 ∙ ap bit (sym drawn),
                    λ _. drawn,
                  )
              | false ↦ λ is. let n = none_ is in let quiet : c.noticed ≡ false = sym t.noticed ∙ is in
                  let undrawn : c.drawn ≡ false = (elim c.drawn as
                  (λ b. c.drawn ≡ b
                  → b ≡ false) [ true ↦ λ e. absurd (let e' = first e in cc) | false ↦ λ e. refl ]) refl in (
                    subst (Next m (0 + made m c.history + 1)) (sym n) tt,
                    ap (makes m) n ∙ ap bit (sym undrawn),
                    λ h. absurd (cc),
                  )
            ]) refl
  grows s r id v x (e ∷ f ∷ fs) at t never = absurd never

  abbrev out_or : S → Option S → S
  out_or d None = d
  out_or d (Some x) = x

  abbrev value_or : S → List (ℕ × Option S) → S
  value_or d [] = d
  value_or d (p ∷ ps) = out_or d p.1

  module _ (longer : (x : S) (js ks : List Batch) → m.stands x js → m.stands x (js ++ ks)) where
    pub gives_turn : (slots id : ℕ) (me : M) (x : S) (es : List E) → me.0.turn ≡ true → me.0.told_numbers ≡ []
        → me.1 ≡ (0, Some x) ∷ [] → MayGive m me.0 x es
        → Allows (Rule m) slots id me 2 (λ _. 0) (λ _. gave m (step slots 2 0 0 none) me 0)
    gives_turn slots id me x es has settled out may s r _ at _ =
        let c = r.core in
        let f = r.fits id me.0 at in let t = f.turn has in let g = grows s r id me.0 x es at t may.entry in
        let k : ℕ = t.number in
        let w : View E = given me.0 es in
        let c' : Core E = record c { history = c.history ++ es; turned = false; noticed = false; drawn = false } in
        let mine = f.owns k (subst (Has k) (sym t.numbers) here) in
        let count : drawn_count m c' ≡ drawn_count m c = g.count in
        let grown : me.0.history ++ es ≡ c.history ++ es = ap (λ l. l ++ es) t.history in
        let gone = home_out c c.turned s.homes t.turned r.home in
        let stands : m.stands x c.journal = subst (m.stands x) (sym f.seen.is)
        (longer x me.0.journal f.seen.rest may.stands) in
        let alone : (j : ℕ) (d : View E) → get_elem? s.views j ≡ some d → d.marked ≡ true
        → ⊥ = λ j d e h. let k' = (r.fits j d e).mark h in
        let z = g.unmarked k'.noticed in let y = k'.drawn in cc in (
          w,
          gives,
          tt,
          record {
            core = c';
            rows = r.rows;
            words = ap (λ ws. set ws 2 0) r.words
                ∙ (λ i. sym count i ∷ (2 * rows_of c.journal + bit c.penned) ∷ 0 ∷ r.rows);
            room = r.room;
            shown = r.shown;
            home = (
              x,
              ap₂
                  (λ (l : List (maybe.Option (Option S)))
                  (o : List (ℕ × Option S)). Rattle.atomic_table.specs.Table.put_back l o) gone out,
              may.history ∙ grown,
              stands,
            );
            legal = g.legal;
            recent = g.recent;
            tasks = λ b h. subst (λ n. b.task < n) (sym count) (r.tasks b h);
            packed = r.packed;
            idle = λ _. (refl, refl);
            first = λ e. absurd (let e' : false ≡ true = e in cc);
            unfilled = r.unfilled;
            penned = holds_set m c.penned c.penner (λ d. d.pen) s.views id me.0 w at refl r.penned;
            turned = tt;
            owned = λ y l. there_set (λ d. Has y (d.numbers ++ d.told_numbers)) s.views id (c.owner y) me.0 w at
                (λ h. h) (r.owned y (subst (λ n. y < n) count l));
            fits = each_set (Fits m c') s.views id w record {
              seen = f.seen;
              told = f.told;
              met = subst (Begins (c.history ++ es)) (sym grown) (begins_self (c.history ++ es));
              heard = begins_more es f.heard;
              known = subst (λ n. me.0.known ≤ n) (sym count) f.known;
              owns = λ y h. let o = f.owns y h in
                  record {
                    owner = o.owner;
                    drawn = subst (λ n. y < n) (sym count) o.drawn;
                    batches = o.batches;
                    entries = ap (entries_by m y) (sym grown);
                  };
              told_owns = λ y h. absurd (has_none settled h);
              apart = λ y h t. absurd (has_none settled t);
              pen = f.pen;
              turn = λ e. absurd (let e' : false ≡ true = e in cc);
              mark = λ h. absurd (alone id me.0 at h);
              bare = f.bare;
            } (λ j d ne e. let q = r.fits j d e in record {
              seen = q.seen;
              told = q.told;
              met = begins_more es q.met;
              heard = begins_more es q.heard;
              known = subst (λ n. d.known ≤ n) (sym count) q.known;
              owns = λ y h. let o = q.owns y h in
                  record {
                    owner = o.owner;
                    drawn = subst (λ n. y < n) (sym count) o.drawn;
                    batches = o.batches;
                    entries = g.others y (λ i. ne (sym o.owner ∙ (ap c.owner i ∙ mine.owner))) ∙ o.entries;
                  };
              told_owns = λ y h. let o = q.told_owns y h in
                  record {
                    owner = o.owner;
                    drawn = subst (λ n. y < n) (sym count) o.drawn;
                    batches = o.batches;
                    entries = g.others y (λ i. ne (sym o.owner ∙ (ap c.owner i ∙ mine.owner))) ∙ o.entries;
                  };
              apart = q.apart;
              pen = q.pen;
              turn = λ h. absurd (ne (sym (q.turn h).turner ∙ t.turner));
              mark = λ h. absurd (alone j d e h);
              bare = q.bare;
            });
          },
          (
            ap (λ l. Rattle.atomic_table.specs.Table.rest l) out,
            λ y fs o h. let same : x ≡ y = one (sym out ∙ o) in
                let e : es ≡ fs = append_cancel_left me.0.history es fs (sym may.history ∙ (ap m.history same ∙ h)) in
                ap (given me.0) e,
          ),
        ) where
          one : {x y : S} → ◌≡◌ {A = List (ℕ × Option S)} ((0, Some x) ∷ []) ((0, Some y) ∷ []) → x ≡ y
          one {x} p = ap (value_or x) p

  home_drawn : (c : Core E) (b : Bool) (o : ℕ → ℕ) (t : Bool) (homes : List (maybe.Option (Option S)))
      → Home m c t homes → Home m (record c { drawn = b; owner = o }) t homes
  home_drawn c b o true homes h = h
  home_drawn c b o false homes h = h

  only_one : {y n : ℕ} → Has y (n ∷ []) → y ≡ n
  only_one here = refl
  only_one (there h) = elim h [ ]

  pub enrols : (slots id : ℕ) (me : M) → me.0.marked ≡ true → made m me.0.history + 1 < 4096
      → Allows (Rule m) slots id me 0 (λ n. (n + 1) % 2 ^ 64) (drew m (step slots 0 1 0 none) me)
  enrols slots id me has few s r _ at _ =
      let c = r.core in let f = r.fits id me.0 at in let k = f.mark has in let n : ℕ = made m c.history + 1 in
      let w : View E = enrolled n me.0 in
      let c' : Core E = record c { drawn = true; owner = λ y. if y == n then id else c.owner y } in
      let same : made m me.0.history ≡ made m c.history = ap (made m) k.history in
      let count : drawn_count m c ≡ n = ap (λ b. n + bit b) k.drawn ∙ (omega arith) in
      let found : get_or s.words 0 0 ≡ n = ap (λ ws. get_or ws 0 0) r.words ∙ count in
      let more : (get_or s.words 0 0 + 1) % 2 ^ 64 ≡ n + 1 = ap (λ z. (z + 1) % 2 ^ 64) found
      ∙ mod-eq_of_lt (let z : n + 1 < 2 ^ 64 = omega arith in z) in
      let old : (y : ℕ) → y < drawn_count m c
      → c'.owner y ≡ c.owner y = λ y l. rw (ne_eqb y n (let z = count in (λ e. omega arith))) in
      let new : c'.owner n ≡ id = rw (eq-eqb n n refl) in
      let fresh : batches_by n c.journal ≡ [] = those_none task_of_batch n c.journal
      (λ b h e. let low = r.tasks b h in omega arith) in
      let none_yet : entries_by m n c.history ≡ [] = those_none m.number n c.history
      (λ y h e. let low = legal_below 0 0 c.history y r.legal h in omega arith) in
      let unseen : batches_by n me.0.journal ≡ [] = those_none task_of_batch n me.0.journal
      (λ b g e. let low = r.tasks b (subst (Has b) (sym f.seen.is) (has_left f.seen.rest g)) in omega arith) in
      let up : drawn_count m c < n + 1 = omega arith in (
        w,
        keeps,
        tt,
        record {
          core = c';
          rows = r.rows;
          words = ap₂ (λ ws (z : ℕ). set ws 0 z) r.words more;
          room = r.room;
          shown = r.shown;
          home = home_drawn c true c'.owner c.turned s.homes r.home;
          legal = r.legal;
          recent = r.recent;
          tasks = λ b h. let low = r.tasks b h in omega arith;
          packed = r.packed;
          idle = λ e. absurd (let u = k.turned in cc);
          first = λ _. k.noticed;
          unfilled = r.unfilled;
          penned = holds_set m c.penned c.penner (λ d. d.pen) s.views id me.0 w at refl r.penned;
          turned = holds_set m c.turned c.turner (λ d. d.turn) s.views id me.0 w at refl r.turned;
          owned = λ y l. dite (ℕ_discrete y n)
              (λ e. (
                w,
                ap (λ z. get_elem? (set s.views id w) (c'.owner z)) e
                    ∙ (ap (get_elem? (set s.views id w)) new ∙ at_same s.views id me.0 w at),
                subst (λ z. Has z (n ∷ me.0.told_numbers)) (sym e) here,
              ))
              (λ ne. let low : y < drawn_count m c = (let z = count in omega arith) in
              subst (λ j. (d : View E) × (get_elem? (set s.views id w) j ≡ some d)
              × Has y (d.numbers ++ d.told_numbers)) (sym (old y low))
              (there_set (λ d. Has y (d.numbers ++ d.told_numbers)) s.views id (c.owner y) me.0 w at
              (λ h. there (subst (λ l. Has y (l ++ me.0.told_numbers)) k.numbers h)) (r.owned y low)));
          fits = each_set (Fits m c') s.views id w record {
            seen = f.seen;
            told = f.told;
            met = f.met;
            heard = f.heard;
            known = let z = f.known in omega arith;
            told_owns = λ y h. let o = f.told_owns y h in
                record {
                  owner = old y o.drawn ∙ o.owner;
                  drawn =
                      let z = o.drawn in omega arith;
                  batches = o.batches;
                  entries = o.entries;
                };
            apart = λ y h t. let o = (f.told_owns y t).drawn in let e = only_one h in absurd (omega arith);
            owns = λ y h. subst
                (λ z. Owns m c.journal c.history (drawn_count m c') (c'.owner z) id w.journal w.history z)
                (sym (only_one h)) record {
                  owner = new;
                  drawn = omega arith;
                  batches = fresh ∙ sym unseen;
                  entries = ap (entries_by m n) (sym k.history);
                };
            pen = λ e. absurd (let p = f.pen e in let z = k.numbers in let u = p.numbers in cc);
            turn = λ e. absurd (let p = f.turn e in let z = k.numbers in let u = p.numbers in cc);
            mark = λ e. absurd (let e' : false ≡ true = e in cc);
            bare = f.bare;
          } (λ j d ne e. let q = r.fits j d e in record {
            seen = q.seen;
            told = q.told;
            met = q.met;
            heard = q.heard;
            known = let z = q.known in omega arith;
            owns = λ y h. let o = q.owns y h in
                record {
                  owner = old y o.drawn ∙ o.owner;
                  drawn =
                      let z = o.drawn in omega arith;
                  batches = o.batches;
                  entries = o.entries;
                };
            told_owns = λ y h. let o = q.told_owns y h in
                record {
                  owner = old y o.drawn ∙ o.owner;
                  drawn =
                      let z = o.drawn in omega arith;
                  batches = o.batches;
                  entries = o.entries;
                };
            apart = q.apart;
            pen = q.pen;
            turn = q.turn;
            mark = λ h. absurd (ne (sym (q.mark h).child ∙ k.child));
            bare = q.bare;
          });
        },
        (
          refl,
          found ∙ ap (λ z. z + 1) (sym same),
          ap (λ z. enrolled z me.0) (sym found),
          ap (λ z. batches_by z me.0.journal) found ∙ unseen,
          ap (λ z. entries_by m z me.0.history) found
              ∙ (ap (entries_by m n) k.history ∙ none_yet),
        ),
      )
