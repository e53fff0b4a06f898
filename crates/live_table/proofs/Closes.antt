-- A whole seat has seen all, and the slot is at home.
use Rattle.std.proofs.Common.{◌≡◌, ℕ, ◌+◌, ◌≤◌, true, false, List, [], ◌∷◌, ◌++◌, length, sym, refl, ap, ◌∙◌, subst, append-nil, arith, length-append, Option, Some, None, eq-eqb}
use mathlib.Core.Logic.{dite}
use native.Mathlib.Decide.{ℕ_discrete}
use mathlib.Core.Option as maybe
use mathlib.Core.Option.{none, some, some-injective}
use lib.ListN.{get_elem?}
use Rattle.atomic_table.specs.Table.{State, step, Final, Seen}
use Rattle.rules_spec.specs.declared.Batch.{Batch}
use Rattle.live_table.specs.declared.view.View.{View}
use Rattle.live_table.specs.Lists.{Begins, Has, here, there, those_of}
use Rattle.live_table.specs.Batches.{batches_by, task_of_batch}
use Rattle.live_table.specs.Machines.{Means, made, makes, last_version, Next, LegalFrom, entries_by}
use Rattle.live_table.specs.Core.{bit, Holds, Rule}
use Rattle.live_table.specs.Seats.{IsWhole, Closes}
use Rattle.live_table.proofs.Lists.{has_right, those-append}
use Rattle.live_table.proofs.TurnSteps.{home_free}

-- where the members of a number are all at the front, the rest has none of it
none_later : {A : Type 0} (number : A → ℕ) (front : List A) (x : A) (rest : List A)
    → those_of number (number x) (front ++ x ∷ rest) ≡ those_of number (number x) front → ⊥
none_later {A} number front x rest e = let k : ℕ = number x in
    let one : those_of number k (x ∷ rest) ≡ x ∷ those_of number k rest = rw (eq-eqb k k refl) in
    let f : List A = those_of number k front in let q : List A = those_of number k rest in
    let long : length (f ++ x ∷ q) ≡ length f = ap length
    (ap (λ l. f ++ l) (sym one) ∙ (sym (those-append number k front (x ∷ rest)) ∙ e)) in
    absurd (omega (arith, length-append f (x ∷ q)))

module _ {S E : Type 0} (m : Means S E) where
  abbrev St : Type 0
  St = State (Option S) (View E)

  legal_next : (c v : ℕ) (front : List E) (e : E) (rest : List E) → LegalFrom m c v (front ++ e ∷ rest)
      → m.number e ≤ c + made m front
  legal_next c v [] e rest l = let a = l.0 in omega arith
  legal_next c v (x ∷ front) e rest l =
      let a = legal_next (c + makes m (m.child x)) (m.version x) front e rest l.3 in
      let n : ℕ = makes m (m.child x) in let k : ℕ = made m front in omega arith

  nothing_more : {A : Type 0} (whole front : List A) (b : Begins whole front)
      → ((x : A) (rest : List A) → whole ≡ front ++ x ∷ rest → ⊥) → whole ≡ front
  nothing_more {A} whole front b no_ = case b.rest b.is where
    case : (rest : List A) → whole ≡ front ++ rest → whole ≡ front
    case [] e = e ∙ append-nil front
    case (x ∷ rest) e = absurd (no_ x rest e)

  -- numbers that hold 0 and each child of an entry of theirs hold all numbers
  cover : (c v : ℕ) (es : List E) (ks : List ℕ) → LegalFrom m c v es → ((k : ℕ) → k ≤ c → Has k ks)
      → ((e : E) → Has e es → Has (m.number e) ks → (k : ℕ) → m.child e ≡ Some k → Has k ks) → (k : ℕ)
      → k ≤ c + made m es → Has k ks
  cover c v [] ks l low step k h = low k (omega arith)
  cover c v (e ∷ es) ks l low step k h = (elim (m.child e) as
      (λ o. m.child e ≡ o → Next m (c + 1) o → LegalFrom m (c + makes m o) (m.version e) es
      → k ≤ c + (makes m o + made m es) → Has k ks) [
        | None ↦ λ is n rest h'. cover (c + 0) (m.version e) es ks rest (λ x y. low x (omega arith))
            (λ x y. step x (there y)) k (omega arith)
        | Some x ↦ λ is n rest h'. let mine : Has x ks = step e here (low (m.number e) l.0) x is in
            cover (c + 1) (m.version e) es ks rest
            (λ y z. dite (ℕ_discrete y (c + 1)) (λ i. subst (λ q. Has q ks) (n ∙ sym i) mine)
            (λ ne. low y (omega arith))) (λ y z. step y (there z)) k (omega arith)
      ]) refl l.2 l.3 h

  pub covers : (es : List E) (ks : List ℕ) → LegalFrom m 0 0 es → Has 0 ks
      → ((e : E) → Has e es → Has (m.number e) ks → (k : ℕ) → m.child e ≡ Some k → Has k ks) → (k : ℕ) → k ≤ made m es
      → Has k ks
  covers es ks l first next k h = cover 0 0 es ks l
      (λ x y. subst (λ q. Has q ks) (let z : 0 ≡ x = omega arith in z) first) next k (omega arith)

  legal_front : (c v : ℕ) (front rest : List E) → LegalFrom m c v (front ++ rest) → LegalFrom m c v front
  legal_front c v [] rest l = tt
  legal_front c v
      (e ∷ front) rest l = (l.0, l.1, l.2, legal_front (c + makes m (m.child e)) (m.version e) front rest l.3)

  -- a beginning of a legal history is one
  pub legal_begins : (whole front : List E) → Begins whole front → LegalFrom m 0 0 whole → LegalFrom m 0 0 front
  legal_begins whole front b l = legal_front 0 0 front b.rest (subst (LegalFrom m 0 0) b.is l)

  pub closes : (s : St) (r : Rule m s) (id : ℕ) (v : View E) → get_elem? s.views id ≡ some v → IsWhole m v → (x : S)
      × (s.homes ≡ maybe.some (Some x) ∷ []) × Closes m v x
  closes s r id v at w =
      let c = r.core in
      let f = r.fits id v at in
      let all : (k : ℕ) → k ≤ made m v.history
      → Has k v.numbers = covers v.history v.numbers
      (legal_begins c.history v.history f.met r.legal) w.first w.closed in
      let history : c.history ≡ v.history = nothing_more c.history v.history f.met
      (λ e rest is. none_later m.number v.history e rest
      (ap (entries_by m (m.number e)) (sym is)
      ∙ (f.owns (m.number e)
      (all (m.number e)
      (let low = legal_next 0 0 v.history e rest (subst (LegalFrom m 0 0) is r.legal) in omega arith))).entries)) in
      let free : c.turned ≡ false = (elim c.turned as
      (λ b. c.turned ≡ b → Holds m b c.turner (λ d. d.turn) s.views → b ≡ false) [
        | true ↦ λ e h. let d : View E = h.0 in
            let t = (r.fits c.turner d h.1).turn h.2 in
            let low : t.number ≤ made m v.history = subst (λ l. t.number ≤ made m l) history t.alive in
            let theirs = ((r.fits c.turner d h.1).owns t.number (subst (Has t.number) (sym t.numbers) here)).owner in
            let ours = (f.owns t.number (all t.number low)).owner in
            let same : v ≡ d = some-injective v d (sym at ∙ (ap (get_elem? s.views) (sym ours ∙ theirs) ∙ h.1)) in
            absurd (let y = w.turnless in let z = ap (λ (q : View E). q.turn) same in let u = h.2 in cc)
        | false ↦ λ e h. refl
      ]) refl r.turned in
      let undrawn = ap bit (r.idle free).1 in let long = ap (made m) history in
      let task : (b : Batch) → Has b c.journal → Has b.task v.numbers = λ b h. let l = r.tasks b h in
      all b.task (omega arith) in
      let journal : c.journal ≡ v.journal = nothing_more c.journal v.journal f.seen
      (λ b rest is. none_later task_of_batch v.journal b rest
      (ap (batches_by b.task) (sym is)
      ∙ (f.owns b.task (task b (subst (Has b) (sym is) (has_right v.journal here)))).batches)) in
      let h = home_free m c c.turned s.homes free r.home in (
        h.0,
        h.1,
        record {
          history = h.2 ∙ history;
          stands = subst (m.stands h.0) journal h.3;
          legal = subst (LegalFrom m 0 0) history r.legal;
          recent = subst (λ (l : List E × List Batch). last_version m l.0 ≤ length l.1)
              (λ i. (history i, journal i)) r.recent;
          tasks = λ b g. task b (subst (Has b) (sym journal) g);
        },
      )

  pub closed_value : (id : ℕ) (v : View E) (ws : List ℕ) (xs : List (Option S)) (y : Option S)
      → Final (Seen (Rule m) id v) ws xs → IsWhole m v → get_elem? xs 0 ≡ some y → (x : S) × (y ≡ Some x) × Closes m v x
  closed_value id v ws xs y f w is = let s = f.0 in let h = closes s f.1.0 id v f.1.1 w in
      (h.0, some-injective y (Some h.0) (sym is ∙ f.4 0 (Some h.0) (ap (λ l. get_elem? l 0) h.1)), h.2)
