-- All tasks of a run: what each made, asked and awaited.
use Rattle.std.proofs.Common.{◌≡◌, ◌≢◌, ℕ, ◌≤◌, ◌⊎◌, List, [], ◌∷◌, ◌++◌, Bool, sym, refl, ap, ◌∙◌, subst, append_assoc, append-nil, arith, Option, Some, None, ⊎_elim, inl, inr, le_refl, eq-eqb, ne_eqb}
use Rattle.smack_base.specs.declared.ids.Pid.{Pid}
use Rattle.rules_spec.specs.declared.Batch.{Batch}
use Rattle.world_spec.specs.declared.Call.TheVariants as Call
use Rattle.world_spec.specs.declared.tasks.TaskCall.TheVariants as TaskCall
use Rattle.world_spec.specs.declared.Entry.{Entry}
use Rattle.record_spec.specs.declared.AskedLine.{AskedLine}
use Rattle.record_spec.specs.declared.AskedWhat.TheVariants as AskedWhat
use Rattle.legal_spec.specs.Calls.{Stands, IsForkOf}
use Rattle.live_table.specs.Lists.{Has, here, there}
use Rattle.live_table.proofs.Lists.{has_left, has_right, has_either, those-append}
use Rattle.world_spec.specs.Replies.{child_of}
use Rattle.runs_spec.specs.Scripts.{Scripted, lines_by}
use Rattle.runs_spec.specs.Deeds.{Deed, entered, batched, answered, asked_in, AllAt, IsTaskless, IsNoWait, by_version, by_place}
use Rattle.runs_spec.specs.Runs.{TaskRun, ends, does, forks, waited, wait_deeds, own, numbers, asked_of, AllMade, Awaits, Over, Kids, Distinct}
use Rattle.runs_spec.proofs.Runs.{version_clock, place_clock}
use Rattle.run_laws.proofs.Deeds.{lines_of, AreOf, are-append, fits_are, over_rises, rises_up, places_up, place_low_of, Later, later_left, later_right}
use Rattle.run_laws.proofs.Lives.{asked_by, Life}
use Rattle.run_laws.proofs.Kids.{kid_makes, below_child}

same_wait : (p q : Pid) → AskedWhat.Wait p ≡ AskedWhat.Wait q → p ≡ q
same_wait p q is = cc

one_line : (k : ℕ) (l : AskedLine) → l.task ≡ k → asked_by k (l ∷ []) ≡ l ∷ []
one_line k l e = rw (eq-eqb l.task k e) refl

other_line : (k : ℕ) (l : AskedLine) → l.task ≢ k → asked_by k (l ∷ []) ≡ []
other_line k l ne = rw (ne_eqb l.task k ne) refl

lines_of-append : (xs ys : List Deed) → lines_of (xs ++ ys) ≡ lines_of xs ++ lines_of ys
lines_of-append [] ys = refl
lines_of-append (d ∷ xs) ys = ap (λ l. asked_in d ++ l) (lines_of-append xs ys) ∙ sym (append_assoc (asked_in d) (lines_of xs) (lines_of ys))

by-append : (k : ℕ) (xs ys : List AskedLine) → asked_by k (xs ++ ys) ≡ asked_by k xs ++ asked_by k ys
by-append k xs ys = those-append (λ (l : AskedLine). l.task) k xs ys

by_four : (k : ℕ) (a b c d : List AskedLine) → asked_by k ((a ++ b) ++ (c ++ d)) ≡ (asked_by k a ++ asked_by k b) ++ (asked_by k c ++ asked_by k d)
by_four k a b c d = by-append k (a ++ b) (c ++ d) ∙ (λ i. by-append k a b i ++ by-append k c d i)

deed_own : (t : ℕ) (d : Deed) (ds : List Deed) → AreOf t (d ∷ ds) → (asked_by t (asked_in d) ≡ asked_in d) × AreOf t ds
deed_own t (entered e n) ds a = (refl, a.1)
deed_own t (batched n b m) ds a = (refl, a.1)
deed_own t (answered l m) ds a = (one_line t l a.0, a.1)

deed_other : (t k : ℕ) (d : Deed) (ds : List Deed) → k ≢ t → AreOf t (d ∷ ds) → asked_by k (asked_in d) ≡ []
deed_other t k (entered e n) ds ne a = refl
deed_other t k (batched n b m) ds ne a = refl
deed_other t k (answered l m) ds ne a = other_line k l (λ e. ne (sym e ∙ a.0))

wait_own : (t : ℕ) (w : Option AskedLine) → AreOf t (wait_deeds w) → asked_by t (waited w) ≡ lines_of (wait_deeds w)
wait_own t None a = refl
wait_own t (Some l) a = one_line t l a.0

wait_other : (t k : ℕ) (w : Option AskedLine) → k ≢ t → AreOf t (wait_deeds w) → asked_by k (waited w) ≡ []
wait_other t k None ne a = refl
wait_other t k (Some l) ne a = other_line k l (λ e. ne (sym e ∙ a.0))

distinct_left : (xs ys : List ℕ) → Distinct (xs ++ ys) → Distinct xs
distinct_left [] ys d = tt
distinct_left (x ∷ xs) ys d = ((λ h. d.0 (has_left ys h)), distinct_left xs ys d.1)

distinct_right : (xs ys : List ℕ) → Distinct (xs ++ ys) → Distinct ys
distinct_right [] ys d = d
distinct_right (x ∷ xs) ys d = distinct_right xs ys d.1

distinct_apart : (xs ys : List ℕ) (k : ℕ) → Distinct (xs ++ ys) → Has k xs → Has k ys → ⊥
distinct_apart [] ys k d h g = elim h [ ]
distinct_apart (x ∷ xs) ys k d here g = d.0 (has_right xs g)
distinct_apart (x ∷ xs) ys k d (there h) g = distinct_apart xs ys k d.1 h g

module _ (full : Bool) (s : Scripted) (j : List Batch) (h : List Entry) where
  -- a part of a task's run
  pub record Part (t : ℕ) (r : TaskRun) (a z : ℕ) : Type 0 where
    pub are : AreOf t (own r)
    pub kids : Kids full s r
    pub made : AllMade j h r
    pub at : AllAt j h t (own r)
    pub from_place : ℕ
    pub to_place : ℕ
    pub placed : Over by_place from_place r to_place
    pub fresh : Over by_version a r z
    pub apart : Has t (numbers r) → ⊥
    pub distinct : Distinct (numbers r)

  at_left : (t : ℕ) (xs ys : List Deed) → AllAt j h t (xs ++ ys) → AllAt j h t xs × AllAt j h t ys
  at_left t [] ys a = (tt, a)
  at_left t (x ∷ xs) ys a = let b = at_left t xs ys a.1 in ((a.0, b.0), b.1)

  module _ (t : ℕ) (e : Entry) (n pid k : ℕ) (o c : TaskRun) (w : Option AskedLine) (r : TaskRun) (a z : ℕ) (p : Part t (forks e n pid k o c w r) a z) where
    part_o : Part t o p.fresh.0 p.fresh.2
    part_o = record { are = (are-append t (own o) (wait_deeds w ++ own r) p.are.1).0; kids = p.kids.4; made = p.made.1; at = (at_left t (own o) (wait_deeds w ++ own r) p.at.1).0; fresh = p.fresh.3; from_place = p.placed.0; to_place = p.placed.2; placed = p.placed.3; apart = λ g. p.apart (has_left ((k ∷ numbers c) ++ numbers r) g); distinct = distinct_left (numbers o) ((k ∷ numbers c) ++ numbers r) p.distinct }

    mid : Distinct ((k ∷ numbers c) ++ numbers r)
    mid = distinct_right (numbers o) ((k ∷ numbers c) ++ numbers r) p.distinct

    kid : Distinct (k ∷ numbers c)
    kid = distinct_left (k ∷ numbers c) (numbers r) mid

    part_c : Part k c p.fresh.0 p.fresh.2
    part_c = let f = p.kids.3 in record { are = fits_are s k 1 (own c) (lines_by pid s.lines) f.rest f.fits; kids = p.kids.5; made = p.made.2; at = p.made.0.at; fresh = p.fresh.4; from_place = p.placed.0; to_place = p.placed.2; placed = p.placed.4; apart = kid.0; distinct = kid.1 }

    part_r : Part t r p.fresh.5 z
    part_r = record { are = (are-append t (wait_deeds w) (own r) (are-append t (own o) (wait_deeds w ++ own r) p.are.1).1).1; kids = p.kids.6; made = p.made.3; at = (at_left t (wait_deeds w) (own r) (at_left t (own o) (wait_deeds w ++ own r) p.at.1).1).1; fresh = p.fresh.7; from_place = p.placed.5; to_place = p.to_place; placed = p.placed.7; apart = λ g. p.apart (has_right (numbers o) (has_right (k ∷ numbers c) g)); distinct = distinct_right (k ∷ numbers c) (numbers r) mid }

    are_w : AreOf t (wait_deeds w)
    are_w = (are-append t (wait_deeds w) (own r) (are-append t (own o) (wait_deeds w ++ own r) p.are.1).1).0

    not_kid : t ≢ k
    not_kid i = p.apart (subst (λ x. Has x (numbers o ++ ((k ∷ numbers c) ++ numbers r))) (sym i) (has_right (numbers o) (here {xs = numbers c ++ numbers r})))

  part_d : (t : ℕ) (d : Deed) (r : TaskRun) (a z : ℕ) (p : Part t (does d r) a z) → Part t r p.fresh.0 z
  part_d t d r a z p = record { are = (deed_own t d (own r) p.are).1; kids = p.kids.1; made = p.made; at = p.at.1; fresh = p.fresh.2; from_place = p.placed.0; to_place = p.to_place; placed = p.placed.2; apart = p.apart; distinct = p.distinct }

  -- a number of none of them asked nothing there
  none_of : (t : ℕ) (r : TaskRun) (a z : ℕ) (p : Part t r a z) (k : ℕ) → k ≢ t → (Has k (numbers r) → ⊥) → asked_by k (asked_of r) ≡ []
  none_of t ends a z p k ne no_ = refl
  none_of t (does d r) a z p k ne no_ = by-append k (asked_in d) (asked_of r) ∙ (λ i. deed_other t k d (own r) ne p.are i ++ none_of t r p.fresh.0 z (part_d t d r a z p) k ne no_ i)
  none_of t (forks e n pid x o c w r) a z p k ne no_ = by_four k (asked_of o) (asked_of c) (waited w) (asked_of r)
      ∙ (λ i. (none_of t o p.fresh.0 p.fresh.2 (part_o t e n pid x o c w r a z p) k ne (λ g. no_ (has_left ((x ∷ numbers c) ++ numbers r) g)) i
      ++ none_of x c p.fresh.0 p.fresh.2 (part_c t e n pid x o c w r a z p) k (λ e'. no_ (has_right (numbers o) (subst (λ y. Has y (x ∷ (numbers c ++ numbers r))) (sym e') here))) (λ g. no_ (has_right (numbers o) (there (has_left (numbers r) g)))) i)
      ++ (wait_other t k w ne (are_w t e n pid x o c w r a z p) i ++ none_of t r p.fresh.5 z (part_r t e n pid x o c w r a z p) k ne (λ g. no_ (has_right (numbers o) (there (has_right (numbers c) g)))) i))

  pub own_of : (t : ℕ) (r : TaskRun) (a z : ℕ) (p : Part t r a z) → asked_by t (asked_of r) ≡ lines_of (own r)
  own_of t ends a z p = refl
  own_of t (does d r) a z p = by-append t (asked_in d) (asked_of r) ∙ (λ i. (deed_own t d (own r) p.are).0 i ++ own_of t r p.fresh.0 z (part_d t d r a z p) i)
  own_of t (forks e n pid x o c w r) a z p = by_four t (asked_of o) (asked_of c) (waited w) (asked_of r)
      ∙ ((λ i. (own_of t o p.fresh.0 p.fresh.2 (part_o t e n pid x o c w r a z p) i
      ++ none_of x c p.fresh.0 p.fresh.2 (part_c t e n pid x o c w r a z p) t (not_kid t e n pid x o c w r a z p) (λ g. p.apart (has_right (numbers o) (there (has_left (numbers r) g)))) i)
      ++ (wait_own t w (are_w t e n pid x o c w r a z p) i ++ own_of t r p.fresh.5 z (part_r t e n pid x o c w r a z p) i))
      ∙ (ap (λ l. l ++ (lines_of (wait_deeds w) ++ lines_of (own r))) (append-nil (lines_of (own o))) ∙ sym (lines_of-append (own o) (wait_deeds w ++ own r) ∙ ap (λ l. lines_of (own o) ++ l) (lines_of-append (wait_deeds w) (own r)))))

  part_up : (t : ℕ) (r : TaskRun) (a z : ℕ) → Part t r a z → a ≤ z
  part_up t r a z p = rises_up a (own r) z (over_rises by_version version_clock a r z p.fresh)

  wait_place : (m m' : ℕ) (w : Option AskedLine) → Awaits by_place m w m' → m ≤ m'
  wait_place m m' None g = g
  wait_place m m' (Some l) g = g.0

  wait_up : (m m' : ℕ) (w : Option AskedLine) → Awaits by_version m w m' → m ≤ m'
  wait_up m m' None g = g
  wait_up m m' (Some l) g = let x = g.0 in let y = g.1 in omega arith

  abbrev pub lift : (ls ls' : List AskedLine) (k : ℕ) → asked_by k ls' ≡ asked_by k ls → Life full s j h ls k → Life full s j h ls' k
  lift ls ls' k e L = record { pid = L.pid; calls = L.calls; rest = L.rest; fits = L.fits; done = L.done; batches = L.batches; entries = L.entries; lines = e ∙ L.lines; at = L.at; place_low = L.place_low; place_high = L.place_high; places = L.places; low = L.low; high = L.high; rises = L.rises; born = L.born }

  -- the life of a number, with the version that its calls reached
  pub record Found (ls : List AskedLine) (k z y : ℕ) : Type 0 where
    pub life : Life full s j h ls k
    pub top : life.high ≤ z
    pub place : life.place_high ≤ y

  pub raise : (ls ls' : List AskedLine) (k z z' y y' : ℕ) → asked_by k ls' ≡ asked_by k ls → z ≤ z' → y ≤ y' → Found ls k z y → Found ls' k z' y'
  raise ls ls' k z z' y y' e l l' f = record { life = lift ls ls' k e f.life; top = let x = f.top in omega arith; place = let x = f.place in omega arith }

  module _ (t : ℕ) (e : Entry) (n pid x : ℕ) (o c : TaskRun) (w : Option AskedLine) (r : TaskRun) (a z : ℕ) (p : Part t (forks e n pid x o c w r) a z) where
    abbrev all : List AskedLine
    all = (asked_of o ++ asked_of c) ++ (waited w ++ asked_of r)

    from_o : (k : ℕ) → Has k (numbers o) → asked_by k all ≡ asked_by k (asked_of o)
    from_o k g = by_four k (asked_of o) (asked_of c) (waited w) (asked_of r) ∙ ((λ i. (asked_by k (asked_of o)
        ++ none_of x c p.fresh.0 p.fresh.2 (part_c t e n pid x o c w r a z p) k (λ q. distinct_apart (numbers o) ((x ∷ numbers c) ++ numbers r) k p.distinct g (subst (λ y. Has y (x ∷ (numbers c ++ numbers r))) (sym q) here)) (λ q. distinct_apart (numbers o) ((x ∷ numbers c) ++ numbers r) k p.distinct g (there (has_left (numbers r) q))) i)
        ++ (wait_other t k w not_t (are_w t e n pid x o c w r a z p) i ++ none_of t r p.fresh.5 z (part_r t e n pid x o c w r a z p) k not_t (λ q. distinct_apart (numbers o) ((x ∷ numbers c) ++ numbers r) k p.distinct g (there (has_right (numbers c) q))) i))
        ∙ (append-nil (asked_by k (asked_of o) ++ []) ∙ append-nil (asked_by k (asked_of o)))) where
          not_t : k ≢ t
          not_t q = p.apart (subst (λ y. Has y (numbers o ++ ((x ∷ numbers c) ++ numbers r))) q (has_left ((x ∷ numbers c) ++ numbers r) g))

    from_c : (k : ℕ) → Has k (x ∷ numbers c) → asked_by k all ≡ asked_by k (asked_of c)
    from_c k g = by_four k (asked_of o) (asked_of c) (waited w) (asked_of r) ∙ ((λ i. (none_of t o p.fresh.0 p.fresh.2 (part_o t e n pid x o c w r a z p) k not_t (λ q. distinct_apart (numbers o) ((x ∷ numbers c) ++ numbers r) k p.distinct q (has_left (numbers r) g)) i
        ++ asked_by k (asked_of c)) ++ (wait_other t k w not_t (are_w t e n pid x o c w r a z p) i ++ none_of t r p.fresh.5 z (part_r t e n pid x o c w r a z p) k not_t (λ q. distinct_apart (x ∷ numbers c) (numbers r) k (mid t e n pid x o c w r a z p) g q) i))
        ∙ append-nil (asked_by k (asked_of c))) where
          not_t : k ≢ t
          not_t q = p.apart (subst (λ y. Has y (numbers o ++ ((x ∷ numbers c) ++ numbers r))) q (has_right (numbers o) (has_left (numbers r) g)))

    from_r : (k : ℕ) → Has k (numbers r) → asked_by k all ≡ asked_by k (asked_of r)
    from_r k g = by_four k (asked_of o) (asked_of c) (waited w) (asked_of r) ∙ (λ i. (none_of t o p.fresh.0 p.fresh.2 (part_o t e n pid x o c w r a z p) k not_t (λ q. distinct_apart (numbers o) ((x ∷ numbers c) ++ numbers r) k p.distinct q (there (has_right (numbers c) g))) i
        ++ none_of x c p.fresh.0 p.fresh.2 (part_c t e n pid x o c w r a z p) k (λ q. distinct_apart (x ∷ numbers c) (numbers r) k (mid t e n pid x o c w r a z p) (subst (λ y. Has y (x ∷ numbers c)) (sym q) here) g) (λ q. distinct_apart (x ∷ numbers c) (numbers r) k (mid t e n pid x o c w r a z p) (there q) g) i)
        ++ (wait_other t k w not_t (are_w t e n pid x o c w r a z p) i ++ asked_by k (asked_of r))) where
          not_t : k ≢ t
          not_t q = p.apart (subst (λ y. Has y (numbers o ++ ((x ∷ numbers c) ++ numbers r))) q (has_right (numbers o) (there (has_right (numbers c) g))))

    -- the child itself
    kid_life : Found (asked_of c) x p.fresh.2 p.placed.2
    kid_life = let f = p.kids.3 in let m = p.made.0 in record {
      life = record {
        pid = pid;
        calls = own c;
        rest = f.rest;
        fits = f.fits;
        done = f.all;
        batches = m.batches;
        entries = m.entries;
        lines = own_of x c p.fresh.0 p.fresh.2 (part_c t e n pid x o c w r a z p);
        at = m.at;
        low = p.fresh.0;
        high = p.fresh.2;
        places = over_rises by_place place_clock p.placed.0 c p.placed.2 p.placed.4;
        place_low = p.placed.0;
        place_high = p.placed.2;
        rises = over_rises by_version version_clock p.fresh.0 c p.fresh.2 p.fresh.4;
        born = inr (e, n, p.at.0, (p.kids.0, p.kids.1), p.fresh.1.1, p.placed.1.1);
      };
      top = le_refl p.fresh.2;
      place = le_refl p.placed.2;
    }

  pub find : (t : ℕ) (r : TaskRun) (a z : ℕ) (p : Part t r a z) (k : ℕ) → Has k (numbers r) → Found (asked_of r) k z p.to_place
  unfolding part_d part_o part_c part_r
  find t ends a z p k g = elim g [ ]
  find t (does d r) a z p k g = let f = find t r p.fresh.0 z (part_d t d r a z p) k g in raise (asked_of r) (asked_in d ++ asked_of r) k z z p.to_place p.to_place (by-append k (asked_in d) (asked_of r) ∙ (λ i. deed_other t k d (own r) (λ q. p.apart (subst (λ y. Has y (numbers r)) q g)) p.are i ++ asked_by k (asked_of r))) (le_refl z) (le_refl p.to_place) f
  find t (forks e n pid x o c w r) a z p k g = ⊎_elim
      (λ u. let f = find t o p.fresh.0 p.fresh.2 (part_o t e n pid x o c w r a z p) k u in raise (asked_of o) (all t e n pid x o c w r a z p) k p.fresh.2 z p.placed.2 p.to_place (from_o t e n pid x o c w r a z p k u) up up_place f)
      (λ v. ⊎_elim (λ u. let f = in_c (λ y v. find x c p.fresh.0 p.fresh.2 (part_c t e n pid x o c w r a z p) y v) k u in raise (asked_of c) (all t e n pid x o c w r a z p) k p.fresh.2 z p.placed.2 p.to_place (from_c t e n pid x o c w r a z p k u) up up_place f)
      (λ u. let f = find t r p.fresh.5 z (part_r t e n pid x o c w r a z p) k u in raise (asked_of r) (all t e n pid x o c w r a z p) k z z p.to_place p.to_place (from_r t e n pid x o c w r a z p k u) (le_refl z) (le_refl p.to_place) f)
      (has_either (x ∷ numbers c) (numbers r) v))
      (has_either (numbers o) ((x ∷ numbers c) ++ numbers r) g) where
        up : p.fresh.2 ≤ z
        up = let y = wait_up p.fresh.2 p.fresh.5 w p.fresh.6 in let q = part_up t r p.fresh.5 z (part_r t e n pid x o c w r a z p) in omega arith

        up_place : p.placed.2 ≤ p.to_place
        up_place = let y = wait_place p.placed.2 p.placed.5 w p.placed.6 in let q = places_up p.placed.5 (own r) p.to_place (over_rises by_place place_clock p.placed.5 r p.to_place p.placed.7) in omega arith

        in_c : ((y : ℕ) → Has y (numbers c) → Found (asked_of c) y p.fresh.2 p.placed.2) → (y : ℕ) → Has y (x ∷ numbers c) → Found (asked_of c) y p.fresh.2 p.placed.2
        in_c rec y here = kid_life t e n pid x o c w r a z p
        in_c rec y (there u) = rec y u

  -- the child itself, or one below it
  kid_or_below : (t : ℕ) (e : Entry) (n pid x : ℕ) (o c : TaskRun) (w : Option AskedLine) (r : TaskRun) (a z : ℕ) (p : Part t (forks e n pid x o c w r) a z) (k : ℕ) → Has k (x ∷ numbers c) → Found (asked_of c) k p.fresh.2 p.placed.2
  unfolding part_c
  kid_or_below t e n pid x o c w r a z p k here = kid_life t e n pid x o c w r a z p
  kid_or_below t e n pid x o c w r a z p k (there u) = find x c p.fresh.0 p.fresh.2 (part_c t e n pid x o c w r a z p) k u

  -- what a line that awaits a task stands for
  -- the line among its task's calls, where the task is t, or among those of its whole life
  abbrev pub Waiter : List AskedLine → ℕ → List Deed → List ℕ → AskedLine → ℕ → Type 0
  Waiter ls t ds ns l m = ((l.task ≡ t) × Later m l ds) ⊎ (Has l.task ns × (L : Life full s j h ls l.task) × Later m l L.calls)

  pub record Awaits_ (ls : List AskedLine) (t : ℕ) (ds : List Deed) (ns : List ℕ) (zp : ℕ) (l : AskedLine) (pid : Pid) : Type 0 where
    pub bound : ℕ
    pub up : bound ≤ zp
    pub waiter : Waiter ls t ds ns l bound
    pub number : ℕ
    pub place : ℕ
    pub fork : Entry
    pub there_ : Stands h place fork
    pub by : fork.task ≡ l.task
    pub is : IsForkOf fork number pid
    pub fam : List ℕ
    pub mine : Has number fam
    pub within : (k : ℕ) → Has k fam → Has k ns
    pub lives : (k : ℕ) → Has k fam → Found ls k l.version bound
    pub closed : (e : Entry) → Has e h → (x : ℕ) → e.task ≡ x → Has x fam → (k : ℕ) → child_of e.reply ≡ Some k → Has k fam

  lift_wait : (ls ls' : List AskedLine) (t t' : ℕ) (ds ds' : List Deed) (ns ns' : List ℕ) (zp zp' : ℕ) (l : AskedLine) (pid : Pid) → ((k : ℕ) → Has k ns → asked_by k ls' ≡ asked_by k ls) → ((k : ℕ) → Has k ns → Has k ns') → zp ≤ zp' → (w : Awaits_ ls t ds ns zp l pid) → (((l.task ≡ t) × Later w.bound l ds) → Waiter ls' t' ds' ns' l w.bound) → Awaits_ ls' t' ds' ns' zp' l pid
  lift_wait ls ls' t t' ds ds' ns ns' zp zp' l pid e m up w v = record { bound = w.bound; up = let x = w.up in omega arith; waiter = ⊎_elim v (λ b. inr (m l.task b.0, lift ls ls' l.task (e l.task b.0) b.1, b.2)) w.waiter; number = w.number; place = w.place; fork = w.fork; there_ = w.there_; by = w.by; is = w.is; fam = w.fam; mine = w.mine; within = λ k g. m k (w.within k g); lives = λ k g. raise ls ls' k l.version l.version w.bound w.bound (e k (w.within k g)) (le_refl l.version) (le_refl w.bound) (w.lives k g); closed = w.closed }

  plain_wait : (d : Deed) (l : AskedLine) (pid : Pid) → IsTaskless full d → Has l (asked_in d) → l.what ≡ AskedWhat.Wait pid → ⊥
  plain_wait (entered e n) l pid p g i = elim g [ ]
  plain_wait (batched n b m) l pid p g i = elim g [ ]
  plain_wait (answered x m) l pid p here i = subst IsNoWait i p
  plain_wait (answered x m) l pid p (there g) i = elim g [ ]

  end_place : (t : ℕ) (e : Entry) (n pid x : ℕ) (o c : TaskRun) (w : Option AskedLine) (r : TaskRun) (a z : ℕ) (p : Part t (forks e n pid x o c w r) a z) → (p.placed.2 ≤ p.placed.5) × (p.placed.5 ≤ p.to_place)
  end_place t e n pid x o c w r a z p = (wait_place p.placed.2 p.placed.5 w p.placed.6, places_up p.placed.5 (own r) p.to_place (over_rises by_place place_clock p.placed.5 r p.to_place p.placed.7))

  no_wait_entry : (w : Option AskedLine) (y : Entry) (i : ℕ) → Has (entered y i) (wait_deeds w) → ⊥
  no_wait_entry None y i g = elim g [ ]
  no_wait_entry (Some l) y i (there g) = elim g [ ]

  -- what is entered in the rest of a part has at least its first place
  rest_low : (t : ℕ) (e : Entry) (n pid x : ℕ) (o c : TaskRun) (w : Option AskedLine) (r : TaskRun) (a z : ℕ) (p : Part t (forks e n pid x o c w r) a z) (m : ℕ) → m ≤ p.placed.2 → (y : Entry) (i : ℕ) → Has (entered y i) (wait_deeds w ++ own r) → m ≤ i
  rest_low t e n pid x o c w r a z p m le y i g = ⊎_elim (λ u. absurd (no_wait_entry w y i u)) (λ u. let q = place_low_of p.placed.5 (own r) p.to_place y i (over_rises by_place place_clock p.placed.5 r p.to_place p.placed.7) u in let b = (end_place t e n pid x o c w r a z p).0 in omega arith) (has_either (wait_deeds w) (own r) g)

  the_wait : (t : ℕ) (e : Entry) (n pid x : ℕ) (o c : TaskRun) (w : Option AskedLine) (r : TaskRun) (a z : ℕ) (p : Part t (forks e n pid x o c w r) a z) (l : AskedLine) (pid' : Pid) → Has l (waited w) → l.what ≡ AskedWhat.Wait pid' → Awaits_ (all t e n pid x o c w r a z p) t (own (forks e n pid x o c w r)) (numbers o ++ ((x ∷ numbers c) ++ numbers r)) p.to_place l pid'
  the_wait t e n pid x o c None r a z p l pid' g i = elim g [ ]
  the_wait t e n pid x o c (Some m) r a z p l pid' (there g) i = elim g [ ]
  the_wait t e n pid x o c (Some l) r a z p m pid' here i = record {
    bound = p.placed.2;
    up = let b = end_place t e n pid x o c (Some l) r a z p in let b0 = b.0 in let b1 = b.1 in omega arith;
    waiter = inl ((are_w t e n pid x o c (Some l) r a z p).0, record { front = entered e n ∷ own o; back = own r; is = refl; low = λ y q u. rest_low t e n pid x o c (Some l) r a z p p.placed.2 (le_refl p.placed.2) y q (there u) });
    number = x;
    place = n;
    fork = e;
    there_ = p.at.0;
    by = p.are.0 ∙ sym (are_w t e n pid x o c (Some l) r a z p).0;
    is = (p.kids.0 ∙ ap (λ (q : Pid). Call.Task (TaskCall.Fork q)) (same_wait (record { 0 = pid }) pid' (sym p.kids.2 ∙ i)), p.kids.1);
    fam = x ∷ numbers c;
    mine = here;
    within = λ k g. has_right (numbers o) (has_left (numbers r) g);
    lives = λ k g. raise (asked_of c) (all t e n pid x o c (Some l) r a z p) k p.fresh.2 l.version p.placed.2 p.placed.2 (from_c t e n pid x o c (Some l) r a z p k g) p.fresh.6.0 (le_refl p.placed.2) (kid_or_below t e n pid x o c (Some l) r a z p k g);
    closed = λ e' g y i' u k is. there (kid_makes full s j h x c e' k p.kids.5 p.made.0 g is (λ x' i'' b. below_child full s j h c p.kids.5 p.made.2 e' g k is x' i'' b) y i' u);
  }

  pub waits_in : (t : ℕ) (r : TaskRun) (a z : ℕ) (p : Part t r a z) (l : AskedLine) (pid : Pid) → Has l (asked_of r) → l.what ≡ AskedWhat.Wait pid → Awaits_ (asked_of r) t (own r) (numbers r) p.to_place l pid
  unfolding part_d part_o part_c kid_life part_r
  waits_in t ends a z p l pid g i = elim g [ ]
  waits_in t (does d r) a z p l pid g i = ⊎_elim (λ u. absurd (plain_wait d l pid p.kids.0 u i))
      (λ u. let w = waits_in t r p.fresh.0 z (part_d t d r a z p) l pid u i in lift_wait (asked_of r) (asked_in d ++ asked_of r) t t (own r) (d ∷ own r) (numbers r) (numbers r) p.to_place p.to_place l pid (λ k v. by-append k (asked_in d) (asked_of r) ∙ (λ i'. deed_other t k d (own r) (λ q. p.apart (subst (λ y. Has y (numbers r)) q v)) p.are i' ++ asked_by k (asked_of r))) (λ k v. v) (le_refl p.to_place) w (λ v. inl (v.0, later_left w.bound l (d ∷ []) (own r) v.1)))
      (has_either (asked_in d) (asked_of r) g)
  waits_in t (forks e n y x o c w r) a z p l pid g i = let ns : List ℕ = numbers o ++ ((x ∷ numbers c) ++ numbers r) in let q = end_place t e n y x o c w r a z p in let q0 = q.0 in let q1 = q.1 in ⊎_elim
      (λ u. ⊎_elim
      (λ v. let f = waits_in t o p.fresh.0 p.fresh.2 (part_o t e n y x o c w r a z p) l pid v i in lift_wait (asked_of o) (all t e n y x o c w r a z p) t t (own o) (own (forks e n y x o c w r)) (numbers o) ns p.placed.2 p.to_place l pid (from_o t e n y x o c w r a z p) (λ k b. has_left ((x ∷ numbers c) ++ numbers r) b) (omega arith) f
      (λ b. inl (b.0, later_left f.bound l (entered e n ∷ []) (own o ++ (wait_deeds w ++ own r)) (later_right f.bound l (own o) (wait_deeds w ++ own r) (rest_low t e n y x o c w r a z p f.bound f.up) b.1))))
      (λ v. let f = waits_in x c p.fresh.0 p.fresh.2 (part_c t e n y x o c w r a z p) l pid v i in lift_wait (asked_of c) (all t e n y x o c w r a z p) x t (own c) (own (forks e n y x o c w r)) (numbers c) ns p.placed.2 p.to_place l pid (λ k b. from_c t e n y x o c w r a z p k (there b)) (λ k b. has_right (numbers o) (there (has_left (numbers r) b))) (omega arith) f
      (λ b. inr (subst (λ k. Has k ns × (L : Life full s j h (all t e n y x o c w r a z p) k) × Later f.bound l L.calls) (sym b.0) (has_right (numbers o) (here {xs = numbers c ++ numbers r}), lift (asked_of c) (all t e n y x o c w r a z p) x (from_c t e n y x o c w r a z p x here) (kid_life t e n y x o c w r a z p).life, b.1))))
      (has_either (asked_of o) (asked_of c) u))
      (λ u. ⊎_elim (λ v. the_wait t e n y x o c w r a z p l pid v i)
      (λ v. let f = waits_in t r p.fresh.5 z (part_r t e n y x o c w r a z p) l pid v i in lift_wait (asked_of r) (all t e n y x o c w r a z p) t t (own r) (own (forks e n y x o c w r)) (numbers r) ns p.to_place p.to_place l pid (from_r t e n y x o c w r a z p) (λ k b. has_right (numbers o) (there (has_right (numbers c) b))) (le_refl p.to_place) f
      (λ b. inl (b.0, later_left f.bound l (entered e n ∷ []) (own o ++ (wait_deeds w ++ own r)) (later_left f.bound l (own o) (wait_deeds w ++ own r) (later_left f.bound l (wait_deeds w) (own r) b.1)))))
      (has_either (waited w) (asked_of r) u))
      (has_either (asked_of o ++ asked_of c) (waited w ++ asked_of r) g)

  deed_task : (t : ℕ) (d : Deed) (ds : List Deed) (l : AskedLine) → AreOf t (d ∷ ds) → Has l (asked_in d) → l.task ≡ t
  deed_task t (entered e n) ds l a g = elim g [ ]
  deed_task t (batched n b m) ds l a g = elim g [ ]
  deed_task t (answered x m) ds l a here = a.0
  deed_task t (answered x m) ds l a (there g) = elim g [ ]

  wait_task : (t : ℕ) (w : Option AskedLine) (l : AskedLine) → AreOf t (wait_deeds w) → Has l (waited w) → l.task ≡ t
  wait_task t None l a g = elim g [ ]
  wait_task t (Some x) l a here = a.0
  wait_task t (Some x) l a (there g) = elim g [ ]

  -- each asked line is of the task or of one below
  pub line_task : (t : ℕ) (r : TaskRun) (a z : ℕ) (p : Part t r a z) (l : AskedLine) → Has l (asked_of r) → (l.task ≡ t) ⊎ Has l.task (numbers r)
  line_task t ends a z p l g = elim g [ ]
  line_task t (does d r) a z p l g = ⊎_elim (λ u. inl (deed_task t d (own r) l p.are u)) (λ u. line_task t r p.fresh.0 z (part_d t d r a z p) l u) (has_either (asked_in d) (asked_of r) g)
  line_task t (forks e n y x o c w r) a z p l g = ⊎_elim
      (λ u. ⊎_elim (λ v. ⊎_elim (λ q. inl q) (λ q. inr (has_left ((x ∷ numbers c) ++ numbers r) q)) (line_task t o p.fresh.0 p.fresh.2 (part_o t e n y x o c w r a z p) l v))
      (λ v. inr (has_right (numbers o) (has_left (numbers r) (⊎_elim (λ q. subst (λ m. Has m (x ∷ numbers c)) (sym q) here) (λ q. there q) (line_task x c p.fresh.0 p.fresh.2 (part_c t e n y x o c w r a z p) l v)))))
      (has_either (asked_of o) (asked_of c) u))
      (λ u. ⊎_elim (λ v. inl (wait_task t w l (are_w t e n y x o c w r a z p) v)) (λ v. ⊎_elim (λ q. inl q) (λ q. inr (has_right (numbers o) (there (has_right (numbers c) q)))) (line_task t r p.fresh.5 z (part_r t e n y x o c w r a z p) l v)) (has_either (waited w) (asked_of r) u))
      (has_either (asked_of o ++ asked_of c) (waited w ++ asked_of r) g)
