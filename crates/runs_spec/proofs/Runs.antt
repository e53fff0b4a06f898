-- Runs one after another.
use Rattle.std.proofs.Common.{◌≡◌, ℕ, ◌+◌, ◌≤◌, List, [], ◌∷◌, ◌++◌, length, Bool, true, false, not, sym, refl, ap, ◌∙◌, subst, append_assoc, arith, length-append, ⊎_elim}
use Rattle.rules_spec.specs.declared.Batch.{Batch}
use Rattle.world_spec.specs.declared.Entry.{Entry}
use Rattle.script_spec.specs.Lines.{ScriptLine}
use Rattle.record_spec.specs.declared.AskedLine.{AskedLine}
use Rattle.record_spec.specs.declared.AskedWhat.{AskedWhat}
use Rattle.record_spec.specs.declared.AskedWhat.TheVariants as AskedWhat
use Rattle.live_table.specs.Lists.{Has, here, there}
use Rattle.live_table.specs.Batches.{batches_by}
use Rattle.live_table.proofs.Lists.{has_left, has_right, has_either, begins_trans, rows_begin}
use Rattle.smack_kernel.specs.Tasks.{TaskValue}
use Rattle.smack_kernel.specs.Indexes.{version_rows}
use Rattle.runs_spec.specs.Scripts.{Scripted}
use Rattle.runs_spec.specs.Deeds.{entries_of, Deed, entered, batched, answered, asked_in, entries_in, batches_in, AllAt, FitsTo, IsTaskless, by_version, by_place, IsSeen}
use Rattle.runs_spec.specs.Runs.{TaskRun, ends, does, forks, waited, wait_deeds, own, numbers, asked_of, AllMade, Over, Kids, Distinct, WentOver, Ran}
use Rattle.runs_spec.proofs.Growing.{all_at-grow, all_made-grow}

abbrev pub then : TaskRun → TaskRun → TaskRun
then ends s = s
then (does d r) s = does d (then r s)
then (forks e n pid k o c w a) s = forks e n pid k o c w (then a s)

pub own-then : (r s : TaskRun) → own (then r s) ≡ own r ++ own s
own-then ends s = refl
own-then (does d r) s = ap (λ l. d ∷ l) (own-then r s)
own-then (forks e n pid k o c w a) s = ap (λ l. entered e n ∷ l)
    (ap (λ l. own o ++ (wait_deeds w ++ l)) (own-then a s)
    ∙ (ap (λ l. own o ++ l) (sym (append_assoc (wait_deeds w) (own a) (own s))) ∙ sym (append_assoc (own o) (wait_deeds w ++ own a) (own s))))

pub numbers-then : (r s : TaskRun) → numbers (then r s) ≡ numbers r ++ numbers s
numbers-then ends s = refl
numbers-then (does d r) s = numbers-then r s
numbers-then (forks e n pid k o c w a) s = ap (λ l. numbers o ++ ((k ∷ numbers c) ++ l)) (numbers-then a s)
    ∙ (ap (λ l. numbers o ++ l) (sym (append_assoc (k ∷ numbers c) (numbers a) (numbers s)))
    ∙ sym (append_assoc (numbers o) ((k ∷ numbers c) ++ numbers a) (numbers s)))

pub asked-then : (r s : TaskRun) → asked_of (then r s) ≡ asked_of r ++ asked_of s
asked-then ends s = refl
asked-then (does d r) s = ap (λ l. asked_in d ++ l) (asked-then r s) ∙ sym (append_assoc (asked_in d) (asked_of r) (asked_of s))
asked-then (forks e n pid k o c w a) s = ap (λ l. (asked_of o ++ asked_of c) ++ (waited w ++ l)) (asked-then a s)
    ∙ (ap (λ l. (asked_of o ++ asked_of c) ++ l) (sym (append_assoc (waited w) (asked_of a) (asked_of s)))
    ∙ sym (append_assoc (asked_of o ++ asked_of c) (waited w ++ asked_of a) (asked_of s)))

pub entries-append : (xs ys : List Deed) → entries_in (xs ++ ys) ≡ entries_in xs ++ entries_in ys
entries-append [] ys = refl
entries-append (entered e n ∷ xs) ys = ap (λ l. e ∷ l) (entries-append xs ys)
entries-append (batched n b m ∷ xs) ys = entries-append xs ys
entries-append (answered l m ∷ xs) ys = entries-append xs ys

pub batches-append : (xs ys : List Deed) → batches_in (xs ++ ys) ≡ batches_in xs ++ batches_in ys
batches-append [] ys = refl
batches-append (entered e n ∷ xs) ys = batches-append xs ys
batches-append (batched n b m ∷ xs) ys = ap (λ l. b ∷ l) (batches-append xs ys)
batches-append (answered l m ∷ xs) ys = batches-append xs ys

pub all_at-append : (j : List Batch) (h : List Entry) (k : ℕ) (xs ys : List Deed) → AllAt j h k xs → AllAt j h k ys → AllAt j h k (xs ++ ys)
all_at-append j h k [] ys a b = b
all_at-append j h k (x ∷ xs) ys a b = (a.0, all_at-append j h k xs ys a.1 b)

pub all_made-then : (j : List Batch) (h : List Entry) (r s : TaskRun) → AllMade j h r → AllMade j h s → AllMade j h (then r s)
all_made-then j h ends s m q = q
all_made-then j h (does d r) s m q = all_made-then j h r s m q
all_made-then j h (forks e n pid k o c w a) s m q = (m.0, m.1, m.2, all_made-then j h a s m.3 q)

-- a clock's step may begin lower and end higher
pub record Clock (step : ℕ → Deed → ℕ → Type 0) : Type 0 where
  pub low : (a a' : ℕ) (d : Deed) (b : ℕ) → a' ≤ a → step a d b → step a' d b
  pub rises : (a : ℕ) (d : Deed) (b : ℕ) → step a d b → a ≤ b

pub version_clock : Clock by_version
version_clock = record { low = low; rises = rises } where
  low : (a a' : ℕ) (d : Deed) (b : ℕ) → a' ≤ a → by_version a d b → by_version a' d b
  low a a' (entered e n) b l s = let x = s.0 in (omega arith, s.1)
  low a a' (batched n y m) b l s = let x = s.0 in (omega arith, s.1)
  low a a' (answered y m) b l s = let x = s.0 in (omega arith, s.1)

  rises : (a : ℕ) (d : Deed) (b : ℕ) → by_version a d b → a ≤ b
  rises a (entered e n) b s = let x = s.0 in let y = s.1 in omega arith
  rises a (batched n y m) b s = let x = s.0 in let z = s.1 in omega arith
  rises a (answered y m) b s = let x = s.0 in let z = s.1 in omega arith

seen_low : (w : AskedWhat) (a a' m b : ℕ) → a' ≤ a → IsSeen w a m b → IsSeen w a' m b
seen_low (AskedWhat.Ask x) a a' m b l i = tt
seen_low (AskedWhat.Refused file fault) a a' m b l i = let z = i.0 in (omega arith, i.1)
seen_low (AskedWhat.Wait pid) a a' m b l i = tt

pub place_clock : Clock by_place
place_clock = record { low = low; rises = rises } where
  low : (a a' : ℕ) (d : Deed) (b : ℕ) → a' ≤ a → by_place a d b → by_place a' d b
  low a a' (entered e n) b l s = let x = s.0 in (omega arith, s.1)
  low a a' (batched n y m) b l s = let x = s.0 in (omega arith, s.1)
  low a a' (answered y m) b l s = let x = s.0 in (omega arith, seen_low y.what a a' m b l s.1)

  rises : (a : ℕ) (d : Deed) (b : ℕ) → by_place a d b → a ≤ b
  rises a (entered e n) b s = let x = s.0 in let y = s.1 in omega arith
  rises a (batched n y m) b s = let x = s.0 in let z = s.1 in omega arith
  rises a (answered y m) b s = s.0

module _ (step : ℕ → Deed → ℕ → Type 0) (k : Clock step) where
  pub over_low : (a a' : ℕ) (r : TaskRun) (z : ℕ) → a' ≤ a → Over step a r z → Over step a' r z
  over_low a a' ends z l o = omega arith
  over_low a a' (does d r) z l o = (o.0, k.low a a' d o.0 l o.1, o.2)
  over_low a a' (forks e n pid x p c w r) z l o = (o.0, k.low a a' (entered e n) o.0 l o.1, o.2, o.3, o.4, o.5, o.6, o.7)

  pub over_high : (a : ℕ) (r : TaskRun) (z z' : ℕ) → z ≤ z' → Over step a r z → Over step a r z'
  over_high a ends z z' l o = omega arith
  over_high a (does d r) z z' l o = (o.0, o.1, over_high o.0 r z z' l o.2)
  over_high a (forks e n pid x p c w r) z z' l o = (o.0, o.1, o.2, o.3, o.4, o.5, o.6, over_high o.5 r z z' l o.7)

  pub over_then : (a : ℕ) (r s : TaskRun) (m z : ℕ) → Over step a r m → Over step m s z → Over step a (then r s) z
  over_then a ends s m z o q = over_low m a s z o q
  over_then a (does d r) s m z o q = (o.0, o.1, over_then o.0 r s m z o.2 q)
  over_then a (forks e n pid x p c w r) s m z o q = (o.0, o.1, o.2, o.3, o.4, o.5, o.6, over_then o.5 r s m z o.7 q)

pub fits-then : (s : Scripted) (k q : ℕ) (xs ys : List Deed) (ls mid rest : List ScriptLine) → FitsTo s k q xs ls mid
    → FitsTo s k (q + length xs) ys mid rest → FitsTo s k q (xs ++ ys) ls rest
fits-then s k q [] ys ls mid rest f g = subst (λ (x : ℕ × List ScriptLine). FitsTo s k x.0 ys x.1 rest) (λ i. (zero_right i, sym f i)) g where
  zero_right : q + 0 ≡ q
  zero_right = omega arith
fits-then s k q (x ∷ xs) ys [] mid rest f g = absurd f
fits-then s k q (x ∷ xs) ys (l ∷ ls) mid rest f g = (
  f.0,
  fits-then s k (q + 1) xs ys ls mid rest f.1
      (subst (λ n. FitsTo s k n ys mid rest) (let e : q + length {A = Deed} (x ∷ xs) ≡ (q + 1) + length xs = omega arith in e) g),
)

pub kids-then : (full : Bool) (s : Scripted) (r t : TaskRun) → Kids full s r → Kids full s t → Kids full s (then r t)
kids-then full s ends t a b = b
kids-then full s (does d r) t a b = (a.0, kids-then full s r t a.1 b)
kids-then full s (forks e n pid k o c w r) t a b = (a.0, a.1, a.2, a.3, a.4, a.5, kids-then full s r t a.6 b)

plain-any : (full : Bool) (d : Deed) → IsTaskless true d → IsTaskless full d
plain-any full (entered e n) p = (p.0, λ _. p.1 refl)
plain-any full (batched n b m) p = tt
plain-any full (answered l m) p = p

pub kids-any : (full : Bool) (s : Scripted) (r : TaskRun) → Kids true s r → Kids full s r
kids-any full s ends a = tt
kids-any full s (does d r) a = (plain-any full d a.0, kids-any full s r a.1)
kids-any full s (forks e n pid k o c w r) a = let x = a.3 in (
  a.0,
  a.1,
  a.2,
  record { rest = x.rest; fits = x.fits; all = λ _. x.all refl },
  kids-any full s o a.4,
  kids-any full s c a.5,
  kids-any full s r a.6,
)

pub distinct-append : (xs ys : List ℕ) → Distinct xs → Distinct ys → ((k : ℕ) → Has k xs → Has k ys → ⊥) → Distinct (xs ++ ys)
distinct-append [] ys d e a = e
distinct-append (x ∷ xs) ys d e a =
    ((λ h. ⊎_elim d.0 (a x here) (has_either xs ys h)), distinct-append xs ys d.1 e (λ k h. a k (there h)))

-- one after the other
pub went_then : (full : Bool) (s : Scripted) (ls mid rest : List ScriptLine) (v u w : TaskValue) → WentOver true s ls mid v u
    → WentOver full s mid rest u w → WentOver full s ls rest v w
went_then full s ls mid rest v u w a b = record {
  run = then a.run b.run;
  table = b.table ∙ a.table;
  number = b.number ∙ a.number;
  made = let x = a.made in let y = b.made in let z = ap length owns in omega (arith, length-append (own a.run) (own b.run));
  fits = subst (λ l. FitsTo s v.number (v.made + 1) l ls rest) (sym owns)
      (fits-then s v.number (v.made + 1) (own a.run) (own b.run) ls mid rest a.fits
      (subst (λ (x : ℕ × ℕ). FitsTo s x.0 x.1 (own b.run) mid rest)
      (λ i. (a.number i, (let e : u.made + 1 ≡ (v.made + 1) + length (own a.run) = (let x = a.made in omega arith) in e) i)) b.fits));
  kids = kids-then full s a.run b.run (kids-any full s a.run a.kids) b.kids;
  ended = b.ended ∙ (ap (λ l. l ++ numbers b.run) a.ended
      ∙ (append_assoc v.ended (numbers a.run) (numbers b.run) ∙ ap (λ l. v.ended ++ l) (sym (numbers-then a.run b.run))));
  apart = λ k h t. ⊎_elim (a.apart k h) (b.apart k (of_u k h))
      (has_either (numbers a.run) (numbers b.run) (subst (Has k) (numbers-then a.run b.run) t));
  distinct = subst Distinct (sym (numbers-then a.run b.run))
      (distinct-append (numbers a.run) (numbers b.run) a.distinct b.distinct (λ k h t. b.apart k (there (in_run k h)) t));
  journal = begins_trans b.journal a.journal;
  history = begins_trans b.history a.history;
  own_batches = subst (λ k. batches_by k w.journal ≡ batches_by k u.journal ++ batches_in (own b.run)) a.number b.own_batches
      ∙ (ap (λ l. l ++ batches_in (own b.run)) a.own_batches
      ∙ (append_assoc (batches_by v.number v.journal) (batches_in (own a.run)) (batches_in (own b.run))
      ∙ ap (λ l. batches_by v.number v.journal ++ l) (sym (batches-append (own a.run) (own b.run)) ∙ ap batches_in (sym owns))));
  own_entries = subst (λ k. entries_of k w.history ≡ entries_of k u.history ++ entries_in (own b.run)) a.number b.own_entries
      ∙ (ap (λ l. l ++ entries_in (own b.run)) a.own_entries
      ∙ (append_assoc (entries_of v.number v.history) (entries_in (own a.run)) (entries_in (own b.run))
      ∙ ap (λ l. entries_of v.number v.history ++ l) (sym (entries-append (own a.run) (own b.run)) ∙ ap entries_in (sym owns))));
  at = subst (AllAt w.journal w.history v.number) (sym owns)
      (all_at-append w.journal w.history v.number (own a.run) (own b.run)
      (all_at-grow u.journal w.journal b.journal u.history w.history b.history v.number (own a.run) a.at)
      (subst (λ k. AllAt w.journal w.history k (own b.run)) a.number b.at));
  batches = λ k h. b.batches k (in_v k h) ∙ a.batches k h;
  entries = λ k h. b.entries k (in_v k h) ∙ a.entries k h;
  others = all_made-then w.journal w.history a.run b.run
      (all_made-grow u.journal w.journal b.journal u.history w.history b.history a.run (λ k h. b.batches k (in_run k h))
      (λ k h. b.entries k (in_run k h)) a.others) b.others;
  fresh = over_then by_version version_clock v.version a.run b.run u.version w.version a.fresh b.fresh;
  placed = over_then by_place place_clock (length v.history) a.run b.run (length u.history) (length w.history) a.placed b.placed;
  within = b.within;
  loads = λ z. let x : u.loads + version_rows v.journal v.version ≤ v.loads + version_rows u.journal u.version = a.loads refl in
      let y : w.loads + version_rows u.journal u.version ≤ u.loads + version_rows w.journal w.version = b.loads z in omega arith;
  others_load = λ z. let x = a.others_load refl in
      let y = b.others_load z in
      record {
        more = x.more ++ y.more;
        is = y.is ∙ (ap (λ l. l ++ y.more) x.is ∙ append_assoc v.ended_loads x.more y.more);
        each = omega (
          arith,
          length-append x.more y.more,
          length-append (numbers a.run) (numbers b.run),
          ap (λ (l : List ℕ). length l) (numbers-then a.run b.run),
          x.each,
          y.each,
        );
        few = λ n h. ⊎_elim (λ i. omega (arith, x.few n i, rows_begin b.journal)) (y.few n) (has_either x.more y.more h);
      };
} where
  owns : own (then a.run b.run) ≡ own a.run ++ own b.run
  owns = own-then a.run b.run

  in_v : (k : ℕ) → Has k v.ended → Has k u.ended
  in_v k h = subst (Has k) (sym a.ended) (has_left (numbers a.run) h)

  of_u : (k : ℕ) → Has k (v.number ∷ v.ended) → Has k (u.number ∷ u.ended)
  of_u k h = subst (λ (x : ℕ × List ℕ). Has k (x.0 ∷ x.1)) (λ i. (sym a.number i, sym a.ended i)) (has_left (numbers a.run) h)

  in_run : (k : ℕ) → Has k (numbers a.run) → Has k u.ended
  in_run k h = subst (Has k) (sym a.ended) (has_right v.ended h)

-- the same calls, over other lines
unfoldable pub over_lines : (full full' : Bool) (s : Scripted) (ls left ls' left' : List ScriptLine) (v w : TaskValue) (a : WentOver full s ls left v w)
    → Kids full' s a.run → FitsTo s v.number (v.made + 1) (own a.run) ls' left' → (full' ≡ true → full ≡ true)
    → WentOver full' s ls' left' v w
over_lines full full' s ls left ls' left' v w a kids fits as_full = record {
  run = a.run;
  table = a.table;
  number = a.number;
  made = a.made;
  fits = fits;
  kids = kids;
  ended = a.ended;
  apart = a.apart;
  distinct = a.distinct;
  journal = a.journal;
  history = a.history;
  own_batches = a.own_batches;
  own_entries = a.own_entries;
  at = a.at;
  batches = a.batches;
  entries = a.entries;
  others = a.others;
  fresh = a.fresh;
  placed = a.placed;
  within = a.within;
  loads = λ z. a.loads (as_full z);
  others_load = λ z. a.others_load (as_full z);
}

-- all lines up to the rest
pub up_to : (full : Bool) (s : Scripted) (ls left rest : List ScriptLine) (v w : TaskValue) → left ≡ rest → WentOver full s ls left v w
    → WentOver full s ls rest v w
up_to full s ls left rest v w e a = over_lines full full s ls left ls rest v w a a.kids
    (subst (FitsTo s v.number (v.made + 1) (own a.run) ls) e a.fits) (λ z. z)

-- a worker that stops may have done less
pub weaker : (full : Bool) (s : Scripted) (ls left : List ScriptLine) (v w : TaskValue) → WentOver full s ls left v w → WentOver false s ls left v w
weaker false s ls left v w a = a
weaker true s ls left v w a = over_lines true false s ls left ls left v w a (kids-any false s a.run a.kids) a.fits
    (λ z. absurd (let z' : false ≡ true = z in cc))

-- a worker that stops promises no more
pub stopped : (full : Bool) (s : Scripted) (ls left rest : List ScriptLine) (v w : TaskValue) (x y : List AskedLine) → WentOver full s ls left v w
    → Ran true s ls rest v w x y
stopped full s ls left rest v w x y g = record {
  left = left;
  went = weaker full s ls left v w g;
  on = λ z. absurd (let z' : true ≡ false = z in cc);
  asked = λ z. absurd (let z' : true ≡ false = z in cc);
}

-- a worker goes on
pub ran_then : (stop : Bool) (s : Scripted) (ls mid rest : List ScriptLine) (v u w : TaskValue) (x y z : List AskedLine)
    → Ran false s ls mid v u x y → Ran stop s mid rest u w y z → Ran stop s ls rest v w x z
unfolding went_then up_to over_lines
ran_then stop s ls mid rest v u w x y z a b = record {
  left = b.left;
  went = went_then (not stop) s ls mid b.left v u w (up_to true s ls a.left mid v u (a.on refl) a.went) b.went;
  on = b.on;
  asked = λ e. b.asked e ∙ (ap (λ (l : List AskedLine). l ++ asked_of b.went.run) (a.asked refl)
      ∙ (append_assoc x (asked_of a.went.run) (asked_of b.went.run)
      ∙ ap (λ (l : List AskedLine). x ++ l) (sym (asked-then a.went.run b.went.run))));
}
