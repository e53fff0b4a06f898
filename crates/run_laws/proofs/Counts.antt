-- The calls of one task are counted.
use Rattle.std.proofs.Common.{◌≡◌, ◌≢◌, ℕ, ◌+◌, ◌<◌, ◌≤◌, ◌⊎◌, ◌==◌, ◌&&◌, nat_le, List, [], ◌∷◌, length, Bool, true, false, if◌then◌else◌, sym, refl, ap, ◌∙◌, arith, ⊎_elim, inl, inr, ne_eqb}
use Rattle.std.specs.List.{count_by}
use Rattle.std.specs.Prelude.{cond}
use Rattle.std.proofs.lemmas.Bool.{cases_Bool, and_parts, leb-true, leb-false, eqb-true, eqb-false}
use Rattle.std.proofs.lemmas.List.Sums.{sum_by-cons}
use Rattle.rules_spec.specs.declared.Batch.{Batch}
use Rattle.world_spec.specs.declared.Entry.{Entry}
use Rattle.script_spec.specs.Lines.{ScriptLine}
use Rattle.record_spec.specs.declared.AskedLine.{AskedLine}
use Rattle.record_spec.specs.declared.RunRecord.{RunRecord}
use Rattle.replay_spec.specs.Laws.{calls_at}
use Rattle.legal_spec.specs.Calls.{call_count}
use Rattle.live_table.specs.Lists.{those_of}
use Rattle.live_table.specs.Batches.{batches_by}
use Rattle.runs_spec.specs.Scripts.{Scripted}
use Rattle.runs_spec.specs.Deeds.{entries_of, Deed, entered, batched, answered, entries_in, batches_in, FitsTo}
use Rattle.run_laws.proofs.Deeds.{lines_of, seq_of, fits_of}
use Rattle.run_laws.proofs.Lives.{asked_by}

pub count-cons : {A : Type 0} (test : A → Bool) (x : A) (xs : List A) → count_by test (x ∷ xs) ≡ cond (test x) 1 0 + count_by test xs
count-cons test x xs = sum_by-cons (λ y. cond (test y) 1 0) x xs

-- how many are of a number and pass is how many of that number pass
count_those : {A : Type 0} (number : A → ℕ) (test : A → Bool) (k : ℕ) (xs : List A)
    → count_by (λ x. (number x == k) && test x) xs ≡ count_by test (those_of number k xs)
count_those number test k [] = refl
count_those {A} number test k (x ∷ xs) =
    count-cons (λ y. (number y == k) && test y) x xs ∙ by (number x == k) (count_those number test k xs)
  where
    by : (b : Bool) → count_by (λ y. (number y == k) && test y) xs ≡ count_by test (those_of number k xs)
        → cond (b && test x) 1 0 + count_by (λ y. (number y == k) && test y) xs
        ≡ count_by test (if b then x ∷ those_of number k xs else those_of number k xs)
    by true rest = ap (λ n. cond (test x) 1 0 + n) rest ∙ sym (count-cons test x (those_of number k xs))
    by false rest = omega (arith, rest)

pub count_length : {A : Type 0} (number : A → ℕ) (k : ℕ) (xs : List A) → count_by (λ x. number x == k) xs ≡ length (those_of number k xs)
count_length number k [] = refl
count_length {A} number k (x ∷ xs) = count-cons (λ y. number y == k) x xs ∙ by (number x == k) (count_length number k xs)
  where
    by : (b : Bool) → count_by (λ y. number y == k) xs ≡ length (those_of number k xs)
        → cond b 1 0 + count_by (λ y. number y == k) xs ≡ length (if b then x ∷ those_of number k xs else those_of number k xs)
    by true rest = omega (arith, rest)
    by false rest = omega (arith, rest)

-- the calls of a number are these, in order
pub record Counted (s : Scripted) (r : RunRecord) (k : ℕ) : Type 0 where
  pub calls : List Deed
  pub ls : List ScriptLine
  pub rest : List ScriptLine
  pub fits : FitsTo s k 1 calls ls rest
  pub batches : batches_by k r.journal ≡ batches_in calls
  pub entries : entries_of k r.history ≡ entries_in calls
  pub lines : asked_by k r.asked ≡ lines_of calls

-- three kinds of calls make all of them
count_kinds : (q : ℕ) (ds : List Deed)
    → (count_by (λ b. b.seq == q) (batches_in ds) + count_by (λ e. e.seq == q) (entries_in ds)) + count_by (λ a. a.seq == q) (lines_of ds)
    ≡ count_by (λ d. seq_of d == q) ds
count_kinds q [] = refl
count_kinds q (entered e n ∷ ds) =
    let i = count_kinds q ds in
    let c = count-cons (λ (x : Entry). x.seq == q) e (entries_in ds) in
    let d = count-cons (λ (x : Deed). seq_of x == q) (entered e n) ds in omega (arith, i, c, d)
count_kinds q (batched n b m ∷ ds) =
    let i = count_kinds q ds in
    let c = count-cons (λ (x : Batch). x.seq == q) b (batches_in ds) in
    let d = count-cons (λ (x : Deed). seq_of x == q) (batched n b m) ds in omega (arith, i, c, d)
count_kinds q (answered l m ∷ ds) =
    let i = count_kinds q ds in
    let c = count-cons (λ (x : AskedLine). x.seq == q) l (lines_of ds) in
    let d = count-cons (λ (x : Deed). seq_of x == q) (answered l m) ds in omega (arith, i, c, d)

pub length_kinds : (ds : List Deed) → (length (batches_in ds) + length (entries_in ds)) + length (lines_of ds) ≡ length ds
length_kinds [] = refl
length_kinds (entered e n ∷ ds) = let i = length_kinds ds in omega (arith, i)
length_kinds (batched n b m ∷ ds) = let i = length_kinds ds in omega (arith, i)
length_kinds (answered l m ∷ ds) = let i = length_kinds ds in omega (arith, i)

-- calls are numbered on, each once
count_none : (s : Scripted) (t q : ℕ) (ds : List Deed) (ls rest : List ScriptLine) (n : ℕ) → FitsTo s t q ds ls rest
    → (n < q) ⊎ (q + length ds ≤ n) → count_by (λ d. seq_of d == n) ds ≡ 0
count_none s t q [] ls rest n f out = refl
count_none s t q (d ∷ ds) [] rest n f out = absurd f
count_none s t q (d ∷ ds) (l ∷ ls) rest n f out =
    let is = (fits_of s t q d l f.0).1 in
    let ne : seq_of d ≢ n = λ e. ⊎_elim (λ u. absurd (omega arith)) (λ u. absurd (omega arith)) out in
    let no_ : (seq_of d == n) ≡ false = ne_eqb (seq_of d) n ne in
    let later : (n < q + 1) ⊎ ((q + 1) + length ds ≤ n) = ⊎_elim (λ u. inl (omega arith)) (λ u. inr (omega arith)) out in
    let none = count_none s t (q + 1) ds ls rest n f.1 later in
    count-cons (λ (x : Deed). seq_of x == n) d ds
    ∙ (ap (λ b. cond b 1 0 + count_by (λ (x : Deed). seq_of x == n) ds) no_ ∙ omega (arith, none))

count_one : (s : Scripted) (t q : ℕ) (ds : List Deed) (ls rest : List ScriptLine) (n : ℕ) → FitsTo s t q ds ls rest → q ≤ n
    → n < q + length ds → count_by (λ d. seq_of d == n) ds ≡ 1
count_one s t q [] ls rest n f low high = absurd (omega arith)
count_one s t q (d ∷ ds) [] rest n f low high = absurd f
count_one s t q (d ∷ ds) (l ∷ ls) rest n f low high =
    let is = (fits_of s t q d l f.0).1 in
    count-cons (λ (x : Deed). seq_of x == n) d ds ∙ ⊎_elim
    (λ e.
    let same = eqb-true (seq_of d) n e in
    let none = count_none s t (q + 1) ds ls rest n f.1 (inl (omega arith)) in
    ap (λ b. cond b 1 0 + count_by (λ (x : Deed). seq_of x == n) ds) e ∙ omega (arith, none))
    (λ e.
    let ne : seq_of d ≢ n = eqb-false (seq_of d) n e in
    let ne' : q ≢ n = λ i. ne (is ∙ i) in
    let more = count_one s t (q + 1) ds ls rest n f.1 (apart q n low ne') (omega arith) in
    ap (λ b. cond b 1 0 + count_by (λ (x : Deed). seq_of x == n) ds) e ∙ omega (arith, more)) (cases_Bool (seq_of d == n))
  where
    apart : (a b : ℕ) → a ≤ b → a ≢ b → a + 1 ≤ b
    apart a b l ne = ⊎_elim (λ e. leb-true (a + 1) b e) (λ e. absurd (ne (let x = leb-false (a + 1) b e in omega arith))) (cases_Bool (nat_le (a + 1) b))

module _ (s : Scripted) (r : RunRecord) (k : ℕ) (c : Counted s r k) where
  pub count_is : call_count r k ≡ length c.calls
  count_is =
      let a = count_length (λ (b : Batch). b.task) k r.journal ∙ ap length c.batches in
      let b = count_length (λ (e : Entry). e.task) k r.history ∙ ap length c.entries in
      let d = count_length (λ (x : AskedLine). x.task) k r.asked ∙ ap length c.lines in
      let e = length_kinds c.calls in omega (arith, a, b, d, e)

  calls_are : (n : ℕ) → calls_at r k n ≡ count_by (λ d. seq_of d == n) c.calls
  calls_are n =
      let a = count_those (λ (b : Batch). b.task) (λ b. b.seq == n) k r.journal ∙ ap (count_by (λ (b : Batch). b.seq == n)) c.batches in
      let b = count_those (λ (e : Entry). e.task) (λ e. e.seq == n) k r.history ∙ ap (count_by (λ (e : Entry). e.seq == n)) c.entries in
      let d = count_those (λ (x : AskedLine). x.task) (λ x. x.seq == n) k r.asked ∙ ap (count_by (λ (x : AskedLine). x.seq == n)) c.lines in
      let e = count_kinds n c.calls in omega (arith, a, b, d, e)

  pub each_once : (n : ℕ) → calls_at r k n ≡ (if nat_le 1 n && nat_le n (call_count r k) then 1 else 0)
  each_once n = calls_are n ∙ ⊎_elim
      (λ e.
      let parts = and_parts (nat_le 1 n) (nat_le n (call_count r k)) e in
      let low = leb-true 1 n parts.0 in
      let high = leb-true n (call_count r k) parts.1 in
      let long = count_is in
      count_one s k 1 c.calls c.ls c.rest n c.fits low (omega arith) ∙ ap (λ b. if b then 1 else 0) (sym e))
      (λ e.
      count_none s k 1 c.calls c.ls c.rest n c.fits (out n (length c.calls) (ap (λ x. nat_le 1 n && nat_le n x) (sym count_is) ∙ e))
      ∙ ap (λ b. if b then 1 else 0) (sym e)) (cases_Bool (nat_le 1 n && nat_le n (call_count r k)))
    where
      out : (n m : ℕ) → (nat_le 1 n && nat_le n m) ≡ false → (n < 1) ⊎ (1 + m ≤ n)
      out n m e = ⊎_elim (λ a. ⊎_elim (λ b. absurd (let z : true ≡ false = sym (ap (λ x. x && nat_le n m) a ∙ b) ∙ e in cc))
          (λ b. inr (let x = leb-false n m b in omega arith)) (cases_Bool (nat_le n m))) (λ a. inl (let x = leb-false 1 n a in omega arith))
          (cases_Bool (nat_le 1 n))
