-- The list of calls has the calls of the record, and as many.
use Rattle.std.proofs.Common.{◌≡◌, ⊎_elim, inl, inr, ℕ, zero, suc, ◌+◌, Bool, ◌==◌, cond, List, [], ◌∷◌, ◌++◌, map, refl, sym, ap, ◌∙◌, subst, arith}
use Rattle.std.specs.List.{count_by}
use Rattle.std.proofs.lemmas.List.Sums.{sum_by-cons, sum_by-append}
use Rattle.rules_spec.specs.declared.Batch.{Batch}
use Rattle.world_spec.specs.declared.Entry.{Entry}
use Rattle.record_spec.specs.declared.AskedLine.{AskedLine}
use Rattle.record_spec.specs.declared.RunRecord.{RunRecord}
use Rattle.replay_spec.specs.Laws.{is_call, calls_at}
use Rattle.legal_spec.specs.Calls.{Stands, IsCall, batch, entry, asked, call_count}
use Rattle.legal_forms.specs.MadeCalls.{MadeCall, batch_calls, entry_call, asked_call, made_calls, count_of}
use Rattle.legal_forms_laws.proofs.Members.{same_some, Has, has_there, place_of_one, has_left, has_right, has_either, has_image, has_source}

abbrev batch_call : ℕ → Batch → MadeCall
batch_call i b = record { task = b.task; seq = b.seq; needs = i; reaches = i + 1 }

has_batch : (from : ℕ) (bs : List Batch) (i : ℕ) (b : Batch) → Stands bs i b → Has (batch_calls from bs) (batch_call (from + i) b)
has_batch from [] i b at = absurd (none at)
  where
    none : Stands [] i b → ⊥
    none at = cc
has_batch from (x ∷ xs) zero b at =
    let same : from ≡ from + 0 = omega arith in inl (λ k. batch_call (same k) (same_some x b at k))
has_batch from (x ∷ xs) (suc i) b at =
    let same : (from + 1) + i ≡ from + suc i = omega arith in
    inr (subst (λ (k : ℕ). Has (batch_calls (from + 1) xs) (batch_call k b)) same (has_batch (from + 1) xs i b at))

abbrev IsBatchCall : ℕ → List Batch → MadeCall → Type 0
IsBatchCall from bs c = (i : ℕ) × (b : Batch) × Stands bs i b × (batch_call (from + i) b ≡ c)

batch_has : (from : ℕ) (bs : List Batch) (c : MadeCall) → Has (batch_calls from bs) c → IsBatchCall from bs c
batch_has from [] c has = absurd has
batch_has from (x ∷ xs) c (inl is) = let same : from + 0 ≡ from = omega arith in (0, x, refl, ap (λ (k : ℕ). batch_call k x) same ∙ is)
batch_has from (x ∷ xs) c (inr has) =
    let rest = batch_has (from + 1) xs c has in
    let same : from + suc rest.0 ≡ (from + 1) + rest.0 = omega arith in
    (suc rest.0, rest.1, rest.2, ap (λ (k : ℕ). batch_call k rest.1) same ∙ rest.3)

module _ (r : RunRecord) where
  abbrev others : List MadeCall
  others = map entry_call r.history ++ map asked_call r.asked

  pub is_made : (task seq needs reaches : ℕ) → IsCall r task seq needs reaches
      → Has (made_calls r) (record { task = task; seq = seq; needs = needs; reaches = reaches })
  is_made task seq needs reaches (batch i b at) =
      let same : 0 + i ≡ i = omega arith in
      has_left (batch_calls 0 r.journal) others (batch_call i b)
      (subst (λ (k : ℕ). Has (batch_calls 0 r.journal) (batch_call k b)) same (has_batch 0 r.journal i b at))
  is_made task seq needs reaches (entry i e at) =
      has_right (batch_calls 0 r.journal) others (entry_call e)
      (has_left (map entry_call r.history) (map asked_call r.asked) (entry_call e) (has_image entry_call r.history e (has_there r.history i e at)))
  is_made task seq needs reaches (asked i a at) =
      has_right (batch_calls 0 r.journal) others (asked_call a)
      (has_right (map entry_call r.history) (map asked_call r.asked) (asked_call a) (has_image asked_call r.asked a (has_there r.asked i a at)))

  abbrev Is : MadeCall → Type 0
  Is c = IsCall r c.task c.seq c.needs c.reaches

  of_batch : (c : MadeCall) → IsBatchCall 0 r.journal c → Is c
  of_batch c is =
      let same : 0 + is.0 ≡ is.0 = omega arith in
      subst Is (ap (λ (k : ℕ). batch_call k is.1) (sym same) ∙ is.3) (batch is.0 is.1 is.2)

  of_entry : (c : MadeCall) → (e : Entry) × Has r.history e × (entry_call e ≡ c) → Is c
  of_entry c is = let place = place_of_one r.history is.0 is.1 in subst Is is.2 (entry place.0 is.0 place.1)

  of_asked : (c : MadeCall) → (a : AskedLine) × Has r.asked a × (asked_call a ≡ c) → Is c
  of_asked c is = let place = place_of_one r.asked is.0 is.1 in subst Is is.2 (asked place.0 is.0 place.1)

  pub made_is : (c : MadeCall) → Has (made_calls r) c → Is c
  made_is c has =
      ⊎_elim (λ of. of_batch c (batch_has 0 r.journal c of))
      (λ other. ⊎_elim (λ of. of_entry c (has_source entry_call r.history c of)) (λ of. of_asked c (has_source asked_call r.asked c of))
      (has_either (map entry_call r.history) (map asked_call r.asked) c other))
      (has_either (batch_calls 0 r.journal) others c has)

pub count-cons : {X : Type 0} (test : X → Bool) (x : X) (xs : List X) → count_by test (x ∷ xs) ≡ cond (test x) 1 0 + count_by test xs
count-cons test x xs = sum_by-cons (λ y. cond (test y) 1 0) x xs

count-append : {X : Type 0} (test : X → Bool) (xs ys : List X) → count_by test (xs ++ ys) ≡ count_by test xs + count_by test ys
count-append test xs ys = sum_by-append (λ y. cond (test y) 1 0) xs ys

count-map : {X Y : Type 0} (test : Y → Bool) (f : X → Y) (xs : List X) → count_by test (map f xs) ≡ count_by (λ x. test (f x)) xs
count-map test f [] = refl
count-map test f (x ∷ xs) =
    omega (arith, count-cons test (f x) (map f xs), count-cons (λ y. test (f y)) x xs, count-map test f xs)

module _ (test : ℕ → ℕ → Bool) where
  count_batches : (from : ℕ) (bs : List Batch) → count_by (λ c. test c.task c.seq) (batch_calls from bs) ≡ count_by (λ b. test b.task b.seq) bs
  count_batches from [] = refl
  count_batches from (b ∷ bs) =
      omega (
        arith,
        count-cons (λ (c : MadeCall). test c.task c.seq) (batch_call from b) (batch_calls (from + 1) bs),
        count-cons (λ (x : Batch). test x.task x.seq) b bs,
        count_batches (from + 1) bs,
      )

  pub made_counts : (r : RunRecord) → count_by (λ c. test c.task c.seq) (made_calls r)
      ≡ count_by (λ b. test b.task b.seq) r.journal + count_by (λ e. test e.task e.seq) r.history + count_by (λ a. test a.task a.seq) r.asked
  made_counts r =
      let all = count-append (λ (c : MadeCall). test c.task c.seq) (batch_calls 0 r.journal) (map entry_call r.history ++ map asked_call r.asked) in
      let rest = count-append (λ (c : MadeCall). test c.task c.seq) (map entry_call r.history) (map asked_call r.asked) in
      let batches = count_batches 0 r.journal in
      let entries = count-map (λ (c : MadeCall). test c.task c.seq) entry_call r.history in
      let lines = count-map (λ (c : MadeCall). test c.task c.seq) asked_call r.asked in
      omega (arith, all, rest, batches, entries, lines)

-- the call of a task with this number, and how many there are
abbrev pub is_at : ℕ → ℕ → MadeCall → Bool
is_at task seq c = is_call task seq c.task c.seq

abbrev pub count_at : List MadeCall → ℕ → ℕ → ℕ
count_at calls task seq = count_by (is_at task seq) calls

pub counts_at : (r : RunRecord) (task seq : ℕ) → count_at (made_calls r) task seq ≡ calls_at r task seq
counts_at r task seq = made_counts (λ t s. is_call task seq t s) r

pub counts_of : (r : RunRecord) (task : ℕ) → count_of (made_calls r) task ≡ call_count r task
counts_of r task = made_counts (λ t s. t == task) r
