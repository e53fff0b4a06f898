use Rattle.std.proofs.Common.{◌≡◌, ℕ, ◌+◌, ◌<◌, ◌≤◌, List, [], ◌∷◌, ◌++◌, length, get_or, sym, refl, ap, ◌∙◌, subst, append-nil, append_assoc, arith, length-append, Option, Some, None}
use Rattle.std.specs.Prelude.{map, unwrap_or}
use lib.Seq.{get_or-append_seam}
use Rattle.smack_base.specs.declared.rule_op.RuleOp.{RuleOp}
use Rattle.rules_spec.specs.declared.Batch.{Batch}
use Rattle.rule_word.specs.declared.head.Head.{Head}
use Rattle.rule_word.specs.Layout.{op_word, IsPackable, head_word, IsHead}
use Rattle.live_table.specs.Lists.{Has, here, there}
use Rattle.live_table.specs.Batches.{IsPacked, ArePacked, batch_words, journal_words, rows_of, Cut, OpsAt, first_batch, first_rows}
use Rattle.live_table.proofs.Lists.{words-append, has_right, long_map}

pub rows_cut : (front rest : List Batch) → rows_of (front ++ rest) ≡ rows_of front + rows_of rest
rows_cut front rest = ap length (words-append front rest) ∙ length-append (journal_words front) (journal_words rest)

pub batch_rows : (b : Batch) → length (batch_words b) ≡ 1 + length b.ops
batch_rows b = let l = long_map op_word b.ops in omega arith

pub rows_of_batch : (b : Batch) (bs : List Batch) → rows_of (b ∷ bs) ≡ 1 + length b.ops + rows_of bs
rows_of_batch b bs = let l = length-append (batch_words b) (journal_words bs) in let k = batch_rows b in omega arith

-- each batch has a row
pub length_rows : (bs : List Batch) → length bs ≤ rows_of bs
length_rows [] = omega arith
length_rows (b ∷ bs) = let h = length_rows bs in let k = rows_of_batch b bs in omega arith

pub cut_start : {journal done : List Batch} → done ≡ [] → Cut journal done journal 0
cut_start {journal} {done} none = record { is = ap (λ z. z ++ journal) (sym none); rows = ap rows_of (sym none) }

pub cut_within : {journal front rest : List Batch} {at : ℕ} → Cut journal front rest at
    → at + rows_of rest ≡ rows_of journal
cut_within {journal} {front} {rest} {at} c =
    let r = c.rows in let l = ap rows_of c.is ∙ rows_cut front rest in omega arith

-- the next cut is behind the batch
pub cut_next : {journal front : List Batch} {b : Batch} {rest : List Batch} {at : ℕ} → Cut journal front (b ∷ rest) at
    → Cut journal (front ++ b ∷ []) rest (at + (1 + length b.ops))
cut_next {journal} {front} {b} {rest} {at} c = record {
  is = c.is ∙ sym (append_assoc front (b ∷ []) rest);
  rows = let r = c.rows in let l = rows_cut front (b ∷ []) in let k = rows_of_batch b [] in omega arith;
}

-- a row parts a journal in one way
pub cut_one : (journal f r f' r' : List Batch) (at : ℕ) → Cut journal f r at → Cut journal f' r' at → r ≡ r'
cut_one journal f r f' r' at c d = fit f r f' r' (sym c.is ∙ d.is) (sym c.rows ∙ d.rows)
  where
    fit : (f r f' r' : List Batch) → f ++ r ≡ f' ++ r' → rows_of f ≡ rows_of f' → r ≡ r'
    fit [] r [] r' e n = e
    fit [] r (x ∷ f') r' e n = absurd (let k = rows_of_batch x f' in omega arith)
    fit (x ∷ f) r [] r' e n = absurd (let k = rows_of_batch x f in omega arith)
    fit (x ∷ f) r (y ∷ f') r' e n =
        let one : x ≡ y = cc in
        let others : f ++ r ≡ f' ++ r' = cc in
        let k = rows_of_batch x f in
        let l = rows_of_batch y f' in
        let same = ap (λ (z : Batch). length z.ops) one in
        fit f r f' r' others (omega arith)

-- what stands at a cut that is not the end
pub record Headed (journal front rest : List Batch) (at : ℕ) : Type 0 where
  pub batch : Batch
  pub more : List Batch
  pub is : rest ≡ batch ∷ more
  pub packed : IsPacked batch
  pub word : get_or (journal_words journal) at 0 ≡ head_word batch.task batch.seq (length batch.ops)
  pub ops : OpsAt (journal_words journal) (at + 1) batch.ops
  pub fits : at + 1 + length batch.ops ≤ rows_of journal

pub headed : (journal front rest : List Batch) (at : ℕ) → ArePacked journal → Cut journal front rest at
    → at < rows_of journal → Headed journal front rest at
headed journal front [] at packed c inside = absurd (let w = cut_within c in omega arith)
headed journal front (b ∷ rest) at packed c inside =
    let f : List ℕ = journal_words front in
    let all : journal_words journal ≡ f ++ (batch_words b ++ journal_words rest) = ap journal_words c.is
    ∙ words-append front (b ∷ rest) in
    let h : ℕ = head_word b.task b.seq (length b.ops) in
    let p = packed b (subst (Has b) (sym c.is) (has_right front here)) in record {
      batch = b;
      more = rest;
      is = refl;
      packed = p;
      word = (λ i. get_or (all i) (c.rows i) 0) ∙ get_or-append_seam f h (map op_word b.ops ++ journal_words rest) 0;
      ops = record {
        front = f ++ h ∷ [];
        rest = journal_words rest;
        is = all ∙ sym (append_assoc f (h ∷ []) (map op_word b.ops ++ journal_words rest));
        place = let r = c.rows in let l = length-append f (h ∷ []) in omega arith;
        packed = p.ops;
      };
      fits = let w = cut_within c in let k = rows_of_batch b rest in omega arith;
    }

-- the next write of some rows
pub record NextOp (words : List ℕ) (at : ℕ) (ops : List RuleOp) : Type 0 where
  pub op : RuleOp
  pub more : List RuleOp
  pub is : ops ≡ op ∷ more
  pub packed : IsPackable op
  pub word : get_or words at 0 ≡ op_word op
  pub rest : OpsAt words (at + 1) more
  pub inside : at < length words

pub next_op : (words : List ℕ) (at : ℕ) (ops : List RuleOp) → OpsAt words at ops → 0 < length ops → NextOp words at ops
next_op words at [] o some_ = absurd (omega arith)
next_op words at (x ∷ ops) o some_ =
    let f : List ℕ = o.front in record {
      op = x;
      more = ops;
      is = refl;
      packed = o.packed x here;
      word = (λ i. get_or (o.is i) (o.place i) 0) ∙ get_or-append_seam f (op_word x) (map op_word ops ++ o.rest) 0;
      rest = record {
        front = f ++ op_word x ∷ [];
        rest = o.rest;
        is = o.is ∙ sym (append_assoc f (op_word x ∷ []) (map op_word ops ++ o.rest));
        place = let r = o.place in let l = length-append f (op_word x ∷ []) in omega arith;
        packed = λ y h. o.packed y (there h);
      };
      inside = let r = o.place in
          let l = ap length o.is ∙ length-append f (op_word x ∷ (map op_word ops ++ o.rest)) in omega arith;
    }

-- i of the writes are read, and the rest stands in the rows that follow
pub record ReadTo (words : List ℕ) (at len i : ℕ) (done ops : List RuleOp) : Type 0 where
  pub rest : List RuleOp
  pub is : ops ≡ done ++ rest
  pub left : OpsAt words (at + i) rest
  pub long : i + length rest ≡ len

pub read_none : {words : List ℕ} {at len : ℕ} {done ops : List RuleOp} → OpsAt words at ops → len ≡ length ops
    → done ≡ [] → ReadTo words at len 0 done ops
read_none {words} {at} {len} {done} {ops} o l none = record {
  rest = ops;
  is = ap (λ z. z ++ ops) (sym none);
  left = subst (λ z. OpsAt words z ops) (let e : at ≡ at + 0 = omega arith in e) o;
  long = omega arith;
}

-- the write that is read next
pub record ReadsOn (words : List ℕ) (at len i : ℕ) (done ops : List RuleOp) : Type 0 where
  pub op : RuleOp
  pub packed : IsPackable op
  pub word : op_word op ≡ get_or words (at + i) 0
  pub inside : at + i < length words
  pub next : ReadTo words at len (i + 1) (done ++ op ∷ []) ops

pub reads_on : {words : List ℕ} {at len i : ℕ} {done ops : List RuleOp} → ReadTo words at len i done ops → i < len
    → ReadsOn words at len i done ops
reads_on {words} {at} {len} {i} {done} {ops} r l =
    let long = r.long in
    let n = next_op words (at + i) r.rest r.left (omega arith) in record {
      op = n.op;
      packed = n.packed;
      word = sym n.word;
      inside = n.inside;
      next = record {
        rest = n.more;
        is = r.is ∙ (ap (λ z. done ++ z) n.is ∙ sym (append_assoc done (n.op ∷ []) n.more));
        left = subst (λ z. OpsAt words z n.more) (let e : (at + i) + 1 ≡ at + (i + 1) = omega arith in e) n.rest;
        long = let k = ap length n.is in omega arith;
      };
    }

pub some_one : {A : Type 0} {x y : A} → Some x ≡ Some y → x ≡ y
some_one {A} {x} {y} e = ap (λ o. unwrap_or o x) e

-- what a word is unpacked to is the write that stands there
pub reads_it : {words : List ℕ} {at len i w : ℕ} {done after ops : List RuleOp} (o : Option RuleOp) (x : RuleOp)
    → ReadTo words at len i done ops → i < len
    → w ≡ get_or words (at + i) 0 → ((y : RuleOp) → IsPackable y → op_word y ≡ w → o ≡ Some y) → o ≡ Some x
    → after ≡ done ++ x ∷ []
    → ReadTo words at len (i + 1) after ops
reads_it {words} {at} {len} {i} {w} {done} {after} {ops} o x r l e tells is more =
    let n = reads_on r l in
    let same = some_one (sym (tells n.op n.packed (n.word ∙ sym e)) ∙ is) in
    subst (λ z. ReadTo words at len (i + 1) z ops) (ap (λ z. done ++ z ∷ []) same ∙ sym more) n.next

pub reads_some : {words : List ℕ} {at len i w : ℕ} {done ops : List RuleOp} (o : Option RuleOp)
    → ReadTo words at len i done ops → i < len
    → w ≡ get_or words (at + i) 0 → ((y : RuleOp) → IsPackable y → op_word y ≡ w → o ≡ Some y) → o ≡ None → ⊥
reads_some {words} {at} {len} {i} {w} {done} {ops} o r l e tells is =
    let n = reads_on r l in let same = sym (tells n.op n.packed (n.word ∙ sym e)) ∙ is in cc

pub read_all : {words : List ℕ} {at len i : ℕ} {done ops : List RuleOp} → ReadTo words at len i done ops → len ≤ i
    → done ≡ ops
read_all {words} {at} {len} {i} {done} {ops} r l = let long = r.long in
    sym (r.is ∙ (ap (λ z. done ++ z) (nothing r.rest (omega arith)) ∙ append-nil done))
  where
    nothing : (xs : List RuleOp) → length xs ≡ 0 → xs ≡ []
    nothing [] e = refl
    nothing (x ∷ xs) e = absurd (omega arith)

-- the head that a word is unpacked to is that of the batch which stands there
pub heads_it : {journal front rest : List Batch} {at w : ℕ} (h : Headed journal front rest at) (o : Option Head)
    (x : Head) → w ≡ get_or (journal_words journal) at 0
    → ((y : Head) → IsHead y.task y.seq y.len → head_word y.task y.seq y.len ≡ w → o ≡ Some y) → o ≡ Some x
    → x ≡ record { task = h.batch.task; seq = h.batch.seq; len = length h.batch.ops }
heads_it h o x e tells is =
    let y : Head = record { task = h.batch.task; seq = h.batch.seq; len = length h.batch.ops } in
    some_one (sym is ∙ tells y h.packed.head (sym h.word ∙ sym e))

pub heads_some : {journal front rest : List Batch} {at w : ℕ} (h : Headed journal front rest at) (o : Option Head)
    → w ≡ get_or (journal_words journal) at 0
    → ((y : Head) → IsHead y.task y.seq y.len → head_word y.task y.seq y.len ≡ w → o ≡ Some y) → o ≡ None → ⊥
heads_some h o e tells is =
    let y : Head = record { task = h.batch.task; seq = h.batch.seq; len = length h.batch.ops } in
    let same = sym (tells y h.packed.head (sym h.word ∙ sym e)) ∙ is in cc

pub first_rows_of : {journal front rest : List Batch} {at : ℕ} (h : Headed journal front rest at)
    → first_rows rest ≡ 1 + length h.batch.ops
first_rows_of h = ap first_rows h.is ∙ batch_rows h.batch

pub cut_end : {journal front rest : List Batch} {at : ℕ} → Cut journal front rest at → rows_of journal ≤ at → rest ≡ []
cut_end {journal} {front} {rest} {at} c e = none rest (let w = cut_within c in omega arith)
  where
    none : (l : List Batch) → rows_of l ≤ 0 → l ≡ []
    none [] e = refl
    none (b ∷ l) e = absurd (let k = rows_of_batch b l in omega arith)

-- a cut after its first batch was read
pub record ReadsBatch (journal after : List Batch) (at n : ℕ) : Type 0 where
  pub rest : List Batch
  pub cut : Cut journal after rest n
  pub later : at < n
  pub within : n ≤ rows_of journal

pub reads_batch : {journal front rest after : List Batch} {at n : ℕ} (o : Option Batch) (x : Batch)
    → Cut journal front rest at → o ≡ first_batch rest → o ≡ Some x
    → after ≡ front ++ x ∷ [] → n ≡ at + (1 + length x.ops) → ReadsBatch journal after at n
reads_batch {journal} {front} {rest} {after} {at} {n} o x c first is more behind = case rest c (sym is ∙ first)
  where
    case : (rest : List Batch) → Cut journal front rest at → Some x ≡ first_batch rest → ReadsBatch journal after at n
    case [] c e = absurd (let e' : ◌≡◌ {A = Option Batch} (Some x) None = e in cc)
    case (b ∷ rest) c e =
        let same : b ≡ x = sym (some_one e) in
        let next = cut_next (subst (λ z. Cut journal front (z ∷ rest) at) same c) in
        let cut = subst (λ (z : List Batch × ℕ). Cut journal z.0 rest z.1) (λ i. (sym more i, sym behind i)) next in
        record {
          rest = rest;
          cut = cut;
          later = omega arith;
          within = let w = cut_within cut in omega arith;
        }

pub reads_none : {journal front rest : List Batch} {at : ℕ} → Cut journal front rest at → None ≡ first_batch rest
    → front ≡ journal
reads_none {journal} {front} {rest} {at} c e = case rest c e
  where
    case : (rest : List Batch) → Cut journal front rest at → None ≡ first_batch rest → front ≡ journal
    case [] c e = sym (c.is ∙ append-nil front)
    case (b ∷ rest) c e = absurd (let e' : ◌≡◌ {A = Option Batch} None (Some b) = e in cc)
