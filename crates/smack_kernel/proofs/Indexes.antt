use Rattle.std.proofs.Common.{◌≡◌, ℕ, ◌+◌, ◌<◌, ◌≤◌, List, [], ◌∷◌, ◌++◌, length, take, sym, refl, ap, ◌∙◌, subst, append-nil, append_assoc, arith, length-append, Option, Some, None}
use Rattle.std.proofs.Math.Seq.{take-append_seam}
use Rattle.rules_spec.specs.declared.Batch.{Batch}
use Rattle.rule_fold.specs.Index.{IndexValue, StandsFor}
use Rattle.live_table.specs.Lists.{Begins}
use Rattle.live_table.specs.Batches.{Cut, rows_of, first_batch, first_rows}
use Rattle.live_table.proofs.Cuts.{rows_cut, rows_of_batch, batch_rows, length_rows, cut_within, cut_next, some_one}
use Rattle.smack_kernel.specs.Indexes.{StandsAt, version_rows}

pub number_of : {rules : IndexValue} {version : List Batch} → StandsFor rules version → rules.version ≡ length version
number_of s = ap (λ r. r.number) s.says

pub stands_first : {rules : IndexValue} {rows : ℕ} {journal : List Batch} → StandsFor rules [] → rows ≡ 0
    → StandsAt rules rows journal
stands_first {rules} {rows} {journal} s none = record {
  front = [];
  rest = journal;
  cut = record { is = refl; rows = none };
  stands = s;
}

-- the version after the next batch was taken
pub record Absorbs (rules : IndexValue) (rows : ℕ) (journal : List Batch) (after : IndexValue) (next : ℕ) : Type 0 where
  pub stands : StandsAt after next journal
  pub number : after.version ≡ rules.version + 1
  pub lacks : rules.version < length journal
  pub later : rows < next
  pub inside : next ≤ rows_of journal

-- an index that stands for all of a journal
pub record StandsForAll (rules : IndexValue) (rows : ℕ) (journal : List Batch) : Type 0 where
  pub stands : StandsAt rules rows journal
  pub whole : rules.version ≡ length journal

module _ {rules : IndexValue} {rows : ℕ} {journal : List Batch} where
  pub stands_longer : {longer : List Batch} → Begins longer journal → StandsAt rules rows journal
      → StandsAt rules rows longer
  stands_longer {longer} b s = record {
    front = s.front;
    rest = s.rest ++ b.rest;
    cut = record {
      is = b.is ∙ (ap (λ l. l ++ b.rest) s.cut.is ∙ append_assoc s.front s.rest b.rest);
      rows = s.cut.rows;
    };
    stands = s.stands;
  }

  pub stands_low : StandsAt rules rows journal → rules.version ≤ rows
  stands_low s =
      let n = number_of s.stands in
      let r = s.cut.rows in
      let l = length_rows s.front in
      omega arith

  pub stands_within : StandsAt rules rows journal → rules.version ≤ length journal
  stands_within s =
      let n = number_of s.stands in
      let l = ap length s.cut.is ∙ length-append s.front s.rest in
      omega arith

  -- the rows of an index are those of its version
  pub stands_rows : StandsAt rules rows journal → rows ≡ version_rows journal rules.version
  stands_rows s =
      let n = number_of s.stands in
      let front : take rules.version journal ≡ s.front = (λ i. take (n i) (s.cut.is i))
      ∙ take-append_seam s.front s.rest in
      s.cut.rows ∙ ap rows_of (sym front)

  no_rest : (s : StandsAt rules rows journal) → length journal ≤ rules.version → s.rest ≡ []
  no_rest s all = none s.rest
      (let n = number_of s.stands in let l = ap length s.cut.is ∙ length-append s.front s.rest in omega arith)
    where
      none : (l : List Batch) → length l ≤ 0 → l ≡ []
      none [] e = refl
      none (b ∷ l) e = absurd (omega arith)

  front_all : (s : StandsAt rules rows journal) → length journal ≤ rules.version → s.front ≡ journal
  front_all s all = sym (s.cut.is ∙ (ap (λ l. s.front ++ l) (no_rest s all) ∙ append-nil s.front))

  -- an index of the newest version answers as the whole journal
  pub stands_whole : StandsAt rules rows journal → rules.version ≡ length journal → StandsFor rules journal
  stands_whole s all = subst (StandsFor rules) (front_all s (omega arith)) s.stands

  pub rows_whole : StandsAt rules rows journal → rules.version ≡ length journal → rows ≡ rows_of journal
  rows_whole s all = s.cut.rows ∙ ap rows_of (front_all s (omega arith))

  -- where no batch is left the version is the newest
  pub stands_end : (s : StandsAt rules rows journal) → None ≡ first_batch s.rest → rules.version ≡ length journal
  stands_end s e = case s.rest s.cut e
    where
      case : (rest : List Batch) → Cut journal s.front rest rows → None ≡ first_batch rest → rules.version ≡ length journal
      case [] c e = number_of s.stands ∙ sym (ap length c.is ∙ ap length (append-nil s.front))
      case (b ∷ rest) c e = absurd (let e' : ◌≡◌ {A = Option Batch} None (Some b) = e in cc)

  -- while rows are left the version is not the newest
  pub stands_lacks : StandsAt rules rows journal → rows < rows_of journal → rules.version < length journal
  stands_lacks s left = case s.rest s.cut
    where
      case : (rest : List Batch) → Cut journal s.front rest rows → rules.version < length journal
      case [] c = absurd (let w = cut_within c in omega arith)
      case (b ∷ rest) c =
          let n = number_of s.stands in
          let l = ap length c.is ∙ length-append s.front (b ∷ rest) in
          omega arith

  pub absorbs : {after : IndexValue} {next : ℕ} (o : Option Batch) (b : Batch) (s : StandsAt rules rows journal)
      → o ≡ first_batch s.rest → o ≡ Some b
      → ((version : List Batch) → StandsFor rules version → StandsFor after (version ++ b ∷ []))
      → next ≡ rows + (1 + length b.ops) → Absorbs rules rows journal after next
  absorbs {after} {next} o b s first is takes more = case s.rest s.cut (sym is ∙ first)
    where
      case : (rest : List Batch) → Cut journal s.front rest rows → Some b ≡ first_batch rest
          → Absorbs rules rows journal after next
      case [] c e = absurd (let e' : ◌≡◌ {A = Option Batch} (Some b) None = e in cc)
      case (x ∷ rest) c e =
          let same : x ≡ b = sym (some_one e) in
          let cut = cut_next (subst (λ z. Cut journal s.front (z ∷ rest) rows) same c) in
          let after_it = takes s.front s.stands in
          let n = number_of s.stands in
          let m = number_of after_it in
          let l = length-append s.front (b ∷ []) in
          let j = ap length cut.is ∙ length-append (s.front ++ b ∷ []) rest in record {
            stands = record {
              front = s.front ++ b ∷ [];
              rest = rest;
              cut = subst (λ z. Cut journal (s.front ++ b ∷ []) rest z) (sym more) cut;
              stands = after_it;
            };
            number = omega arith;
            lacks = omega arith;
            later = omega arith;
            inside = let w = cut_within cut in omega arith;
          }

  pub first_rows_left : (s : StandsAt rules rows journal) → rows + first_rows s.rest ≤ rows_of journal
  first_rows_left s = case s.rest s.cut
    where
      case : (rest : List Batch) → Cut journal s.front rest rows → rows + first_rows rest ≤ rows_of journal
      case [] c = let w = cut_within c in omega arith
      case (b ∷ rest) c = let w = cut_within c in let k = rows_of_batch b rest in let l = batch_rows b in omega arith

  pub first_rows_of : (o : Option Batch) (b : Batch) (s : StandsAt rules rows journal) → o ≡ first_batch s.rest
      → o ≡ Some b → first_rows s.rest ≡ 1 + length b.ops
  first_rows_of o b s first is = case s.rest (sym is ∙ first)
    where
      case : (rest : List Batch) → Some b ≡ first_batch rest → first_rows rest ≡ 1 + length b.ops
      case [] e = absurd (let e' : ◌≡◌ {A = Option Batch} (Some b) None = e in cc)
      case (x ∷ rest) e = ap (λ (z : Batch). first_rows (z ∷ [])) (sym (some_one e)) ∙ batch_rows b

  -- an index of the newest version, after one batch more was taken
  pub stands_grown : {after : IndexValue} {next : ℕ} (b : Batch) → StandsAt rules rows journal
      → rules.version ≡ length journal
      → ((version : List Batch) → StandsFor rules version → StandsFor after (version ++ b ∷ []))
      → next ≡ rows + (1 + length b.ops)
      → StandsForAll after next (journal ++ b ∷ [])
  stands_grown {after} {next} b s all takes more =
      let grown = takes journal (stands_whole s all) in
      let w = rows_whole s all in
      let l = rows_cut journal (b ∷ []) in
      let k = rows_of_batch b [] in record {
        stands = record {
          front = journal ++ b ∷ [];
          rest = [];
          cut = record { is = sym (append-nil (journal ++ b ∷ [])); rows = omega arith };
          stands = grown;
        };
        whole = number_of grown;
      }
