-- Lists that begin with others, members, and the lists of one number.
use Rattle.std.proofs.Common.{◌≡◌, ℕ, zero, suc, ◌+◌, ◌≤◌, ◌≢◌, ◌⊎◌, ◌==◌, true, false, if◌then◌else◌, List, [], ◌∷◌, ◌++◌, length, set, sym, refl, ap, ◌∙◌, subst, inl, inr, ⊎_elim, append_assoc, append-nil, arith, length-append, eq-eqb, ne_eqb}
use mathlib.Core.Option.{some, some-injective, some-ne-none}
use mathlib.Core.Logic.{dite}
use native.Mathlib.Decide.{ℕ_discrete}
use lib.ListN.{get_elem?}
use Rattle.atomic_table.proofs.Lists.{at_set, at_snoc, set_else, at_longer}
use Rattle.rules_spec.specs.declared.Batch.{Batch}
use Rattle.live_table.specs.Lists.{Begins, Has, here, there, those_of}
use Rattle.std.specs.Prelude.{map, unwrap_or}
use Rattle.smack_base.specs.declared.rule_op.RuleOp.{RuleOp}
use Rattle.rule_word.specs.Layout.{op_word, IsPackable, head_word}
use Rattle.rule_word.specs.Fields.{task_in, seq_in, len_in}
use Rattle.rule_word.proofs.Words.{op_one, head_back}
use Rattle.live_table.specs.Batches.{ArePacked, journal_words, rows_of, batch_words}

module _ {A : Type 0} where
  pub begins_self : (xs : List A) → Begins xs xs
  begins_self xs = record { rest = []; is = sym (append-nil xs) }

  pub begins_nil : (xs : List A) → Begins xs []
  begins_nil xs = record { rest = xs; is = refl }

  pub begins_more : {xs seen : List A} (more : List A) → Begins xs seen → Begins (xs ++ more) seen
  begins_more {xs} {seen} more b = record {
    rest = b.rest ++ more;
    is = ap (λ (l : List A). l ++ more) b.is ∙ append_assoc seen b.rest more;
  }

  pub begins_trans : {xs ys zs : List A} → Begins xs ys → Begins ys zs → Begins xs zs
  begins_trans {xs} {ys} {zs} a b = record {
    rest = b.rest ++ a.rest;
    is = a.is ∙ (ap (λ (l : List A). l ++ a.rest) b.is ∙ append_assoc zs b.rest a.rest);
  }

  pub begins_length : {xs ys : List A} → Begins xs ys → length ys ≤ length xs
  begins_length {xs} {ys} b = omega (arith, ap length b.is, length-append ys b.rest)

  -- of two beginnings of one list, the shorter begins the longer
  pub begins_both : (xs ys zs : List A) → Begins xs ys → Begins xs zs → length zs ≤ length ys → Begins ys zs
  begins_both xs ys zs a b le = fit ys zs a.rest b.rest (sym a.is ∙ b.is) le where
    fit : (ys zs r q : List A) → ys ++ r ≡ zs ++ q → length zs ≤ length ys → Begins ys zs
    fit ys [] r q e le = begins_nil ys
    fit [] (z ∷ zs) r q e le = absurd (omega arith)
    fit (y ∷ ys) (z ∷ zs) r q e le =
        let same : y ≡ z = cc in
        let more : ys ++ r ≡ zs ++ q = cc in
        let b = fit ys zs r q more (omega arith) in record { rest = b.rest; is = λ i. same i ∷ b.is i }

  pub begins_whole : (xs ys : List A) → Begins xs ys → length xs ≤ length ys → xs ≡ ys
  begins_whole xs ys b le =
      let e : b.rest ≡ [] = none b.rest (let l = length-append ys b.rest in let m = ap length b.is in omega arith) in
      b.is ∙ (ap (λ (l : List A). ys ++ l) e ∙ append-nil ys) where
        none : (l : List A) → length l ≡ 0 → l ≡ []
        none [] e = refl
        none (x ∷ l) e = absurd (omega arith)

  pub has_left : {x : A} {xs : List A} (ys : List A) → Has x xs → Has x (xs ++ ys)
  has_left ys here = here
  has_left ys (there h) = there (has_left ys h)

  pub has_right : {x : A} (xs : List A) {ys : List A} → Has x ys → Has x (xs ++ ys)
  has_right [] h = h
  has_right (y ∷ xs) h = there (has_right xs h)

  pub has_either : {x : A} (xs ys : List A) → Has x (xs ++ ys) → Has x xs ⊎ Has x ys
  has_either [] ys h = inr h
  has_either (y ∷ xs) ys here = inl here
  has_either (y ∷ xs) ys (there h) = ⊎_elim (λ a. inl (there a)) (λ b. inr b) (has_either xs ys h)

  module _ (number : A → ℕ) (k : ℕ) where
    pub those-append : (xs ys : List A) → those_of number k (xs ++ ys) ≡ those_of number k xs ++ those_of number k ys
    those-append [] ys = refl
    those-append (x ∷ xs) ys =
        let e = those-append xs ys in
        elim (number x == k) as
        (λ b. (if b then x ∷ those_of number k (xs ++ ys) else those_of number k (xs ++ ys)) ≡
        (if b then x ∷ those_of number k xs else those_of number k xs) ++ those_of number k ys)
        [ true ↦ ap (λ (l : List A). x ∷ l) e | false ↦ e ]

    pub those_none : (xs : List A) → ((x : A) → Has x xs → number x ≢ k) → those_of number k xs ≡ []
    those_none [] n = refl
    those_none (x ∷ xs) n = rw (ne_eqb (number x) k (n x here)) (those_none xs (λ y h. n y (there h)))

    pub those_all : (xs : List A) → ((x : A) → Has x xs → number x ≡ k) → those_of number k xs ≡ xs
    those_all [] n = refl
    those_all (x ∷ xs) n = rw (eq-eqb (number x) k (n x here))
        (ap (λ (l : List A). x ∷ l) (those_all xs (λ y h. n y (there h))))

pub words-append : (xs ys : List Batch) → journal_words (xs ++ ys) ≡ journal_words xs ++ journal_words ys
words-append [] ys = refl
words-append (b ∷ xs) ys = ap (λ (l : List ℕ). batch_words b ++ l) (words-append xs ys)
    ∙ sym (append_assoc (batch_words b) (journal_words xs) (journal_words ys))

pub words_begin : {xs ys : List Batch} → Begins xs ys → Begins (journal_words xs) (journal_words ys)
words_begin {xs} {ys} b = record { rest = journal_words b.rest; is = ap journal_words b.is ∙ words-append ys b.rest }

pub rows_begin : {xs ys : List Batch} → Begins xs ys → rows_of ys ≤ rows_of xs
rows_begin b = begins_length (words_begin b)

module _ {V : Type 0} where
  -- a fact about each view, after one has changed
  pub each_set : (F : ℕ → V → Type 0) (vs : List V) (me : ℕ) (w : V) → F me w
      → ((j : ℕ) (d : V) → j ≢ me → get_elem? vs j ≡ some d → F j d)
      → (j : ℕ) (d : V) → get_elem? (set vs me w) j ≡ some d → F j d
  each_set F vs me w mine others j d e = ⊎_elim
      (λ (t : (j ≡ me) × (w ≡ d)). subst (λ (x : ℕ × V). F x.0 x.1) (λ i. (sym t.0 i, t.1 i)) mine)
      (λ (t : (j ≢ me) × (get_elem? vs j ≡ some d)). others j d t.0 t.1) (at_set vs me j w d e)

  pub each_snoc : (F : ℕ → V → Type 0) (vs : List V) (w : V) → ((j : ℕ) → F j w)
      → ((j : ℕ) (d : V) → get_elem? vs j ≡ some d → F j d)
      → (j : ℕ) (d : V) → get_elem? (vs ++ w ∷ []) j ≡ some d → F j d
  each_snoc F vs w new old j d e = ⊎_elim (old j d) (λ (t : w ≡ d). subst (F j) t (new j)) (at_snoc vs w d j e)

  pub at_same : (vs : List V) (me : ℕ) (v w : V) → get_elem? vs me ≡ some v → get_elem? (set vs me w) me ≡ some w
  at_same [] me v w e = absurd (some-ne-none v (sym e))
  at_same (x ∷ vs) zero v w e = refl
  at_same (x ∷ vs) (suc me) v w e = at_same vs me v w e

  -- some view at j, after that of `me` has changed: it is still there, or it was that one
  pub there_set : (P : V → Type 0) (vs : List V) (me j : ℕ) (v w : V) → get_elem? vs me ≡ some v → (P v → P w)
      → (d : V) × (get_elem? vs j ≡ some d) × P d → (d : V) × (get_elem? (set vs me w) j ≡ some d) × P d
  there_set P vs me j v w at keep t = dite (ℕ_discrete j me)
      (λ e. let same : v ≡ t.0 = some-injective v t.0 (sym at ∙ (ap (get_elem? vs) (sym e) ∙ t.1)) in
      (w, ap (get_elem? (set vs me w)) e ∙ at_same vs me v w at, keep (subst P (sym same) t.2)))
      (λ ne. (t.0, set_else vs me j w ne ∙ t.1, t.2))

  pub there_snoc : (P : V → Type 0) (vs : List V) (j : ℕ) (w : V) → (d : V) × (get_elem? vs j ≡ some d) × P d → (d : V)
      × (get_elem? (vs ++ w ∷ []) j ≡ some d) × P d
  there_snoc P vs j w t = (t.0, at_longer vs (w ∷ []) j t.0 t.1, t.2)

pub rows-append : (xs ys : List Batch) → rows_of (xs ++ ys) ≡ rows_of xs + length (journal_words ys)
rows-append xs ys = ap length (words-append xs ys) ∙ length-append (journal_words xs) (journal_words ys)

cut_same : (a b c d : List ℕ) → a ++ c ≡ b ++ d → length a ≡ length b → (a ≡ b) × (c ≡ d)
cut_same [] [] c d e l = (refl, e)
cut_same [] (y ∷ b) c d e l = absurd (omega arith)
cut_same (x ∷ a) [] c d e l = absurd (omega arith)
cut_same (x ∷ a) (y ∷ b) c d e l =
    let first : x ≡ y = cc in
    let others : a ++ c ≡ b ++ d = cc in let t = cut_same a b c d others (omega arith) in (λ i. first i ∷ t.0 i, t.1)

module _ {A B : Type 0} (f : A → B) where
  pub long_map : (xs : List A) → length (map f xs) ≡ length xs
  long_map [] = refl
  long_map (x ∷ xs) = ap suc (long_map xs)

-- writes with the same words are the same
same_ops : (xs ys : List RuleOp) → ((x : RuleOp) → Has x xs → IsPackable x) → ((y : RuleOp) → Has y ys → IsPackable y)
    → map op_word xs ≡ map op_word ys → xs ≡ ys
same_ops [] [] p q e = refl
same_ops [] (y ∷ ys) p q e = absurd (let e' : ◌≡◌ {A = List ℕ} [] (op_word y ∷ map op_word ys) = e in cc)
same_ops (x ∷ xs) [] p q e = absurd (let e' : ◌≡◌ {A = List ℕ} (op_word x ∷ map op_word xs) [] = e in cc)
same_ops (x ∷ xs) (y ∷ ys) p q e = let e' : op_word x ∷ map op_word xs ≡ op_word y ∷ map op_word ys = e in
    let first : op_word x ≡ op_word y = cc in let others : map op_word xs ≡ map op_word ys = cc in
    let one : x ≡ y = ap (λ o. unwrap_or o x) (op_one x y (p x here) (q y here) first) in
    let rest = same_ops xs ys (λ z h. p z (there h)) (λ z h. q z (there h)) others in λ i. one i ∷ rest i

abbrev head_of : Batch → ℕ
head_of b = head_word b.task b.seq (length b.ops)

-- the words tell the batches
pub one_words : (xs ys : List Batch) → ArePacked xs → ArePacked ys → journal_words xs ≡ journal_words ys → xs ≡ ys
one_words [] [] s t e = refl
one_words [] (y ∷ ys) s t e = absurd
    (let e' : ◌≡◌ {A = List ℕ} [] (head_of y ∷ (map op_word y.ops ++ journal_words ys)) = e in cc)
one_words (x ∷ xs) [] s t e = absurd
    (let e' : ◌≡◌ {A = List ℕ} (head_of x ∷ (map op_word x.ops ++ journal_words xs)) [] = e in cc)
one_words (x ∷ xs) (y ∷ ys) s t e =
    let a : List ℕ = map op_word x.ops in
    let b : List ℕ = map op_word y.ops in
    let e' : head_of x ∷ (a ++ journal_words xs) ≡ head_of y ∷ (b ++ journal_words ys) = e in
    let first : head_of x ≡ head_of y = cc in
    let others : a ++ journal_words xs ≡ b ++ journal_words ys = cc in
    let p = s x here in
    let q = t y here in
    let f = head_back x.task x.seq (length x.ops) p.head in
    let g = head_back y.task y.seq (length y.ops) q.head in
    let task : x.task ≡ y.task = sym f.0 ∙ (ap task_in first ∙ g.0) in
    let seq : x.seq ≡ y.seq = sym f.1 ∙ (ap seq_in first ∙ g.1) in
    let len : length x.ops ≡ length y.ops = sym f.2 ∙ (ap len_in first ∙ g.2) in
    let both = cut_same a b (journal_words xs) (journal_words ys) others
    (long_map op_word x.ops ∙ (len ∙ sym (long_map op_word y.ops))) in
    let ops = same_ops x.ops y.ops p.ops q.ops both.0 in
    let rest = one_words xs ys (λ z h. s z (there h)) (λ z h. t z (there h)) both.1 in
    λ i. record { task = task i; seq = seq i; ops = ops i } ∷ rest i
