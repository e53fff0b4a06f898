use Rattle.std.proofs.Common.{◌≡◌, ℕ, zero, suc, ◌+◌, ◌<◌, ◌≤◌, List, [], ◌∷◌, ◌++◌, length, take, get_or, sym, ap, ◌∙◌, append_assoc, append-nil, arith, length-append, false}
use Rattle.std.specs.Prelude.{map}
use Rattle.std.proofs.lemmas.List.{take_more, map-append, length-take, length-map}
use Rattle.smack_base.specs.declared.rule_op.RuleOp.{RuleOp}
use Rattle.rules_spec.specs.declared.Batch.{Batch}
use Rattle.rule_word.specs.Layout.{op_word, head_word}
use Rattle.live_table.specs.Batches.{batch_words, journal_words}
use Rattle.live_table.specs.Seats.{SeatValue}
use Rattle.live_table.specs.Lists.{Has, here, there}

pub has_at : {A : Type 0} (xs : List A) (i : ℕ) (d : A) → i < length xs → Has (get_or xs i d) xs
has_at [] i d l = absurd (omega arith)
has_at (x ∷ xs) zero d l = here
has_at (x ∷ xs) (suc i) d l = there (has_at xs i d (omega arith))

pub filled_more : (front : List ℕ) (ops : List RuleOp) (i : ℕ) (d : RuleOp) → i < length ops
    → (front ++ map op_word (take i ops)) ++ op_word (get_or ops i d) ∷ [] ≡ front ++ map op_word (take (i + 1) ops)
filled_more front ops i d l =
    append_assoc front (map op_word (take i ops)) (op_word (get_or ops i d) ∷ [])
    ∙ ap (λ z. front ++ z)
    (sym (ap (map op_word) (take_more ops i d l) ∙ map-append op_word (take i ops) (get_or ops i d ∷ [])))

pub filled_length : (front : List ℕ) (ops : List RuleOp) (i : ℕ) → i ≤ length ops
    → length (front ++ map op_word (take i ops)) ≡ length front + i
filled_length front ops i l =
    let a = length-append front (map op_word (take i ops)) in
    let b = length-map (take i ops) op_word in
    let c = length-take i ops in
    omega arith

module _ {E : Type 0} where
  -- a seat with these rows filled
  abbrev pub with_filled : SeatValue E → List ℕ → SeatValue E
  with_filled s rows = record s { view = record s.view { filled = rows } }

  -- a seat after one more row was filled
  pub fills_one : (s m n : SeatValue E) (front : List ℕ) (w : ℕ) → m ≡ with_filled s front → (n.table ≡ m.table)
      × (n.number ≡ m.number)
      → n.view ≡ record m.view { filled = m.view.filled ++ w ∷ [] } → n ≡ with_filled s (front ++ w ∷ [])
  fills_one s m n front w is same view =
      let all = view ∙ ap (λ (z : SeatValue E). record z.view { filled = z.view.filled ++ w ∷ [] }) is in
      λ i. record {
        table = (same.0 ∙ ap (λ (z : SeatValue E). z.table) is) i;
        number = (same.1 ∙ ap (λ (z : SeatValue E). z.number) is) i;
        view = all i;
      }

  -- a seat after its filled rows were published
  pub publishes_all : (s m n : SeatValue E) (rows : List ℕ) (b : Batch) → m ≡ with_filled s rows → (n.table ≡ m.table)
      × (n.number ≡ m.number)
      → n.view ≡ record m.view { journal = m.view.journal ++ b ∷ []; pen = false; filled = [] }
      → n ≡ record s { view = record s.view { journal = s.view.journal ++ b ∷ []; pen = false; filled = [] } }
  publishes_all s m n rows b is same view =
      let all = view
      ∙ ap (λ (z : SeatValue E). record z.view {
        journal = z.view.journal ++ b ∷ [];
        pen = false;
        filled = [];
      }) is in
      λ i. record {
        table = (same.0 ∙ ap (λ (z : SeatValue E). z.table) is) i;
        number = (same.1 ∙ ap (λ (z : SeatValue E). z.number) is) i;
        view = all i;
      }

-- the rows of a batch, as they are filled
pub batch_filled : (none : List ℕ) (items : List RuleOp) (b : Batch) (w len : ℕ) → none ≡ []
    → w ≡ head_word b.task b.seq len → len ≡ length b.ops → items ≡ b.ops
    → (none ++ w ∷ []) ++ map op_word items ≡ journal_words (b ∷ [])
batch_filled none items b w len e h l is =
    let word : w ≡ head_word b.task b.seq (length b.ops) = h ∙ ap (head_word b.task b.seq) l in
    (λ i. (e i ++ word i ∷ []) ++ map op_word (is i)) ∙ sym (append-nil (batch_words b))

pub all_one : (P : Batch → Type 0) (b : Batch) → P b → (x : Batch) → Has x (b ∷ []) → P x
all_one P b p x here = p
all_one P b p x (there h) = elim h [ ]
