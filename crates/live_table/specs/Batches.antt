use Rattle.std.specs.Prelude.{◌≡◌, ℕ, List, [], ◌∷◌, ◌++◌, Option, Some, None, length, map}
use Rattle.smack_base.specs.declared.rule_op.RuleOp.{RuleOp}
use Rattle.rules_spec.specs.declared.Batch.{Batch}
use Rattle.rule_word.specs.Layout.{op_word, IsPackable, head_word, IsHead}
use Rattle.live_table.specs.Lists.{Has, those_of}

-- a batch that rows can hold: its numbers have room in a head, and each write has a word
pub record IsPacked (b : Batch) : Type 0 where
  pub head : IsHead b.task b.seq (length b.ops)
  pub ops : (op : RuleOp) → Has op b.ops → IsPackable op

abbrev pub ArePacked : List Batch → Type 0
ArePacked bs = (b : Batch) → Has b bs → IsPacked b

-- the rows of a batch: its head, and one row for each write
abbrev pub batch_words : Batch → List ℕ
batch_words b = head_word b.task b.seq (length b.ops) ∷ map op_word b.ops

-- the rows of a journal
abbrev pub journal_words : List Batch → List ℕ
journal_words [] = []
journal_words (b ∷ bs) = batch_words b ++ journal_words bs

abbrev pub rows_of : List Batch → ℕ
rows_of bs = length (journal_words bs)

abbrev pub task_of_batch : Batch → ℕ
task_of_batch b = b.task

-- the batches of one task, in order
abbrev pub batches_by : ℕ → List Batch → List Batch
batches_by = those_of task_of_batch

-- the row `at` parts a journal between two batches, or it is the first row or the end
pub record Cut (journal front rest : List Batch) (at : ℕ) : Type 0 where
  pub is : journal ≡ front ++ rest
  pub rows : at ≡ rows_of front

abbrev pub first_batch : List Batch → Option Batch
first_batch [] = None
first_batch (b ∷ bs) = Some b

-- the rows of the first batch, if there is one
abbrev pub first_rows : List Batch → ℕ
first_rows [] = 0
first_rows (b ∷ bs) = length (batch_words b)

-- the rows from `at` on begin with the words of these writes
pub record OpsAt (words : List ℕ) (at : ℕ) (ops : List RuleOp) : Type 0 where
  pub front : List ℕ
  pub rest : List ℕ
  pub is : words ≡ front ++ (map op_word ops ++ rest)
  pub place : at ≡ length front
  pub packed : (op : RuleOp) → Has op ops → IsPackable op
