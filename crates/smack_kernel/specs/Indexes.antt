use Rattle.std.specs.Prelude.{ℕ, List, take}
use Rattle.rules_spec.specs.declared.Batch.{Batch}
use Rattle.rule_fold.specs.Index.{IndexValue, StandsFor}
use Rattle.live_table.specs.Batches.{Cut, rows_of}

-- an index that has taken so many rows stands for a front of the journal, which ends behind these rows
pub record StandsAt (rules : IndexValue) (rows : ℕ) (journal : List Batch) : Type 0 where
  pub front : List Batch
  pub rest : List Batch
  pub cut : Cut journal front rest rows
  pub stands : StandsFor rules front

-- the rows of a version of a journal
abbrev pub version_rows : List Batch → ℕ → ℕ
version_rows journal n = rows_of (take n journal)
