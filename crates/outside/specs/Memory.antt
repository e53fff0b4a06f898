use Rattle.std.specs.Prelude.{ℕ, List}
use Rattle.outside.specs.Calls.{CallsState}

-- a calm sink: the bytes taken, and the most that a call takes
pub record CalmSinkState : Type 0 where
  pub taken : List ℕ
  pub most : ℕ

-- a source in memory: the bytes left, and its calls
pub record MemSourceState : Type 0 where
  pub left : List ℕ
  pub calls : CallsState

-- a sink in memory: the bytes taken, the most that a call takes, and its calls
pub record MemSinkState : Type 0 where
  pub taken : List ℕ
  pub most : ℕ
  pub calls : CallsState
