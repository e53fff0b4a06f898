use Rattle.std.specs.Prelude.{ℕ, ◌-◌, List, [], ◌∷◌, fold, length, slice_index_or, nat_lt, if◌then◌else◌}
use Rattle.rules_spec.specs.declared.Batch.{Batch}
use Rattle.rules_spec.specs.Versions.{after_logging}

-- the logging modes of a version with this one, and of those that more batches make
abbrev pub modes_from : ℕ → List Batch → List ℕ
modes_from mode [] = mode ∷ []
modes_from mode (b ∷ bs) = mode ∷ modes_from (fold after_logging mode b.ops) bs

-- the mode of a version, or of the last
abbrev pub mode_in : List ℕ → ℕ → ℕ
mode_in modes version = if nat_lt version (length modes) then slice_index_or modes version 0 else slice_index_or modes (length modes - 1) 0
