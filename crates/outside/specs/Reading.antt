use Rattle.std.specs.Prelude.{◌≡◌, ℕ, ◌+◌, ◌-◌, ◌≤◌, List, Option, Some, None, length}

-- how many bytes were taken, where the source tells
abbrev pub taken_count : Option (List ℕ) → Option (List ℕ) → Option ℕ
taken_count None after = None
taken_count (Some before) None = None
taken_count (Some before) (Some after) = Some (length before - length after)

-- at most so many reads were made, where the source counts them
abbrev pub ReadsAtMost : Option ℕ → Option ℕ → ℕ → Type 0
ReadsAtMost None after most = Unit {0}
ReadsAtMost (Some before) after most = (reads : ℕ) × (after ≡ Some reads) × (reads ≤ before + most)
