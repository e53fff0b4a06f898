use Rattle.std.specs.Prelude.{◌≡◌, ℕ, ◌+◌, ◌<◌, ◌≤◌, ◌⊎◌, min}

-- the last value of a count of faults, where it stays
abbrev pub last_count : ℕ
last_count = 18446744073709551615

-- the count rose: it is greater after than before, or it stands at its last value
abbrev pub Rose : ℕ → ℕ → Type 0
Rose before after = (before < after) ⊎ (after ≡ last_count)

-- Faults are told: the count never falls, a fault is answered only where the count rose, and it is answered wherever
-- the count is greater after than before.
pub record AreTold (before after : ℕ) (Answered : Type 0) : Type 0 where
  pub never_falls : before ≤ after
  pub cause : Answered → Rose before after
  pub told : before < after → Answered

-- the count after one more fault
abbrev pub after_fault : ℕ → ℕ
after_fault count = min (count + 1) last_count
