use Rattle.std.specs.Prelude.{ℕ, List, Option, Some}

-- what is seen of a source or of a sink: its bytes, those left or those taken, where it tells them; its count of faults
pub record Seen : Type 0 where
  pub bytes : Option (List ℕ)
  pub faults : ℕ

-- what is seen of this one, by the meanings that its type has
abbrev pub seen : {T : Type 0} → (T → Option (List ℕ)) → (T → ℕ) → T → Seen
seen bytes faults it = record { bytes = bytes it; faults = faults it }

-- what is seen of one that has not failed, and tells these bytes or none
abbrev pub unfailed : Option (List ℕ) → Seen
unfailed bytes = record { bytes = bytes; faults = 0 }

-- what is seen of one that tells these bytes and never fails
abbrev pub calm : List ℕ → Seen
calm bytes = unfailed (Some bytes)
