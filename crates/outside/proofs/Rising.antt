use Rattle.std.proofs.Common.{ℕ, ◌≤◌, inl, inr, arith}
use Rattle.std.proofs.lemmas.Bool.{cases_lt}
use Rattle.outside.specs.Faults.{Rose, last_count, after_fault}

-- one fault makes a count of 64 bits rise
pub after_fault_rises : (count : ℕ) → count ≤ last_count → Rose count (after_fault count)
after_fault_rises count within =
    elim (cases_lt count last_count) [ inl below ↦ inl (omega arith) | inr above ↦ inr (omega arith) ]

-- a count that never fell before it rose has risen
pub rose_since : (a b c : ℕ) → a ≤ b → Rose b c → Rose a c
rose_since a b c never_fell (inl above) = inl (omega arith)
rose_since a b c never_fell (inr last) = inr last

-- a count that never falls after it rose has risen
pub rose_still : (a b c : ℕ) → a ≤ b → Rose a b → b ≤ c → Rose a c
rose_still a b c never_fell (inl above) later = inl (omega arith)
rose_still a b c never_fell (inr last) later =
    elim (cases_lt last_count c) [ inl beyond ↦ inl (omega arith) | inr within ↦ inr (omega arith) ]

-- a count that is always 0 never rises
pub zero_never_rises : Rose 0 0 → ⊥
zero_never_rises (inl above) = omega arith
zero_never_rises (inr last) = omega arith
