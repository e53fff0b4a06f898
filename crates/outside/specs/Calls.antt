use Rattle.std.specs.Prelude.{◌==◌, ℕ, ◌+◌, ◌&&◌, Bool, List, min, nat_lt, if◌then◌else◌}
use Rattle.std.specs.List.{list_any}
use Rattle.outside.specs.Faults.{after_fault}

-- the number of the last call that has one
abbrev pub last_number : ℕ
last_number = 4294967295

-- calls numbered from 1: how many were made, up to the last number; which numbers fail; the count of faults
pub record CallsState : Type 0 where
  pub made : ℕ
  pub fails : List ℕ
  pub faults : ℕ

-- whether the next call fails: it has a number, and the number is listed
abbrev pub next_fails : CallsState → Bool
next_fails calls = nat_lt calls.made last_number && list_any (λ number. number == calls.made + 1) calls.fails

-- the calls after one more
abbrev pub after_call : CallsState → CallsState
after_call calls = record {
  made = min (calls.made + 1) last_number;
  fails = calls.fails;
  faults = if next_fails calls then after_fault calls.faults else calls.faults;
}
