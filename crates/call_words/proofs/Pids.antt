use Rattle.std.proofs.Common.{◌≡◌, ℕ, Bool, true, false, cond, List, Some, None, refl}
use Rattle.smack_base.specs.declared.ids.Pid.{Pid}
use Rattle.text_spec.specs.Names.{place_of, has_name}

abbrev pub pid : ℕ → Pid
pid n = record { 0 = n }

found : (known : Bool) (n at : ℕ) → Some at ≡ cond known (Some n) None → Some (pid at) ≡ cond known (Some (pid n)) None
found true n at is = let same : at ≡ n = cc in rw same refl
found false n at is = cc

missing : (known : Bool) (n : ℕ) → None ≡ cond known (Some n) None → None ≡ cond known (Some (pid n)) None
missing true n is = cc
missing false n is = refl

-- the pid of a name is its place
pub pid_at : (names : List (List ℕ)) (word : List ℕ) (at : ℕ) → Some at ≡ cond (has_name names word) (Some (place_of names word)) None
    → Some (pid at) ≡ cond (has_name names word) (Some (pid (place_of names word))) None
pid_at names word at is = found (has_name names word) (place_of names word) at is

pub no_pid : (names : List (List ℕ)) (word : List ℕ) → None ≡ cond (has_name names word) (Some (place_of names word)) None
    → None ≡ cond (has_name names word) (Some (pid (place_of names word))) None
no_pid names word is = missing (has_name names word) (place_of names word) is
