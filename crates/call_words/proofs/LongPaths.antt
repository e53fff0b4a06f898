use Rattle.std.proofs.Common.{◌≡◌, ◌<◌, ℕ, List, length, refl, false, None, Ok, Err}
use Rattle.std.specs.Prelude.{Result, is_ok}
use Rattle.std.specs.Result.{result_ok}
use Rattle.smack_base.specs.declared.path.PathFault.{PathFault}
use Rattle.smack_base.specs.Paths.{path_of}
use Rattle.smack_base.proofs.LongestPath.{too_long}

none_of : (r : Result (List (List ℕ)) PathFault) → false ≡ is_ok r → None ≡ result_ok r
none_of (Ok names) e = cc
none_of (Err f) e = refl

-- a word longer than 32 names of 64 bytes, each behind a slash, is no path
pub no_long_path : (word : List ℕ) → 2080 < length word → None ≡ result_ok (path_of word)
no_long_path word long = none_of (path_of word) (too_long word long)
