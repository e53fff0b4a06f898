use Rattle.std.proofs.Common.{◌≡◌, ◌+◌, ℕ, List, [], ◌∷◌, length, arith}
use Rattle.std.proofs.lemmas.Grind.{common_steps}
use Rattle.world_spec.specs.declared.FileRow.{FileRow}
use Rattle.world_spec.specs.Worlds.{with_file}

-- a file that comes to stand is one more
pub one_more_file : (files : List FileRow) (f : FileRow) → length (with_file files f) ≡ length files + 1
one_more_file files f = grind (arith, common_steps)
