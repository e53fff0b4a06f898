use Rattle.std.proofs.Common.{refl}
use Rattle.log_spec.specs.Numerals.{numeral}
use Rattle.world_spec.specs.Steps.{verdict_of}
use Rattle.replay_laws.specs.Rows.{WorkedScripts}

-- each is computed from the definitions
pub worked_scripts : WorkedScripts
unfolding numeral verdict_of
worked_scripts = record {
  question = refl;
  empty = refl;
  star = refl;
  hat = refl;
  floor = refl;
  letters = refl;
  bad_line = refl;
  bounds = refl;
  changes = refl;
  onlycap = refl;
  calls = refl;
  logging = refl;
  child = refl;
  trace = refl;
  relabels = refl;
  self_rule = refl;
  waits = refl;
  signals = refl;
}
