use Rattle.std.proofs.Common.{◌≡◌, take, drop}
use Rattle.std.specs.List.{position_from}
use Rattle.smack_base.specs.Modes.{modes_of, bad_letter}
use Rattle.smack_base.proofs.ModeLetters.{is_bad}
use Rattle.smack_base.proofs.modes.Modes.read.Given as goal

abbrev pub invariant-loop-at : goal.invariant-loop-at
invariant-loop-at l = record {
  letters : l.modes ≡ modes_of (take l.at l.bytes);
  bad : position_from is_bad l.at (drop l.at l.bytes) ≡ bad_letter l.bytes;
}
