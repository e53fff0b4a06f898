use Rattle.std.proofs.Common.{◌≡◌, take}
use Rattle.smack_base.specs.Modes.{modes_of}
use Rattle.smack_base.proofs.modes.Modes.of.Given as goal

abbrev pub invariant-loop-letter : goal.invariant-loop-letter
invariant-loop-letter l = l.modes ≡ modes_of (take l.letter-index l.bytes)
