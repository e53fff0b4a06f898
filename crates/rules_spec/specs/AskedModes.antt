use Rattle.std.specs.Prelude.{true}
use Rattle.smack_base.specs.declared.modes.Modes.{Modes}
use Rattle.smack_base.specs.Modes.{no_modes}

-- the sets of modes that questions ask for
abbrev pub read : Modes
read = record no_modes { read = true }

abbrev pub write : Modes
write = record no_modes { write = true }

abbrev pub execute : Modes
execute = record no_modes { execute = true }

abbrev pub read_write : Modes
read_write = record no_modes { read = true; write = true }
