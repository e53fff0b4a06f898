use Rattle.std.specs.Prelude.{◌≡◌, ℕ, ◌+◌, length}
use Rattle.rules_spec.specs.Rulings.{Ruling}
use Rattle.world_spec.specs.declared.Call.{Call}
use Rattle.smack_world.specs.Stepping.{WorldValue, IsEntered, IsStepped, most_entries}
use Rattle.smack_world.specs.declared.world.Stepped.TheVariants as Stepped
use Rattle.smack_kernel.specs.declared.turns.Turned.{Turned}
use Rattle.smack_kernel.specs.declared.turns.Turned.TheVariants as Turned
use Rattle.smack_kernel.specs.Tasks.{TaskValue, Stays, Calls}

-- what came of a call on the world in a version
abbrev pub IsMade : WorldValue → WorldValue → Ruling → ℕ → ℕ → Call → Turned → Type 0
IsMade m m' version task seq call (Turned.Entry r) =
    IsEntered m m' version task seq call r.place r.checks r.reply × (r.version ≡ version.number)
IsMade m m' version task seq call (Turned.TrailFull back) = IsStepped m m' version task seq call (Stepped.TrailFull back)

-- what came of a call in a turn, which is not counted yet
abbrev pub IsTurned : TaskValue → TaskValue → Call → Turned → Type 0
IsTurned v w call (Turned.Entry r) = Calls v (record w { made = v.made + 1 }) call r
IsTurned v w call (Turned.TrailFull back) = Stays v w × (back ≡ call) × (length w.history ≡ most_entries)
