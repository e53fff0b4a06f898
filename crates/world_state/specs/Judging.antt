use Rattle.std.specs.Prelude.{◌≡◌, false, List, [], ◌∷◌, ◌++◌, Option, Some, None}
use Rattle.rules_spec.specs.declared.Verdict.{Verdict}
use Rattle.world_spec.specs.declared.Part.{Part}
use Rattle.world_spec.specs.declared.Part.TheVariants as Part
use Rattle.world_spec.specs.declared.Reply.{Reply}
use Rattle.world_spec.specs.Steps.{Went}
use Rattle.world_state.specs.declared.judging.Judgement.{Judgement}

-- what a judgement says that the parts of a call came to
abbrev pub went_in : Judgement → Went
went_in j = record { checks = j.checks; stop = j.stop }

-- what parts came to, behind these checks
abbrev pub behind_checks : List Verdict → Went → Went
behind_checks checks w = record { checks = checks ++ w.checks; stop = w.stop }

-- these checks, and a reply where one ends the call, or else what comes behind them
abbrev pub ended_by : List Verdict → Option Reply → Went → Went
ended_by checks None w = behind_checks checks w
ended_by checks (Some reply) w = record { checks = checks; stop = Some reply }

-- no refusal of these parts applies
abbrev pub Passes : List Part → Type 0
Passes [] = Unit {0}
Passes (Part.Refuses holds why ∷ more) = (holds ≡ false) × Passes more
Passes (Part.Asks question ∷ more) = Passes more
