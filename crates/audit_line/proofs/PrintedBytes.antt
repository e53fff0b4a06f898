use Rattle.std.proofs.Common.{◌≡◌, true, refl}
use Rattle.std.specs.List.{list_all}
use Rattle.smack_base.specs.Paths.{is_name_byte}
use Rattle.log_spec.specs.declared.Action.{Action}
use Rattle.log_spec.specs.declared.Action.TheVariants as Action
use Rattle.log_spec.specs.Audits.{action_text}

-- the bytes of every value of a line are bytes from ! to ~

pub of_action : (action : Action) → list_all is_name_byte (action_text action) ≡ true
of_action Action.Granted = refl
of_action Action.Denied = refl
