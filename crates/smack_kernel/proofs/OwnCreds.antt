-- What a step does to the credentials of its caller, and those of a child.
use Rattle.std.proofs.Common.{◌≡◌, ℕ, ◌<◌, List, [], ◌∷◌, ◌++◌, length, Option, Some, None, refl, sym, ◌∙◌}
use Rattle.std.specs.Option.{unwrap_or}
use Rattle.smack_base.specs.declared.ids.Pid.{Pid}
use Rattle.rules_spec.specs.declared.Verdict.{Verdict}
use Rattle.rules_spec.specs.Rulings.{Ruling}
use Rattle.rules_spec.specs.Creds.{Creds}
use Rattle.world_spec.specs.declared.Call.TheVariants as Call
use Rattle.world_spec.specs.declared.tasks.TaskCall.TheVariants as TaskCall
use Rattle.world_spec.specs.declared.Reply.{Reply}
use Rattle.world_spec.specs.Worlds.{World, TaskRow, creds_in, creds_of}
use Rattle.world_spec.specs.Steps.{asks, Effect, went, verdict_of, effect, stepped, step}
use Rattle.smack_world.specs.Stepping.{HandsOut}
use Rattle.smack_world.proofs.Renewing.{effect_keeps}

-- a task that takes over what a step hands out has the credentials of its number
pub taken_over : (before after : World) (task : ℕ) (creds : Creds) (next : Option Creds) → creds ≡ creds_of before task
    → HandsOut before after task next → unwrap_or next creds ≡ creds_of after task
taken_over before after task creds None is handed = is ∙ sym handed
taken_over before after task creds (Some next) is handed = handed

pub child_has : (rows : List TaskRow) (more : TaskRow) → creds_in (rows ++ more ∷ []) (length rows) ≡ Some more.creds
child_has [] more = refl
child_has (r ∷ rs) more = child_has rs more

stepped_keeps : (w : World) (task : ℕ) (e : Effect) (checks : List Verdict) (stop : Option Reply)
    → creds_of e.world task ≡ creds_of w task → creds_of (stepped w e checks stop).world task ≡ creds_of w task
stepped_keeps w task e checks None keeps = keeps
stepped_keeps w task e checks (Some reply) keeps = refl

-- a fork leaves the parent its credentials
pub fork_keeps : (w : World) (version : Ruling) (task : ℕ) (pid : Pid) → task < length w.tasks
    → creds_of (step w version task (Call.Task (TaskCall.Fork pid))).world task ≡ creds_of w task
fork_keeps w version task pid low =
    let call = Call.Task (TaskCall.Fork pid) in
    let through = went (verdict_of w version) (asks w version task call) in
    stepped_keeps w task (effect w version task call) through.checks through.stop (effect_keeps w version task call refl low)
