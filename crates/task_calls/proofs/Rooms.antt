use Rattle.std.proofs.Common.{◌≡◌, ◌≤◌, ◌<◌, ℕ, List, [], ◌∷◌, Option, Some, None, length, true, false, Bool, not, refl}
use Rattle.std.proofs.lemmas.Bool.{ltb-false, leb-false}
use Rattle.smack_base.specs.declared.ids.LabelId.{LabelId}
use Rattle.smack_base.specs.declared.ids.Pid.{Pid}
use Rattle.smack_base.specs.declared.rule_op.Pair.{Pair}
use Rattle.rules_spec.specs.Rulings.{Ruling}
use Rattle.rules_spec.specs.Creds.{Creds, with_self_rules, most_self_rules, most_relabels}
use Rattle.rules_spec.specs.AskedModes.{write}
use Rattle.world_spec.specs.declared.Part.TheVariants as Part
use Rattle.world_spec.specs.declared.Why.TheVariants as Why
use Rattle.world_spec.specs.declared.tasks.TaskCall.TheVariants as TaskCall
use Rattle.world_spec.specs.Signals.{is_signal}
use Rattle.world_spec.specs.Worlds.{World, live_task, creds_of, most_tasks}
use Rattle.world_spec.specs.Questions.{asks_for, if_found}
use Rattle.world_spec.specs.TaskCalls.{task_asks}
use Rattle.world_state.specs.Judging.{Passes}

-- where a fork is not refused, there is room for a task
pub room_of_fork : (w : World) (version : Ruling) (task : ℕ) (c : Creds) (pid : Pid) → Passes (task_asks w version task c (TaskCall.Fork pid))
    → length w.tasks < most_tasks
room_of_fork w version task c pid p = leb-false most_tasks (length w.tasks) p.1.0

pub room_of_self_rules : (w : World) (version : Ruling) (task : ℕ) (c : Creds) (rules : List Pair) → Passes (task_asks w version task c (TaskCall.SelfRules rules))
    → length (with_self_rules c.self_rules rules) ≤ most_self_rules
room_of_self_rules w version task c rules p = ltb-false most_self_rules (length (with_self_rules c.self_rules rules)) p.0

pub room_of_relabels : (w : World) (version : Ruling) (task : ℕ) (c : Creds) (labels : List LabelId) → Passes (task_asks w version task c (TaskCall.Relabels labels))
    → length labels ≤ most_relabels
room_of_relabels w version task c labels p = ltb-false most_relabels (length labels) p.1.0

not_false : (b : Bool) → not b ≡ false → b ≡ true
not_false true is = refl
not_false false is = cc

-- where a signal is not refused, it is one
pub range_of_kill : (w : World) (version : Ruling) (task : ℕ) (c : Creds) (pid : Pid) (sig : ℕ) → Passes (task_asks w version task c (TaskCall.Kill pid sig))
    → is_signal sig ≡ true
range_of_kill w version task c pid sig p = by (live_task w.tasks pid) p
  where
    by : (n : Option ℕ)
        → Passes (if_found n Why.NoSuchTask (λ k. asks_for task c write (creds_of w k).label ∷ Part.Refuses (not (is_signal sig)) Why.Range ∷ []))
        → is_signal sig ≡ true
    by None p = cc p.0
    by (Some k) p = not_false (is_signal sig) p.0
