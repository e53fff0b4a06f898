use Rattle.std.specs.Prelude.{◌≡◌, ◌⊎◌, ◌+◌, ◌++◌, ◌∷◌, [], Bool, true, List, None, Result, Ok, Err}
use Rattle.std.specs.Bool.{OnFalse}
use Rattle.smack_base.specs.declared.ids.Pid.{Pid}
use Rattle.world_spec.specs.declared.Call.TheVariants as Call
use Rattle.world_spec.specs.declared.tasks.TaskCall.TheVariants as TaskCall
use Rattle.world_spec.specs.declared.Reply.TheVariants as Reply
use Rattle.script_spec.specs.Lines.{ScriptLine}
use Rattle.record_spec.specs.declared.AskedLine.{AskedLine}
use Rattle.record_spec.specs.declared.AskedWhat.TheVariants as AskedWhat
use Rattle.world_spec.specs.Replies.{child_of}
use Rattle.smack_kernel.specs.Tasks.{TaskValue, Stays, Calls, Starts, LoadsOnce}
use Rattle.smack_kernel.specs.declared.turns.Entered.{Entered}
use Rattle.runs_spec.specs.Scripts.{Scripted}
use Rattle.script_run.specs.declared.stage.Stage.{Stage}
use Rattle.script_run.specs.declared.making.Stop.{Stop}

-- the script of a run: the labels of its kernel, the names of its tasks, and its calls as workers are told them
abbrev pub stage_script : {G S : Type 0} → (S → List ScriptLine) → Stage G S → Scripted
stage_script told stage = record { labels = stage.kernel.now.labels; names = stage.names.now; lines = told stage.script.now }

-- what came of a fork: an entry and the child that it made, and no row was loaded twice; or no child, with an entry or
-- with none
abbrev pub IsForkRun : TaskValue → TaskValue → Pid → Result TaskValue Stop → Type 0
IsForkRun v w pid (Ok c) = (r : Entered) × Calls v w (Call.Task (TaskCall.Fork pid)) r × (r.reply ≡ Reply.Child c.number) × Starts w c c.number
    × LoadsOnce v w
IsForkRun v w pid (Err stop) = Stays v w ⊎ ((r : Entered) × Calls v w (Call.Task (TaskCall.Fork pid)) r × (child_of r.reply ≡ None))

-- what came of the line that waits for a child: it was counted and, where nothing stopped, is one line more; or nothing was done
abbrev pub IsWaitRun : TaskValue → TaskValue → Pid → Bool → List AskedLine → List AskedLine → Type 0
IsWaitRun v w child stop asked after = ((stop ≡ true) × (w ≡ v)) ⊎ ((w ≡ record v { made = v.made + 1 })
    × OnFalse stop (after ≡ asked ++ record { task = v.number; seq = v.made + 1; version = v.version; what = AskedWhat.Wait child } ∷ []))
