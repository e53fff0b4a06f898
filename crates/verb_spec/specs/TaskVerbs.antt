use Rattle.std.specs.Prelude.{ℕ, List, [], ◌∷◌, Option, Some, None, codes, length, map}
use Rattle.std.specs.List.{flat_map}
use Rattle.std.specs.Map.{lookup}
use Rattle.std.specs.Str.{bytes_eq}
use Rattle.smack_base.specs.declared.rule_op.Pair.{Pair}
use Rattle.text_spec.specs.Texts.{Placed}
use Rattle.world_spec.specs.declared.tasks.TaskVerb.{TaskVerb}
use Rattle.world_spec.specs.declared.tasks.TraceWay.TheVariants as TraceWay
use Rattle.world_spec.specs.declared.tasks.TaskCall.{TaskCall}
use Rattle.verb_spec.specs.declared.WordKind.{WordKind}
use Rattle.verb_spec.specs.declared.Value.{Value}
use Rattle.verb_spec.specs.Values.{Spoken, says}

-- the verbs of calls on tasks by name
abbrev pub task_verbs : List (List ℕ × TaskVerb)
task_verbs =
    (codes "relabel", TaskVerb.Relabel)
    ∷ (codes "drop", TaskVerb.Drop)
    ∷ (codes "kill", TaskVerb.Kill)
    ∷ (codes "take", TaskVerb.Take)
    ∷ (codes "trace", TaskVerb.Trace)
    ∷ []

abbrev pub task_verb_of : List ℕ → Option TaskVerb
task_verb_of name = lookup (bytes_eq name) task_verbs

-- the verbs of calls on tasks that scripts will have and do not have yet
abbrev pub unbuilt_task_verbs : List (List ℕ)
unbuilt_task_verbs = codes "exec" ∷ []

-- the kinds of the words behind a verb; a kind may be by the words themselves
abbrev pub task_kinds : TaskVerb → List Placed → List WordKind
task_kinds TaskVerb.Relabel ws = WordKind.Label ∷ []
task_kinds TaskVerb.Drop ws = WordKind.Capability ∷ []
task_kinds TaskVerb.Kill ws = WordKind.KnownTask ∷ WordKind.Signal ∷ []
task_kinds TaskVerb.Take ws = []
task_kinds TaskVerb.Trace ws = WordKind.TraceWay ∷ WordKind.KnownTask ∷ []

-- the call that a verb with these values makes
abbrev pub task_call_from : TaskVerb → List Value → Option TaskCall
task_call_from TaskVerb.Relabel (Value.Label l ∷ []) = Some (TaskCall.Relabel l)
task_call_from TaskVerb.Drop (Value.Capability cap ∷ []) = Some (TaskCall.DropCap cap)
task_call_from TaskVerb.Kill (Value.Task pid ∷ Value.Signal sig ∷ []) = Some (TaskCall.Kill pid sig)
task_call_from TaskVerb.Take [] = Some TaskCall.Take
task_call_from TaskVerb.Trace (Value.TraceWay TraceWay.Read ∷ Value.Task pid ∷ []) = Some (TaskCall.TraceRead pid)
task_call_from TaskVerb.Trace (Value.TraceWay TraceWay.Attach ∷ Value.Task pid ∷ []) = Some (TaskCall.TraceAttach pid)
task_call_from verb values = None

-- the values that tell a self rule
abbrev pub rule_values : Pair → List Value
rule_values p = Value.Label p.s ∷ Value.Label p.o ∷ Value.Modes p.m ∷ []

-- how a call on tasks is told; self rules and a relabel list come behind their number
abbrev pub task_spoken : TaskCall → Spoken
task_spoken (TaskCall.Fork pid) = says (codes "fork") (Value.Task pid ∷ [])
task_spoken TaskCall.Exit = says (codes "exit") []
task_spoken (TaskCall.Relabel l) = says (codes "relabel") (Value.Label l ∷ [])
task_spoken (TaskCall.DropCap cap) = says (codes "drop") (Value.Capability cap ∷ [])
task_spoken (TaskCall.SelfRules rules) = says (codes "self") (Value.Number (length rules) ∷ flat_map rule_values rules)
task_spoken (TaskCall.Relabels labels) = says (codes "relabels") (Value.Number (length labels) ∷ map (λ l. Value.Label l) labels)
task_spoken (TaskCall.Kill pid sig) = says (codes "kill") (Value.Task pid ∷ Value.Signal sig ∷ [])
task_spoken TaskCall.Take = says (codes "take") []
task_spoken (TaskCall.TraceRead pid) = says (codes "trace") (Value.TraceWay TraceWay.Read ∷ Value.Task pid ∷ [])
task_spoken (TaskCall.TraceAttach pid) = says (codes "trace") (Value.TraceWay TraceWay.Attach ∷ Value.Task pid ∷ [])
