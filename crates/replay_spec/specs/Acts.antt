use Rattle.std.specs.Prelude.{ℕ, List, Option, Some, None}
use Rattle.text_spec.specs.Names.{id_of}
use Rattle.file_spec.specs.Files.{compiled}
use Rattle.verb_spec.specs.declared.Verb.{Verb}
use Rattle.script_spec.specs.Lines.{ScriptLine, word_in, verb_in, words_behind}
use Rattle.world_spec.specs.declared.tasks.TaskCall.TheVariants as TaskCall
use Rattle.world_spec.specs.declared.Call.{Call}
use Rattle.replay_spec.specs.declared.Act.{Act}
use Rattle.verb_spec.specs.Values.{pid_in, modes_in}
use Rattle.verb_spec.specs.Verbs.{made_call}
use Rattle.replay_spec.specs.Calls.{of_one, of_three, file_call}

abbrev pub act_by : List (List ℕ) → List (List ℕ) → ScriptLine → Option Verb → Option Act
act_by labels names l None = None
act_by labels names l (Some Verb.Write) = Some Act.Write
act_by labels names l (Some Verb.Ask) =
    of_three (id_of labels (word_in 1 l)) (id_of labels (word_in 2 l)) (modes_in (word_in 3 l)) (λ s o m. Act.Ask s o m)
act_by labels names l (Some Verb.Wait) = of_one (pid_in names (word_in 1 l)) (λ pid. Act.Wait pid)
act_by labels names l (Some Verb.Fork) = of_one (pid_in names (word_in 1 l)) (λ pid. Act.Fork pid)
act_by labels names l (Some Verb.Exit) = Some (Act.Make (Call.Task TaskCall.Exit))
act_by labels names l (Some (Verb.Call verb)) = of_one (made_call labels names verb (words_behind l)) (λ call. Act.Make call)

-- What a line does, by the labels and the names of the tasks: nothing where it has no verb, or words that are not of
-- their kinds or not known; no script has such a line.
abbrev pub act_of_line : List (List ℕ) → List (List ℕ) → ScriptLine → Option Act
act_of_line labels names l = act_by labels names l (verb_in l)

-- the object call of what a line does, where there is one; a write makes one where its text is one
abbrev pub call_by : List (List ℕ) → ScriptLine → Option Act → Option Call
call_by labels l None = None
call_by labels l (Some Act.Write) = of_one (file_call (compiled labels (word_in 1 l) l.text.bytes)) (λ call. Call.Task call)
call_by labels l (Some (Act.Ask s o m)) = None
call_by labels l (Some (Act.Wait pid)) = None
call_by labels l (Some (Act.Fork pid)) = Some (Call.Task (TaskCall.Fork pid))
call_by labels l (Some (Act.Make call)) = Some call

-- the object call that a line makes, where it makes one
abbrev pub call_of_line : List (List ℕ) → List (List ℕ) → ScriptLine → Option Call
call_of_line labels names l = call_by labels l (act_of_line labels names l)
