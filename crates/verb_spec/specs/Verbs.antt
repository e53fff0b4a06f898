use Rattle.std.specs.Prelude.{ℕ, Bool, List, [], ◌∷◌, ◌++◌, Option, Some, None, codes, map}
use Rattle.std.specs.Map.{lookup}
use Rattle.std.specs.Option.{option_map, option_or}
use Rattle.std.specs.Str.{bytes_eq}
use Rattle.text_spec.specs.Texts.{Placed}
use Rattle.log_spec.specs.Shown.{Shown}
use Rattle.world_spec.specs.declared.Call.{Call}
use Rattle.verb_spec.specs.declared.CallVerb.{CallVerb}
use Rattle.verb_spec.specs.declared.Verb.{Verb}
use Rattle.verb_spec.specs.declared.WordKind.{WordKind}
use Rattle.verb_spec.specs.declared.Value.{Value}
use Rattle.verb_spec.specs.Words.{is_one_of}
use Rattle.verb_spec.specs.Values.{values_behind, value_shown, Spoken}
use Rattle.verb_spec.specs.TaskVerbs.{task_verb_of, unbuilt_task_verbs, task_kinds, task_call_from, task_spoken}
use Rattle.verb_spec.specs.TreeVerbs.{tree_verb_of, unbuilt_tree_verbs, tree_kinds, tree_call_from, tree_spoken}

-- the verbs by name that are of no family
abbrev pub plain_verbs : List (List ℕ × Verb)
plain_verbs =
    (codes "write", Verb.Write)
    ∷ (codes "ask", Verb.Ask)
    ∷ (codes "wait", Verb.Wait)
    ∷ (codes "fork", Verb.Fork)
    ∷ (codes "exit", Verb.Exit)
    ∷ []

abbrev pub plain_verb_of : List ℕ → Option Verb
plain_verb_of name = lookup (bytes_eq name) plain_verbs

-- the verb of an object call of a name, which is neither fork nor exit
abbrev pub call_verb_of : List ℕ → Option CallVerb
call_verb_of name =
    option_or (option_map (λ verb. CallVerb.Task verb) (task_verb_of name)) (option_map (λ verb. CallVerb.Tree verb) (tree_verb_of name))

-- the verb of a name
abbrev pub verb_of : List ℕ → Option Verb
verb_of name = option_or (plain_verb_of name) (option_map (λ verb. Verb.Call verb) (call_verb_of name))

-- the verbs of families that scripts will have and do not have yet: open files, sockets, System V objects, hosts, mounts
abbrev pub unbuilt_family_verbs : List (List ℕ)
unbuilt_family_verbs =
    codes "open" ∷ codes "read" ∷ codes "put" ∷ codes "close" ∷ codes "map" ∷ codes "unmap" ∷ codes "lock" ∷ codes "unlock"
    ∷ codes "socket" ∷ codes "sockattr" ∷ codes "send" ∷ codes "connect" ∷ codes "say" ∷ codes "recv" ∷ codes "inject" ∷ codes "shut"
    ∷ codes "msgnew" ∷ codes "msgsnd" ∷ codes "msgrcv" ∷ codes "msgrm" ∷ codes "semnew" ∷ codes "semop" ∷ codes "semget" ∷ codes "semrm"
    ∷ codes "shmnew" ∷ codes "shmat" ∷ codes "shmread" ∷ codes "shmwrite" ∷ codes "shmdt" ∷ codes "shmrm"
    ∷ codes "netlabel" ∷ codes "hostof" ∷ codes "sendto" ∷ codes "hostin"
    ∷ codes "imgnew" ∷ codes "imgdir" ∷ codes "imgfile" ∷ codes "imglabel" ∷ codes "mount" ∷ []

-- a verb that scripts will have and do not have yet
abbrev pub is_unbuilt_verb : List ℕ → Bool
is_unbuilt_verb name = is_one_of (unbuilt_task_verbs ++ unbuilt_tree_verbs ++ unbuilt_family_verbs) name

-- the kinds of the words behind the verb of an object call; a kind may be by the words themselves
abbrev pub call_kinds : CallVerb → List Placed → List WordKind
call_kinds (CallVerb.Task verb) ws = task_kinds verb ws
call_kinds (CallVerb.Tree verb) ws = tree_kinds verb ws

-- the kinds of the words behind a verb
abbrev pub kinds_of : Verb → List Placed → List WordKind
kinds_of Verb.Write ws = WordKind.File ∷ WordKind.Lines ∷ []
kinds_of Verb.Ask ws = WordKind.Label ∷ WordKind.Label ∷ WordKind.Modes ∷ []
kinds_of Verb.Wait ws = WordKind.Child ∷ []
kinds_of Verb.Fork ws = WordKind.NewTask ∷ []
kinds_of Verb.Exit ws = []
kinds_of (Verb.Call verb) ws = call_kinds verb ws

-- the kinds of words behind what may be a verb; words behind anything else have none
abbrev pub kinds_by : Option Verb → List Placed → List WordKind
kinds_by None ws = []
kinds_by (Some verb) ws = kinds_of verb ws

-- the object call that a verb with these values makes
abbrev pub call_from : CallVerb → List Value → Option Call
call_from (CallVerb.Task verb) values = option_map (λ call. Call.Task call) (task_call_from verb values)
call_from (CallVerb.Tree verb) values = option_map (λ call. Call.Tree call) (tree_call_from verb values)

abbrev pub from_values : (List Value → Option Call) → Option (List Value) → Option Call
from_values make None = None
from_values make (Some values) = make values

-- the object call that a verb with these words makes, where each word is of its kind and known
abbrev pub made_call : List (List ℕ) → List (List ℕ) → CallVerb → List Placed → Option Call
made_call labels names verb ws = from_values (call_from verb) (values_behind labels names (call_kinds verb ws) ws)

-- how an object call is told
abbrev pub spoken : Call → Spoken
spoken (Call.Task call) = task_spoken call
spoken (Call.Tree call) = tree_spoken call

-- the name of the verb of a call
abbrev pub call_verb : Call → List ℕ
call_verb call = (spoken call).name

-- the words of a call behind its verb
abbrev pub call_words : Call → List Shown
call_words call = map value_shown (spoken call).values
