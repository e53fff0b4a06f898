use Rattle.std.proofs.Common.{◌≡◌, ◌<◌, ◌≤◌, ℕ, ◌+◌, Bool, true, false, ◌&&◌, ◌||◌, ◌==◌, if◌then◌else◌, nat_le, List, [], ◌∷◌, ◌++◌, length, length-append, refl, sym, ap, subst, ◌∙◌, arith, append_assoc, append-nil, Option, Some, None, Result, Ok, Err}
use Rattle.std.specs.Prelude.{slice_index_or}
use Rattle.std.proofs.lemmas.Bool.{ne_eqb, eq-eqb, lt-leb, lt-ltb}
use Rattle.std.proofs.lemmas.List.Folds.{list_any-append}
use Rattle.std.proofs.Math.Seq.{get_or-append_seam}
use Rattle.smack_base.specs.declared.ids.Pid.{Pid}
use Rattle.smack_base.specs.declared.cap.Cap.TheVariants as Cap
use Rattle.rules_spec.specs.Rulings.{ruling}
use Rattle.rules_spec.specs.Creds.{Creds, is_effective}
use Rattle.text_spec.specs.Texts.{Placed}
use Rattle.text_spec.specs.Names.{place_of, id_of}
use Rattle.file_spec.specs.declared.Refusal.{Refusal}
use Rattle.file_spec.specs.declared.Compiled.{Compiled}
use Rattle.file_spec.specs.Files.{compiled}
use Rattle.verb_spec.specs.declared.CallVerb.{CallVerb}
use Rattle.verb_spec.specs.declared.Verb.{Verb}
use Rattle.script_spec.specs.Lines.{ScriptLine, word_in, verb_in, words_behind}
use Rattle.script_spec.specs.Tasks.{forked_name, is_exit, change_by, change_of, has_exit, task_names}
use Rattle.world_spec.specs.declared.tasks.TaskCall.{TaskCall}
use Rattle.world_spec.specs.declared.Call.{Call}
use Rattle.world_spec.specs.Worlds.{TaskRow, task_begun, was_made, is_live, creds_of, with_child, without_life, most_tasks}
use Rattle.record_spec.specs.declared.AskedWhat.TheVariants as AskedWhat
use Rattle.replay_spec.specs.declared.Act.{Act}
use Rattle.verb_spec.specs.Values.{pid_in, modes_in, values_behind}
use Rattle.replay_spec.specs.Calls.{of_one}
use Rattle.verb_spec.specs.Verbs.{verb_of, call_kinds, call_from, made_call, call_verb}
use Rattle.verb_spec.proofs.Fitting.{values_fit}
use Rattle.verb_spec.proofs.Verbs.{call_made, values_of_made}
use Rattle.replay_spec.specs.Acts.{act_by}
use Rattle.replay_spec.specs.Plain.{IsNameTable}
use Rattle.replay_spec.specs.Replays.{Run, or_none_yet, number_of_task, noted, published, stepped_by, written, after_act, after_acting, after_line}
use Rattle.replay_spec.proofs.ReadCalls.{of_none_holds, of_one_holds, of_three_holds}
use Rattle.plain_laws.proofs.GoodLines.{IsGoodLine, good_verb}
use Rattle.plain_laws.proofs.Tasks.{names_more, names_behind}
use Rattle.replay_laws.proofs.Numbers.{AreNumbered, AreKept, IsQuiet, same_exits, exit_numbered, push_numbered, live_numbered, none_made, row_is_live, quiet_kept, exit_done, fork_done}
use Rattle.world_laws.proofs.Changes.{length_changed}

-- a verb whose calls neither make a task nor end one
abbrev pub IsQuietVerb : Verb → Type 0
IsQuietVerb Verb.Fork = ⊥
IsQuietVerb Verb.Exit = ⊥
IsQuietVerb verb = Unit {0}

-- a call that is told by the name of a verb of object calls is quiet
named_quiet : (verb : CallVerb) (c : Call) → verb_of (call_verb c) ≡ Some (Verb.Call verb) → IsQuiet c
named_quiet verb (Call.Task (TaskCall.Fork pid)) named = absurd cc
named_quiet verb (Call.Task TaskCall.Exit) named = absurd cc
named_quiet verb c named = tt

-- so is one that words make
pub made_quiet : (labels names : List (List ℕ)) (verb : CallVerb) (ws : List Placed) (c : Call) → made_call labels names verb ws ≡ Some c → IsQuiet c
made_quiet labels names verb ws c is =
    let parts = values_of_made (call_from verb) (values_behind labels names (call_kinds verb ws) ws) c is in
    let fit = values_fit labels names (call_kinds verb ws) ws parts.0 parts.1 in
    named_quiet verb c (call_made verb ws parts.0 c fit parts.2).named

-- nor does what a line of such a verb does
abbrev IsQuietAct : Act → Type 0
IsQuietAct (Act.Fork pid) = ⊥
IsQuietAct (Act.Make call) = IsQuiet call
IsQuietAct act = Unit {0}

verb_quiet : (labels names : List (List ℕ)) (l : ScriptLine) (verb : Verb) → IsQuietVerb verb → (act : Act)
    → act_by labels names l (Some verb) ≡ Some act → IsQuietAct act
verb_quiet labels names l Verb.Write quiet act is = of_none_holds IsQuietAct Act.Write act tt is
verb_quiet labels names l Verb.Ask quiet act is =
    of_three_holds IsQuietAct (id_of labels (word_in 1 l)) (id_of labels (word_in 2 l)) (modes_in (word_in 3 l)) (λ s o m. Act.Ask s o m) act
    (λ s o m subject object modes. tt) is
verb_quiet labels names l Verb.Wait quiet act is =
    of_one_holds IsQuietAct (pid_in names (word_in 1 l)) (λ pid. Act.Wait pid) act (λ pid found. tt) is
verb_quiet labels names l Verb.Fork quiet act is = absurd quiet
verb_quiet labels names l Verb.Exit quiet act is = absurd quiet
verb_quiet labels names l (Verb.Call verb) quiet act is =
    of_one_holds IsQuietAct (made_call labels names verb (words_behind l)) (λ c. Act.Make c) act (made_quiet labels names verb (words_behind l)) is

-- the tasks of a run are in step with the calls so far: as many as were forked, each with its pid as its number, live
-- until it exits
pub record IsInStep (above : List ScriptLine) (tasks : List TaskRow) : Type 0 where
  pub numbered : AreNumbered (has_exit above) 0 tasks
  pub many : length tasks ≡ length (task_names above)
  pub later : (j : ℕ) → length (task_names above) ≤ j → has_exit above j ≡ false

-- the number of the task of a good call is its pid
pub number_is_pid : (above : List ScriptLine) (run : Run) (l : ScriptLine) → IsGoodLine above l → IsInStep above run.world.tasks → number_of_task run l ≡ l.task
number_is_pid above run l good step =
    ap (or_none_yet run.world) (live_numbered (has_exit above) run.world.tasks l.task (omega (arith, good.there, step.many)) good.live step.numbered)

or_so : (b : Bool) → (b || true) ≡ true
or_so true = refl
or_so false = refl

or_nothing : (b : Bool) → (b || false) ≡ b
or_nothing true = refl
or_nothing false = refl

and_nothing : (b : Bool) → (b && false) ≡ false
and_nothing true = refl
and_nothing false = refl

-- one more call, and whether it is an exit
exit_more : (above : List ScriptLine) (l : ScriptLine) (j : ℕ) → has_exit (above ++ l ∷ []) j ≡ (has_exit above j || (is_exit (change_of l) && (l.task == j)))
exit_more above l j =
    list_any-append (λ l. is_exit (change_of l) && (l.task == j)) above (l ∷ [])
    ∙ ap (λ b. has_exit above j || b) (or_nothing (is_exit (change_of l) && (l.task == j)))

other_exit : (above : List ScriptLine) (l : ScriptLine) (j : ℕ) → (l.task ≡ j → ⊥) → has_exit (above ++ l ∷ []) j ≡ has_exit above j
other_exit above l j apart =
    exit_more above l j ∙ ap (λ b. has_exit above j || (is_exit (change_of l) && b)) (ne_eqb l.task j apart)
    ∙ ap (λ b. has_exit above j || b) (and_nothing (is_exit (change_of l))) ∙ or_nothing (has_exit above j)

no_exit : (above : List ScriptLine) (l : ScriptLine) → is_exit (change_of l) ≡ false → (j : ℕ) → has_exit (above ++ l ∷ []) j ≡ has_exit above j
no_exit above l none j =
    exit_more above l j ∙ ap (λ b. has_exit above j || (b && (l.task == j))) none ∙ or_nothing (has_exit above j)

-- no call of a task comes before its fork
later_more : (above : List ScriptLine) (l : ScriptLine) → l.task < length (task_names above) → ((j : ℕ) → length (task_names above) ≤ j → has_exit above j ≡ false)
    → (j : ℕ) → length (task_names (above ++ l ∷ [])) ≤ j → has_exit (above ++ l ∷ []) j ≡ false
later_more above l there later j past =
    let names : length (task_names above) ≤ length (task_names (above ++ l ∷ [])) =
    omega (arith, ap (λ (t : List (List ℕ)). length t) (names_more above l), length-append (task_names above) (forked_name (change_of l))) in
    other_exit above l j (λ e. omega (arith, e, there, names, past)) ∙ later j (omega (arith, names, past))

-- a quiet act leaves the tasks as they are
module _ (labels : List (List ℕ)) (exited : ℕ → Bool) (run : Run) (l : ScriptLine) (are : AreNumbered exited 0 run.world.tasks) where
  same : AreKept exited run.world.tasks run.world.tasks
  same = record { numbered = are; many = refl }

  step_kept : (call : Call) → IsQuiet call → AreKept exited run.world.tasks (stepped_by run l call).world.tasks
  step_kept call quiet = quiet_kept exited run.world (ruling run.journal) (number_of_task run l) call quiet are

  written_kept : (made : Result Compiled Refusal) → AreKept exited run.world.tasks (written run l made).world.tasks
  written_kept (Ok (Compiled.Rules ops)) = by (is_effective (creds_of run.world (number_of_task run l)) Cap.MacAdmin (ruling run.journal))
    where
      by : (privileged : Bool) → AreKept exited run.world.tasks (if privileged then published run l ops else noted run l (AskedWhat.Refused (word_in 1 l) Refusal.NotPrivileged)).world.tasks
      by true = same
      by false = same
  written_kept (Ok (Compiled.SelfRules rules)) = step_kept (Call.Task (TaskCall.SelfRules rules)) tt
  written_kept (Ok (Compiled.Relabels list)) = step_kept (Call.Task (TaskCall.Relabels list)) tt
  written_kept (Err fault) = same

  act_kept : (act : Act) → IsQuietAct act → AreKept exited run.world.tasks (after_act labels run l act).world.tasks
  act_kept Act.Write quiet = written_kept (compiled labels (word_in 1 l) l.text.bytes)
  act_kept (Act.Fork pid) quiet = absurd quiet
  act_kept (Act.Make call) quiet = step_kept call quiet
  act_kept act quiet = same

  acting_kept : (act : Option Act) → ((a : Act) → act ≡ Some a → IsQuietAct a) → AreKept exited run.world.tasks (after_acting labels run l act).world.tasks
  acting_kept None quiet = same
  acting_kept (Some act) quiet = act_kept act (quiet act refl)

quiet_change : (l : ScriptLine) (verb : Verb) → IsQuietVerb verb → (is_exit (change_by (Some verb) l) ≡ false) × (forked_name (change_by (Some verb) l) ≡ [])
quiet_change l Verb.Fork quiet = absurd quiet
quiet_change l Verb.Exit quiet = absurd quiet
quiet_change l verb quiet = (refl, refl)

-- tasks that are kept are in step with one more quiet call
quiet_in_step : (above : List ScriptLine) (l : ScriptLine) (before after : List TaskRow) → l.task < length (task_names above) → IsInStep above before
    → is_exit (change_of l) ≡ false → forked_name (change_of l) ≡ [] → AreKept (has_exit above) before after → IsInStep (above ++ l ∷ []) after
quiet_in_step above l before after there step none nothing kept =
    let names : task_names (above ++ l ∷ []) ≡ task_names above = names_more above l ∙ ap (λ ns. task_names above ++ ns) nothing ∙ append-nil (task_names above) in
    record {
      numbered = same_exits (has_exit above) (has_exit (above ++ l ∷ [])) 0 after (λ j past. no_exit above l none j) kept.numbered;
      many = kept.many ∙ step.many ∙ sym (ap (λ (t : List (List ℕ)). length t) names);
      later = later_more above l there step.later;
    }

-- an exit of a live task
exit_in_step : (above : List ScriptLine) (l : ScriptLine) (tasks : List TaskRow) (after : List TaskRow) → l.task < length (task_names above) → IsInStep above tasks
    → is_exit (change_of l) ≡ true → forked_name (change_of l) ≡ [] → after ≡ without_life tasks l.task → IsInStep (above ++ l ∷ []) after
exit_in_step above l tasks after there step exits nothing is =
    let names : task_names (above ++ l ∷ []) ≡ task_names above = names_more above l ∙ ap (λ ns. task_names above ++ ns) nothing ∙ append-nil (task_names above) in
    let zero_more : 0 + l.task ≡ l.task = omega arith in
    let own : (l.task == l.task) ≡ true = eq-eqb l.task l.task refl in
    let gone : has_exit (above ++ l ∷ []) l.task ≡ true =
    exit_more above l l.task ∙ (λ i. has_exit above l.task || (exits i && own i)) ∙ or_so (has_exit above l.task) in
    subst (IsInStep (above ++ l ∷ [])) (sym is)
    (record {
      numbered =
          exit_numbered (has_exit above) (has_exit (above ++ l ∷ [])) 0 tasks l.task (ap (has_exit (above ++ l ∷ [])) zero_more ∙ gone)
          (λ j apart. other_exit above l j (λ e. apart (sym e ∙ sym zero_more))) step.numbered;
      many = length_changed tasks l.task _ ∙ step.many ∙ sym (ap (λ (t : List (List ℕ)). length t) names);
      later = later_more above l there step.later;
    })

-- a fork of a task with the next pid
fork_in_step : (above : List ScriptLine) (l : ScriptLine) (tasks after : List TaskRow) (name : List ℕ) (creds : Creds) → l.task < length (task_names above)
    → IsInStep above tasks → is_exit (change_of l) ≡ false → forked_name (change_of l) ≡ name ∷ []
    → after ≡ with_child tasks (record { 0 = length (task_names above) }) creds → IsInStep (above ++ l ∷ []) after
fork_in_step above l tasks after name creds there step none one is =
    let names : task_names (above ++ l ∷ []) ≡ task_names above ++ name ∷ [] = names_more above l ∙ ap (λ ns. task_names above ++ ns) one in
    let row = task_begun (record { 0 = length (task_names above) }) creds in
    let pushed = push_numbered (has_exit above) 0 tasks row (omega (arith, step.many)) refl (step.later (0 + length tasks) (omega (arith, step.many))) step.numbered in
    subst (IsInStep (above ++ l ∷ [])) (sym is)
    (record {
      numbered = same_exits (has_exit above) (has_exit (above ++ l ∷ [])) 0 (tasks ++ row ∷ []) (λ j past. no_exit above l none j) pushed;
      many =
          omega (arith, length-append tasks (row ∷ []), step.many, ap (λ (t : List (List ℕ)). length t) names, length-append (task_names above) (name ∷ []));
      later = later_more above l there step.later;
    })

-- the task that a fork names has the next pid
pub next_pid : (names above : List (List ℕ)) (name : List ℕ) (rest : List (List ℕ)) → names ≡ above ++ name ∷ rest → IsNameTable names
    → pid_in names name ≡ Some (record { 0 = length above })
next_pid names above name rest is table =
    let within : length above < length names = omega (arith, ap (λ (t : List (List ℕ)). length t) is, length-append above (name ∷ rest)) in
    let here : slice_index_or names (length above) [] ≡ name = ap (λ (t : List (List ℕ)). slice_index_or t (length above) []) is ∙ get_or-append_seam above name rest [] in
    let place : place_of names name ≡ length above = ap (place_of names) (sym here) ∙ table.once (length above) within in
    rw (place, lt-ltb (length above) (length names) within) refl

-- a good call keeps the tasks in step
module _ (labels names : List (List ℕ)) (above : List ScriptLine) (l : ScriptLine) (run : Run) (good : IsGoodLine above l) (step : IsInStep above run.world.tasks) where
  abbrev number : ℕ
  number = number_of_task run l

  is : number ≡ l.task
  is = number_is_pid above run l good step

  zero_more : 0 + l.task ≡ l.task
  zero_more = omega arith

  live : is_live run.world.tasks number ≡ true
  live =
      ap (is_live run.world.tasks) is
      ∙ row_is_live (has_exit above) 0 run.world.tasks l.task (omega (arith, good.there, step.many)) (ap (has_exit above) zero_more ∙ good.live) step.numbered

  room : length (task_names above) < most_tasks → nat_le most_tasks (length run.world.tasks) ≡ false
  room few = lt-leb most_tasks (length run.world.tasks) (omega (arith, few, step.many))

  new : was_made run.world.tasks (record { 0 = length (task_names above) }) ≡ false
  new = none_made (has_exit above) 0 run.world.tasks (length (task_names above)) (omega (arith, step.many)) step.numbered

  forks : (pid : Option Pid) (name : List ℕ) → pid ≡ Some (record { 0 = length (task_names above) }) → is_exit (change_of l) ≡ false
      → forked_name (change_of l) ≡ name ∷ [] → length (task_names above) < most_tasks
      → IsInStep (above ++ l ∷ []) (after_acting labels run l (of_one pid (λ p. Act.Fork p))).world.tasks
  forks pid name at none one few =
      subst (λ p. IsInStep (above ++ l ∷ []) (after_acting labels run l (of_one p (λ q. Act.Fork q))).world.tasks) (sym at)
      (fork_in_step above l run.world.tasks _ name (creds_of run.world number) good.there step none one
      (fork_done run.world (ruling run.journal) number (record { 0 = length (task_names above) }) live new (room few)))

  exits : is_exit (change_of l) ≡ true → forked_name (change_of l) ≡ [] → IsInStep (above ++ l ∷ []) (stepped_by run l (Call.Task TaskCall.Exit)).world.tasks
  exits ends nothing =
      exit_in_step above l run.world.tasks _ good.there step ends nothing
      (exit_done run.world (ruling run.journal) number live ∙ ap (without_life run.world.tasks) is)

  abbrev After : Verb → Type 0
  After verb = IsInStep (above ++ l ∷ []) (after_acting labels run l (act_by labels names l (Some verb))).world.tasks

  quietly : (verb : Verb) → verb_in l ≡ Some verb → IsQuietVerb verb → After verb
  quietly verb is_verb quiet =
      let change = quiet_change l verb quiet in
      quiet_in_step above l run.world.tasks _ good.there step (ap (λ v. is_exit (change_by v l)) is_verb ∙ change.0)
      (ap (λ v. forked_name (change_by v l)) is_verb ∙ change.1) (acting_kept labels (has_exit above) run l step.numbered (act_by labels names l (Some verb)) (verb_quiet labels names l verb quiet))

  pub verb_in_step : (verb : Verb) → verb_in l ≡ Some verb → IsNameTable names → (rest : List (List ℕ))
      → names ≡ (task_names above ++ forked_name (change_of l)) ++ rest → After verb
  verb_in_step Verb.Fork is_verb table rest whole =
      let one : forked_name (change_of l) ≡ word_in 1 l ∷ [] = ap (λ v. forked_name (change_by v l)) is_verb in
      let few : length (task_names above) < most_tasks =
      omega (
        arith,
        good.few,
        ap (λ (t : List (List ℕ)). length t) (names_more above l ∙ ap (λ ns. task_names above ++ ns) one),
        length-append (task_names above) (word_in 1 l ∷ []),
      ) in
      forks (pid_in names (word_in 1 l)) (word_in 1 l)
      (next_pid names (task_names above) (word_in 1 l) rest
      (whole ∙ ap (λ ns. (task_names above ++ ns) ++ rest) one ∙ append_assoc (task_names above) (word_in 1 l ∷ []) rest) table)
      (ap (λ v. is_exit (change_by v l)) is_verb) one few
  verb_in_step Verb.Exit is_verb table rest whole =
      exits (ap (λ v. is_exit (change_by v l)) is_verb) (ap (λ v. forked_name (change_by v l)) is_verb)
  verb_in_step verb is_verb table rest whole = quietly verb is_verb tt

-- the run after a good call of a script is in step with the calls up to it
pub line_in_step : (above : List ScriptLine) (l : ScriptLine) (more : List ScriptLine) (labels : List (List ℕ)) (run : Run) → IsGoodLine above l
    → IsNameTable (task_names (above ++ l ∷ more)) → IsInStep above run.world.tasks
    → IsInStep (above ++ l ∷ []) (after_line labels (task_names (above ++ l ∷ more)) run l).world.tasks
line_in_step above l more labels run good table step =
    let names = task_names (above ++ l ∷ more) in
    let with_more = names_behind (above ++ l ∷ []) more in
    let whole : names ≡ (task_names above ++ forked_name (change_of l)) ++ with_more.0 =
    ap task_names (sym (append_assoc above (l ∷ []) more)) ∙ with_more.1 ∙ ap (λ ns. ns ++ with_more.0) (names_more above l) in
    subst (λ verb. IsInStep (above ++ l ∷ []) (after_acting labels run l (act_by labels names l verb)).world.tasks) (sym (good_verb above l good))
    (verb_in_step labels names above l run good step good.verb (good_verb above l good) table with_more.0 whole)
