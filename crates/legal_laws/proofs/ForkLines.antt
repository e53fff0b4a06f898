use Rattle.std.proofs.Common.{◌≡◌, ⊎_elim, ℕ, ◌+◌, Bool, true, false, if◌then◌else◌, List, [], ◌∷◌, ◌++◌, length, refl, sym, ap, ◌∙◌, arith, Option, Some, None, Result, Ok, Err}
use Rattle.std.specs.Prelude.{map, reverse}
use Rattle.std.specs.List.{filter}
use Rattle.std.proofs.lemmas.List.{length-reverse, length-map, map-append, reverse-append}
use Rattle.std.proofs.lemmas.List.Elements.{filter-append}
use Rattle.smack_base.specs.declared.ids.Pid.{Pid}
use Rattle.file_spec.specs.declared.Refusal.{Refusal}
use Rattle.file_spec.specs.declared.Compiled.{Compiled}
use Rattle.file_spec.specs.Files.{compiled}
use Rattle.verb_spec.specs.declared.Verb.TheVariants as Verb
use Rattle.script_spec.specs.Lines.{ScriptLine, word_in, verb_in, words_behind}
use Rattle.script_spec.specs.Tasks.{change_of, is_fork, parents_in, task_names}
use Rattle.world_spec.specs.declared.tasks.TaskCall.TheVariants as TaskCall
use Rattle.world_spec.specs.declared.Call.{Call}
use Rattle.replay_spec.specs.declared.Act.{Act}
use Rattle.verb_spec.specs.Values.{pid_in}
use Rattle.replay_spec.specs.Calls.{of_one, file_call}
use Rattle.replay_spec.specs.Acts.{act_of_line, call_by, call_of_line}
use Rattle.replay_spec.proofs.ReadCalls.{act_words}
use Rattle.replay_laws.proofs.InStep.{made_quiet}
use Rattle.replay_laws.proofs.KnownWords.{forks_counted}

file_other : (made : Result Compiled Refusal) (pid : Pid) → of_one (file_call made) (λ c. Call.Task c) ≡ Some (Call.Task (TaskCall.Fork pid)) → ⊥
file_other (Ok (Compiled.Rules ops)) pid is = cc
file_other (Ok (Compiled.SelfRules rules)) pid is = cc
file_other (Ok (Compiled.Relabels list)) pid is = cc
file_other (Err fault) pid is = cc

same_fork : (made : Call) (pid : Pid) → ◌≡◌ {A = Option Call} (Some made) (Some (Call.Task (TaskCall.Fork pid))) → made ≡ Call.Task (TaskCall.Fork pid)
same_fork made pid is = cc

forked_pid : (made pid : Pid) → Call.Task (TaskCall.Fork made) ≡ Call.Task (TaskCall.Fork pid) → made ≡ pid
forked_pid made pid is = cc

no_exit : (pid : Pid) → Call.Task TaskCall.Exit ≡ Call.Task (TaskCall.Fork pid) → ⊥
no_exit pid is = cc

module _ (labels names : List (List ℕ)) (l : ScriptLine) (pid : Pid) where
  -- a line that forks a pid has the verb for it, and names the task with the pid
  abbrev IsForkLine : Type 0
  IsForkLine = (verb_in l ≡ Some Verb.Fork) × (pid_in names (word_in 1 l) ≡ Some pid)

  fork_act : (act : Option Act) → act_of_line labels names l ≡ act → call_by labels l act ≡ Some (Call.Task (TaskCall.Fork pid)) → IsForkLine
  fork_act None does is = cc
  fork_act (Some Act.Write) does is = absurd (file_other (compiled labels (word_in 1 l) l.text.bytes) pid is)
  fork_act (Some (Act.Ask s o m)) does is = cc
  fork_act (Some (Act.Wait child)) does is = cc
  fork_act (Some (Act.Fork made)) does is =
      let words = act_words labels names l (Act.Fork made) does in
      (words.0, words.1 ∙ ap (λ p. Some p) (forked_pid made pid (same_fork _ pid is)))
  fork_act (Some (Act.Make call)) does is =
      let same = same_fork call pid is in
      ⊎_elim (λ e. absurd (no_exit pid (sym e.1 ∙ same)))
      (λ m. absurd (made_quiet labels names m.0 (words_behind l) (Call.Task (TaskCall.Fork pid)) (m.2 ∙ is))) (act_words labels names l (Act.Make call) does)

  pub fork_line : call_of_line labels names l ≡ Some (Call.Task (TaskCall.Fork pid)) → IsForkLine
  fork_line is = fork_act (act_of_line labels names l) refl is

-- the parents with one more line
pub parents_more : (above : List ScriptLine) (l : ScriptLine)
    → parents_in (above ++ l ∷ []) ≡ (if is_fork (change_of l) then l.task ∷ parents_in above else parents_in above)
parents_more above l =
    let test : ScriptLine → Bool = λ x. is_fork (change_of x) in
    let task : ScriptLine → ℕ = λ x. x.task in
    ap (λ ls. reverse (map task ls)) (filter-append test above (l ∷ [])) ∙ ap reverse (map-append task (filter test above) (filter test (l ∷ [])))
    ∙ reverse-append (map task (filter test above)) (map task (filter test (l ∷ []))) ∙ last (is_fork (change_of l))
  where
    last : (forks : Bool)
        → reverse (map (λ (x : ScriptLine). x.task) (if forks then l ∷ [] else [])) ++ parents_in above ≡ (if forks then l.task ∷ parents_in above else parents_in above)
    last true = refl
    last false = refl

-- as many as the tasks, the first not counted
pub parents_many : (above : List ScriptLine) → length (parents_in above) + 1 ≡ length (task_names above)
parents_many above =
    omega (
      arith,
      forks_counted above,
      length-reverse (map (λ l. l.task) (filter (λ l. is_fork (change_of l)) above)),
      length-map (filter (λ l. is_fork (change_of l)) above) (λ l. l.task),
    )
