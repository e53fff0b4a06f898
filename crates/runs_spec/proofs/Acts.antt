-- A line that makes a call forks nothing by it: a fork is an act of its own.
use Rattle.std.proofs.Common.{◌≡◌, ⊎_elim, ℕ, false, List, Some, refl, ap}
use Rattle.text_spec.specs.Texts.{Placed}
use Rattle.world_spec.specs.declared.Call.{Call}
use Rattle.world_spec.specs.declared.tasks.TaskCall.{TaskCall}
use Rattle.verb_spec.specs.declared.CallVerb.{CallVerb}
use Rattle.verb_spec.specs.declared.Verb.{Verb}
use Rattle.verb_spec.specs.Values.{values_behind}
use Rattle.verb_spec.specs.Verbs.{verb_of, call_kinds, call_from, made_call, call_verb}
use Rattle.verb_spec.proofs.Fitting.{values_fit}
use Rattle.verb_spec.proofs.Verbs.{call_made, values_of_made}
use Rattle.script_spec.specs.Lines.{ScriptLine, words_behind}
use Rattle.replay_spec.specs.declared.Act.{Act}
use Rattle.replay_spec.specs.Acts.{act_of_line}
use Rattle.replay_spec.proofs.ReadCalls.{act_words}
use Rattle.smack_kernel.specs.Answers.{is_fork_call}

-- a call that is told by the name of a verb of object calls is no fork
named_forks_nothing : (verb : CallVerb) (call : Call) → verb_of (call_verb call) ≡ Some (Verb.Call verb) → is_fork_call call ≡ false
named_forks_nothing verb (Call.Task (TaskCall.Fork pid)) named = absurd cc
named_forks_nothing verb call named = refl

module _ (labels names : List (List ℕ)) where
  call_forks_nothing : (verb : CallVerb) (ws : List Placed) (call : Call) → made_call labels names verb ws ≡ Some call → is_fork_call call ≡ false
  call_forks_nothing verb ws call is =
      let parts = values_of_made (call_from verb) (values_behind labels names (call_kinds verb ws) ws) call is in
      let fit = values_fit labels names (call_kinds verb ws) ws parts.0 parts.1 in
      named_forks_nothing verb call (call_made verb ws parts.0 call fit parts.2).named

  pub make_forks_nothing : (l : ScriptLine) (call : Call) → act_of_line labels names l ≡ Some (Act.Make call) → is_fork_call call ≡ false
  make_forks_nothing l call does =
      ⊎_elim (λ e. ap is_fork_call e.1) (λ m. call_forks_nothing m.0 (words_behind l) call m.2) (act_words labels names l (Act.Make call) does)
