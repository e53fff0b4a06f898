-- What a line that was run leaves of orderly lines, and why a worker stops at one that is in no script.
use Rattle.std.proofs.Common.{◌≡◌, ⊎_elim, ℕ, ◌+◌, ◌<◌, ◌≤◌, List, [], ◌∷◌, ◌++◌, length, Bool, false, Option, Some, None, sym, refl, ap, ◌∙◌, subst}
use Rattle.smack_base.specs.declared.ids.Pid.{Pid}
use Rattle.verb_spec.specs.declared.Verb.{Verb}
use Rattle.verb_spec.specs.declared.Verb.TheVariants as Verb
use Rattle.script_spec.specs.Lines.{ScriptLine, verb_in}
use Rattle.script_spec.specs.Tasks.{change_by}
use Rattle.record_spec.specs.declared.AskedLine.{AskedLine}
use Rattle.replay_spec.specs.declared.Act.{Act}
use Rattle.replay_spec.specs.declared.Act.TheVariants as Act
use Rattle.replay_spec.specs.Acts.{act_of_line, call_by}
use Rattle.replay_spec.proofs.ReadCalls.{act_words}
use Rattle.legal_laws.proofs.ForkLines.{fork_line}
use Rattle.runs_spec.specs.Scripts.{Scripted, ForksTask, segment}
use Rattle.runs_spec.specs.Meetings.{MeetAt}
use Rattle.runs_spec.specs.Orders.{open_after, IsOrderlyBehind, IsOrderly, IsDisorderly, NoneWaits}
use Rattle.runs_spec.proofs.Orders.{fork_between, fork_behind}
use Rattle.runs_spec.proofs.Segments.{cut, empty}
use Rattle.script_acts.specs.Places.{IsWaitAt}

-- a line that forks a task makes this call
pub forks_task : (s : Scripted) (l : ScriptLine) (pid : Pid) → act_of_line s.labels s.names l ≡ Some (Act.Fork pid) → ForksTask s l pid.0
forks_task s l pid does = ap (call_by s.labels l) does

module _ (s : Scripted) (l : ScriptLine) (ls : List ScriptLine) where
  by_verb : (verb : Option Verb) → verb_in l ≡ verb → IsOrderly s (l ∷ ls) → IsOrderlyBehind s (open_after s.names [] (change_by verb l)) ls
  by_verb verb e is = subst (λ v. IsOrderlyBehind s (open_after s.names [] (change_by v l)) ls) e is.1

  -- no child is open that a line may wait for
  pub no_child : (pid : Pid) → act_of_line s.labels s.names l ≡ Some (Act.Wait pid) → IsDisorderly s (l ∷ ls)
  no_child pid does all is = by_verb (Some Verb.Wait) (act_words s.labels s.names l (Act.Wait pid) does).0 is

  -- behind a line that forks nothing
  pub act_behind : (act : Act) → act_of_line s.labels s.names l ≡ Some act → ((pid : Pid) → act ≡ Act.Fork pid → ⊥) → IsOrderly s (l ∷ ls) → IsOrderly s ls
  act_behind Act.Write does not_so is = by_verb (Some Verb.Write) (act_words s.labels s.names l Act.Write does) is
  act_behind (Act.Ask subject object modes) does not_so is =
      by_verb (Some Verb.Ask) (act_words s.labels s.names l (Act.Ask subject object modes) does).0 is
  act_behind (Act.Wait pid) does not_so is =
      absurd (by_verb (Some Verb.Wait) (act_words s.labels s.names l (Act.Wait pid) does).0 is)
  act_behind (Act.Fork pid) does not_so is = absurd (not_so pid refl)
  act_behind (Act.Make call) does not_so is =
      ⊎_elim (λ e. by_verb (Some Verb.Exit) e.0 is) (λ m. by_verb (Some (Verb.Call m.0)) m.1 is)
      (act_words s.labels s.names l (Act.Make call) does)

module _ (s : Scripted) (p : ℕ) (child : Pid) (at until to : ℕ) (l : ScriptLine) (low : at ≤ until) (mid : until ≤ to)
    (high : to ≤ length s.lines) (forks : ForksTask s l child.0) (none : NoneWaits s.names child (segment p at until s.lines))
    (is : IsOrderly s (l ∷ segment p at to s.lines)) where
  halved : IsOrderly s (l ∷ (segment p at until s.lines ++ segment p until to s.lines))
  halved = subst (λ (ls : List ScriptLine). IsOrderly s (l ∷ ls)) (cut p at until to s.lines low mid high) is

  -- a task's own lines beside the child that it forked
  pub fork_mine : IsOrderly s (segment p at until s.lines)
  fork_mine =
      let f = fork_line s.labels s.names l child forks in
      fork_between s child l f.0 f.1 (segment p at until s.lines) (segment p until to s.lines) none halved

  -- those behind the place where it meets the child again
  pub fork_on : (place : ℕ) (wait : Option AskedLine) (stop : Bool) → (until < to → IsWaitAt s.names s.lines p child until to)
      → MeetAt wait stop until to place → stop ≡ false → IsOrderly s (segment p place to s.lines)
  fork_on place None stop waits met on =
      let m = met on in
      subst (IsOrderly s) (sym (ap (λ (n : ℕ). segment p n to s.lines) (m.1 ∙ m.0) ∙ empty p to s.lines high)) tt
  fork_on place (Some a) stop waits met on =
      let f = fork_line s.labels s.names l child forks in
      let x = waits met.0 in
      subst (λ (n : ℕ). IsOrderly s (segment p n to s.lines)) (sym met.1)
      (fork_behind s child l f.0 f.1 (segment p at until s.lines) x.line (segment p (until + 1) to s.lines) none (x.waits s.labels)
      (subst (λ (ls : List ScriptLine). IsOrderly s (l ∷ (segment p at until s.lines ++ ls))) x.is halved))
