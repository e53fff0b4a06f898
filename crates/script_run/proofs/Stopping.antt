-- Why workers stop.
use Rattle.std.proofs.Common.{◌≡◌, ◌⊎◌, ℕ, ◌≤◌, List, [], ◌∷◌, length, length-append, take, not, Bool, true, false, Option, Some, None, sym, refl, ap, ◌∙◌, subst, arith, IfSome, ⊎_elim, inl, inr}
use Rattle.smack_base.specs.declared.ids.Pid.{Pid}
use Rattle.world_spec.specs.declared.Call.{Call}
use Rattle.world_spec.specs.declared.Call.TheVariants as Call
use Rattle.world_spec.specs.declared.tasks.TaskCall.TheVariants as TaskCall
use Rattle.world_spec.specs.declared.Reply.TheVariants as Reply
use Rattle.record_spec.specs.declared.AskedLine.{AskedLine}
use Rattle.script_spec.specs.Lines.{ScriptLine}
use Rattle.smack_kernel.specs.Tasks.{TaskValue, Calls, Starts, Adopts, most_calls}
use Rattle.smack_kernel.specs.Answers.{IsTrailFull, IsSeqFull, IsCalled, IsForked}
use Rattle.smack_kernel.specs.declared.turns.Entered.{Entered}
use Rattle.smack_kernel.specs.declared.kernel.Called.{Called}
use Rattle.smack_kernel.specs.declared.kernel.Called.TheVariants as Called
use Rattle.runs_spec.specs.Scripts.{Scripted, scripted, ForksTask, lines_by, segment}
use Rattle.runs_spec.specs.Runs.{WentOver, Ran}
use Rattle.runs_spec.specs.Stops.{IsOutOfEntries, IsOutOfCalls}
use Rattle.runs_spec.specs.Orders.{IsOrderly, NoneWaits}
use Rattle.runs_spec.proofs.Stops.{out_here, none_here, out_then, out_mine, out_theirs, none_mine, none_theirs, calls_mine, calls_theirs}
use Rattle.runs_spec.proofs.Segments.{cut, from_here}
use Rattle.script_run.specs.Stops.{IsCause, IsOwnStop, IsMeetCause, without_child}
use Rattle.script_run.proofs.Orders.{fork_mine}
use Rattle.script_run.specs.declared.making.Stop.{Stop}
use Rattle.script_run.specs.declared.making.Stop.TheVariants as Stop

pub trail_full : (s : Scripted) (l : ScriptLine) (ls : List ScriptLine) (v w : TaskValue) → IsTrailFull v w → IsOutOfEntries s (l ∷ ls) v w
trail_full s l ls v w q = out_here s l ls v w q.1 q.2

pub seq_full : (s : Scripted) (v w : TaskValue) → IsSeqFull v w → IsOutOfCalls s w
seq_full s v w q = inl (subst (λ (u : TaskValue). most_calls ≤ u.made) (sym q.1) (omega (arith, q.0)))

-- a fork that made no child
pub fork_cause : (v w : TaskValue) (pid : Pid) (called : Called) → IsForked v w pid called None → (s : Scripted) (l : ScriptLine)
    (ls : List ScriptLine) → IsCause s (l ∷ ls) v w (without_child called)
fork_cause v w pid (Called.Entry r) f s l ls = none_here v w pid r f.1 f.2
fork_cause v w pid (Called.TrailFull back) f s l ls = trail_full s l ls v w f.0
fork_cause v w pid (Called.SeqFull back) f s l ls = seq_full s v w f.0

-- a call that could not be made
pub call_full : (s : Scripted) (l : ScriptLine) (ls : List ScriptLine) (v w : TaskValue) (call back : Call) (f : Called) → f ≡ Called.TrailFull back
    → IsCalled v w call f → IsOutOfEntries s (l ∷ ls) v w
call_full s l ls v w call back f e h = trail_full s l ls v w (subst (IsCalled v w call) e h).0

pub call_seq : (s : Scripted) (v w : TaskValue) (call back : Call) (f : Called) → f ≡ Called.SeqFull back → IsCalled v w call f → IsOutOfCalls s w
call_seq s v w call back f e h = seq_full s v w (subst (IsCalled v w call) e h).0

-- a stop for want of memory has a cause
pub memory_cause : (s : Scripted) (ls : List ScriptLine) (v w : TaskValue) (stop : Option Stop) → IfSome stop (λ x. x ≡ Stop.Memory)
    → IfSome stop (IsCause s ls v w)
memory_cause s ls v w None m = tt
memory_cause s ls v w (Some x) m = subst (IsCause s ls v w) (sym m) tt

-- behind lines that were run
pub cause_then : (s : Scripted) (ls mid mid' : List ScriptLine) (v u w : TaskValue) (x y : List AskedLine) (stop : Option Stop)
    → Ran false s ls mid v u x y → mid ≡ mid' → (IsOrderly s ls → IsOrderly s mid) → IfSome stop (IsCause s mid' u w)
    → IfSome stop (IsCause s ls v w)
cause_then s ls mid mid' v u w x y None ran e on cause = tt
cause_then s ls mid mid' v u w x y (Some Stop.Memory) ran e on cause = tt
cause_then s ls mid mid' v u w x y (Some Stop.TrailFull) ran e on cause =
    out_then s ls mid v u w (subst (λ (rest : List ScriptLine). WentOver true s ls rest v u) (ran.on refl) ran.went)
    (subst (λ (rest : List ScriptLine). IsOutOfEntries s rest u w) (sym e) cause)
cause_then s ls mid mid' v u w x y (Some Stop.NoChild) ran e on cause = cause
cause_then s ls mid mid' v u w x y (Some Stop.SeqFull) ran e on cause = cause
cause_then s ls mid mid' v u w x y (Some Stop.Unscripted) ran e on cause = λ all is. cause all (subst (IsOrderly s) e (on is))

same_stop : (P : Stop → Type 0) (stop : Option Stop) (x : Stop) → stop ≡ Some x → IfSome stop P → P x
same_stop P stop x e p = subst (λ (o : Option Stop). IfSome o P) e p

-- the line of a fork, and all that is run beside it
module _ (s : Scripted) (p : ℕ) (child : Pid) (at until to last : ℕ) (l : ScriptLine) (v u u' c c' w : TaskValue) (r : Entered)
    (asked mine_asked told : List AskedLine) (a b : Bool) (mine theirs : Option Stop) (low : at ≤ until) (mid : until ≤ to)
    (high : to ≤ length s.lines) (end : last ≡ length s.lines) (first : lines_by child.0 (take at s.lines) ≡ [])
    (call_ : Calls v u (Call.Task (TaskCall.Fork child)) r) (is_child : r.reply ≡ Reply.Child c.number) (st : Starts u c c.number)
    (mine_ran : Ran a s (segment p at until s.lines) [] u u' asked mine_asked) (their_ran : Ran b s (segment child.0 at last s.lines) [] c c' [] told)
    (my_cause : IfSome mine (IsCause s (segment p at until s.lines) u u')) (their_cause : IfSome theirs (IsCause s (segment child.0 at last s.lines) c c'))
    (forks : ForksTask s l child.0) (none : NoneWaits s.names child (segment p at until s.lines)) where
  all_lines : segment child.0 at last s.lines ≡ lines_by child.0 s.lines
  all_lines = ap (λ (n : ℕ). segment child.0 at n s.lines) end ∙ from_here child.0 at s.lines (omega (arith, low, mid, high)) first

  fewer : length (segment p at until s.lines) ≤ length (segment p at to s.lines)
  fewer =
      omega (
        arith,
        ap (λ (ls : List ScriptLine). length ls) (cut p at until to s.lines low mid high),
        length-append (segment p at until s.lines) (segment p until to s.lines),
      )

  of_mine : (stop : Stop) → Adopts u' c' w → IsCause s (segment p at until s.lines) u u' stop → IsCause s (l ∷ segment p at to s.lines) v w stop
  of_mine Stop.Memory d cause = tt
  of_mine Stop.TrailFull d cause = out_mine s u' c' w d l (segment p at until s.lines) (segment p at to s.lines) v u call_.made fewer cause
  of_mine Stop.NoChild d cause = none_mine s u' c' w d cause
  of_mine Stop.SeqFull d cause = calls_mine s u' c' w d cause
  of_mine Stop.Unscripted d cause = λ all is. cause all (fork_mine s p child at until to l low mid high forks none is)

  went : WentOver (not b) s (lines_by child.0 s.lines) their_ran.left c c'
  went = subst (λ (ls : List ScriptLine). WentOver (not b) s ls their_ran.left c c') all_lines their_ran.went

  of_theirs : (stop : Stop) → Adopts u' c' w → IsCause s (segment child.0 at last s.lines) c c' stop → IsCause s (l ∷ segment p at to s.lines) v w stop
  of_theirs Stop.Memory d cause = tt
  of_theirs Stop.TrailFull d cause =
      out_theirs s u' c' w d (not b) their_ran.left v u c child r call_ is_child st mine_ran.went.history went (l ∷ segment p at to s.lines)
      (subst (λ (ls : List ScriptLine). IsOutOfEntries s ls c c') all_lines cause)
  of_theirs Stop.NoChild d cause = none_theirs s u' c' w d cause
  of_theirs Stop.SeqFull d cause =
      calls_theirs s u' c' w d (not b) their_ran.left v u c child r call_ is_child st mine_ran.went.history went cause
  of_theirs Stop.Unscripted d cause = λ all is. cause all (subst (IsOrderly s) (sym all_lines) (all child.0))

  of_meeting : (stop : Stop) → IsOwnStop w stop → IsCause s (l ∷ segment p at to s.lines) v w stop
  of_meeting Stop.Memory own = tt
  of_meeting Stop.TrailFull own = absurd own
  of_meeting Stop.NoChild own = absurd own
  of_meeting Stop.SeqFull own = inl own
  of_meeting Stop.Unscripted own = absurd own

  pub fork_lines_cause : (stop : Option Stop) → IfSome stop (IsMeetCause mine theirs u' c' w) → IfSome stop (IsCause s (l ∷ segment p at to s.lines) v w)
  fork_lines_cause None met = tt
  fork_lines_cause (Some stop) met =
      ⊎_elim (λ m. of_mine stop m.1 (same_stop (IsCause s (segment p at until s.lines) u u') mine stop m.0 my_cause))
      (λ o. ⊎_elim (λ t. of_theirs stop t.1 (same_stop (IsCause s (segment child.0 at last s.lines) c c') theirs stop t.0 their_cause))
      (λ own. of_meeting stop own) o) met

-- all lines of a script task, as a worker is handed them
pub work_cause : (lines : List ScriptLine) (s : Scripted) (pid n : ℕ) (stop : Option Stop) (v w : TaskValue) → s ≡ scripted lines
    → n ≡ length s.lines → IfSome stop (IsCause s (segment pid 0 n s.lines) v w) → IfSome stop (IsCause (scripted lines) (lines_by pid lines) v w)
work_cause lines s pid n stop v w e end a =
    subst (λ (z : Scripted). IfSome stop (IsCause z (lines_by pid z.lines) v w)) e
    (subst (λ (ls : List ScriptLine). IfSome stop (IsCause s ls v w))
    (ap (λ (m : ℕ). segment pid 0 m s.lines) end ∙ from_here pid 0 s.lines (omega arith) refl) a)

-- where a task has adopted another
module _ (mine theirs : Option Stop) (u c w : TaskValue) where
  pub meet_gather : (stop : Option Stop) → Adopts u c w
      → IfSome stop (λ why. (mine ≡ Some why) ⊎ ((theirs ≡ Some why) ⊎ (why ≡ Stop.Memory))) → IfSome stop (IsMeetCause mine theirs u c w)
  meet_gather None d why = tt
  meet_gather (Some stop) d why =
      ⊎_elim (λ m. inl (m, d)) (λ o. ⊎_elim (λ t. inr (inl (t, d))) (λ e. inr (inr (subst (IsOwnStop w) (sym e) tt))) o) why

  pub meet_own : (stop : Option Stop) → IfSome stop (IsOwnStop w) → IfSome stop (IsMeetCause mine theirs u c w)
  meet_own None own = tt
  meet_own (Some stop) own = inr (inr own)
