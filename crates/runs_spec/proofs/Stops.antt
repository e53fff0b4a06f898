-- The causes for which workers stop, from the line where one stops to the task that adopted all others.
use Rattle.std.proofs.Common.{◌≡◌, ℕ, ◌+◌, ◌≤◌, List, [], ◌∷◌, ◌++◌, length, Bool, true, sym, refl, ap, ◌∙◌, subst, arith, None, ⊎_elim, inl, inr}
use Rattle.smack_base.specs.declared.ids.Pid.{Pid}
use Rattle.world_spec.specs.declared.Call.TheVariants as Call
use Rattle.world_spec.specs.declared.tasks.TaskCall.TheVariants as TaskCall
use Rattle.world_spec.specs.declared.Reply.TheVariants as Reply
use Rattle.script_spec.specs.Lines.{ScriptLine}
use Rattle.smack_world.specs.Stepping.{most_entries}
use Rattle.live_table.specs.Lists.{Begins, Has, here, there}
use Rattle.live_table.proofs.Lists.{has_left, has_right, begins_length, begins_trans}
use Rattle.world_spec.specs.Replies.{child_of}
use Rattle.smack_kernel.specs.Tasks.{TaskValue, Stays, Calls, Starts, Adopts, next_entry}
use Rattle.smack_kernel.specs.declared.turns.Entered.{Entered}
use Rattle.runs_spec.specs.Scripts.{Scripted, lines_by}
use Rattle.runs_spec.specs.Deeds.{Deed, entries_in, batches_in, FitsTo}
use Rattle.runs_spec.specs.Runs.{own, WentOver}
use Rattle.runs_spec.specs.Stops.{IsForkedTask, IsOutOfEntries, IsOutOfCalls, HasForkedNone}
use Rattle.runs_spec.proofs.Growing.{made_grow, all_at-grow}

has_more : {A : Type 0} (xs ys : List A) (x : A) → Begins xs ys → Has x ys → Has x xs
has_more xs ys x b h = subst (Has x) (sym b.is) (has_left b.rest h)

-- the lines are those of the calls and those that are left
pub fits_length : (s : Scripted) (k q : ℕ) (ds : List Deed) (ls rest : List ScriptLine) → FitsTo s k q ds ls rest
    → length ls ≡ length ds + length rest
fits_length s k q [] ls rest f = omega (arith, ap (λ (xs : List ScriptLine). length xs) f)
fits_length s k q (d ∷ ds) [] rest f = absurd f
fits_length s k q (d ∷ ds) (l ∷ ls) rest f = let i = fits_length s k (q + 1) ds ls rest f.1 in omega (arith, i)

-- a line for which there was no room
pub out_here : (s : Scripted) (l : ScriptLine) (ls : List ScriptLine) (v w : TaskValue) → Stays v w → length w.history ≡ most_entries
    → IsOutOfEntries s (l ∷ ls) v w
out_here s l ls v w st e = record { full = omega (arith, e); lacks = inl (let a = st.made in omega (arith, a)) }

-- a fork that made no task
pub none_here : (v w : TaskValue) (pid : Pid) (r : Entered) → Calls v w (Call.Task (TaskCall.Fork pid)) r → child_of r.reply ≡ None → HasForkedNone w
none_here v w pid r c none = record {
  fork = next_entry v (Call.Task (TaskCall.Fork pid)) r;
  there = subst (Has (next_entry v (Call.Task (TaskCall.Fork pid)) r)) (sym c.enters.is) (has_right c.enters.before here);
  own = subst (λ k. Has v.number (k ∷ w.ended)) (sym c.does.number) here;
  pid = pid;
  is = refl;
  none = none;
}

-- behind lines that were run
pub out_then : (s : Scripted) (ls mid : List ScriptLine) (v u w : TaskValue) → WentOver true s ls mid v u → IsOutOfEntries s mid u w
    → IsOutOfEntries s ls v w
out_then s ls mid v u w g o = record {
  full = o.full;
  lacks = ⊎_elim
      (λ a. inl (let b = g.made in let c = fits_length s v.number (v.made + 1) (own g.run) ls mid g.fits in omega (arith, a, b, c)))
      (λ b. inr b) o.lacks;
}

module _ (s : Scripted) (v c w : TaskValue) (a : Adopts v c w) where
  in_own : (k : ℕ) → Has k v.ended → Has k w.ended
  in_own k h = subst (Has k) (sym a.ended) (has_left (c.number ∷ c.ended) h)

  in_told : (k : ℕ) → Has k (c.number ∷ c.ended) → Has k w.ended
  in_told k h = subst (Has k) (sym a.ended) (has_right v.ended h)

  -- what a task knows of a fork without a child it knows when it has adopted another, and it knows what the other knew
  pub none_mine : HasForkedNone v → HasForkedNone w
  none_mine n = record {
    fork = n.fork;
    there = has_more w.history v.history n.fork a.history n.there;
    own = subst (λ (ns : List ℕ). Has n.fork.task ns) (λ i. sym a.number i ∷ sym a.ended i) (has_left (c.number ∷ c.ended) n.own);
    pid = n.pid;
    is = n.is;
    none = n.none;
  }

  pub none_theirs : HasForkedNone c → HasForkedNone w
  none_theirs n = record {
    fork = n.fork;
    there = has_more w.history c.history n.fork a.told_history n.there;
    own = there (in_told n.fork.task n.own);
    pid = n.pid;
    is = n.is;
    none = n.none;
  }

  forked_mine : (k : ℕ) → Has k v.ended → IsForkedTask s v k → IsForkedTask s w k
  forked_mine k h t = record {
    fork = t.fork;
    there = has_more w.history v.history t.fork a.history t.there;
    pid = t.pid;
    is = t.is;
    calls = t.calls;
    made = made_grow v.journal w.journal a.journal v.history w.history a.history k t.calls (a.batches k (there h)) (a.entries k (there h)) t.made;
    rest = t.rest;
    fits = t.fits;
  }

  forked_theirs : (k : ℕ) → Has k c.ended → IsForkedTask s c k → IsForkedTask s w k
  forked_theirs k h t = record {
    fork = t.fork;
    there = has_more w.history c.history t.fork a.told_history t.there;
    pid = t.pid;
    is = t.is;
    calls = t.calls;
    made = made_grow c.journal w.journal a.told_journal c.history w.history a.told_history k t.calls (a.told_batches k (there h)) (a.told_entries k (there h)) t.made;
    rest = t.rest;
    fits = t.fits;
  }

  -- what a task lacks before it adopts another, it lacks after its fork, too
  pub out_mine : (l : ScriptLine) (ls more : List ScriptLine) (x u : TaskValue) → u.made ≡ x.made + 1 → length ls ≤ length more
      → IsOutOfEntries s ls u v → IsOutOfEntries s (l ∷ more) x w
  unfolding forked_mine
  out_mine l ls more x u next fewer o = record {
    full = omega (arith, o.full, begins_length a.history);
    lacks = ⊎_elim (λ m. inl (omega (arith, m, next, fewer, a.made)))
        (λ b. inr (b.0, in_own b.0 b.1, forked_mine b.0 b.1 b.2, b.3)) o.lacks;
  }

  pub calls_mine : IsOutOfCalls s v → IsOutOfCalls s w
  unfolding forked_mine
  calls_mine o = ⊎_elim (λ m. inl (omega (arith, m, a.made))) (λ b. inr (b.0, in_own b.0 b.1, forked_mine b.0 b.1 b.2, b.3)) o

  -- the child of a fork when it was adopted
  module _ (g : Bool) (left : List ScriptLine) (x u d : TaskValue) (pid : Pid) (r : Entered) (call_ : Calls x u (Call.Task (TaskCall.Fork pid)) r)
      (is_child : r.reply ≡ Reply.Child d.number) (st : Starts u d d.number) (more : Begins v.history u.history)
      (went : WentOver g s (lines_by pid.0 s.lines) left d c) where
    is_theirs : Has d.number (c.number ∷ c.ended)
    is_theirs = subst (λ k. Has d.number (k ∷ c.ended)) (sym went.number) here

    abbrev child : IsForkedTask s w d.number
    child = record {
      fork = next_entry x (Call.Task (TaskCall.Fork pid)) r;
      there = has_more w.history u.history (next_entry x (Call.Task (TaskCall.Fork pid)) r) (begins_trans a.history more)
          (subst (Has (next_entry x (Call.Task (TaskCall.Fork pid)) r)) (sym call_.enters.is) (has_right call_.enters.before here));
      pid = pid.0;
      is = (refl, is_child);
      calls = own went.run;
      made = record {
        batches = a.told_batches d.number is_theirs ∙ (went.own_batches ∙ ap (λ l. l ++ batches_in (own went.run)) st.batches);
        entries = a.told_entries d.number is_theirs ∙ (went.own_entries ∙ ap (λ l. l ++ entries_in (own went.run)) st.entries);
        at = all_at-grow c.journal w.journal a.told_journal c.history w.history a.told_history d.number (own went.run) went.at;
      };
      rest = left;
      fits = subst (λ q. FitsTo s d.number q (own went.run) (lines_by pid.0 s.lines) left)
          (let z : d.made + 1 ≡ 1 = omega (arith, st.made) in z) went.fits;
    }

    -- what the child lacks it lacks when it was adopted
    pub out_theirs : (ls : List ScriptLine) → IsOutOfEntries s (lines_by pid.0 s.lines) d c → IsOutOfEntries s ls x w
    unfolding forked_theirs
    out_theirs ls o = record {
      full = omega (arith, o.full, begins_length a.told_history);
      lacks = inr (⊎_elim (λ m. (
        d.number,
        in_told d.number is_theirs,
        child,
        omega (arith, m, st.made, went.made, fits_length s d.number (d.made + 1) (own went.run) (lines_by pid.0 s.lines) left went.fits),
      ))
          (λ b. (b.0, in_told b.0 (there b.1), forked_theirs b.0 b.1 b.2, b.3)) o.lacks);
    }

    pub calls_theirs : IsOutOfCalls s c → IsOutOfCalls s w
    unfolding forked_theirs
    calls_theirs o = inr (⊎_elim (λ m. (d.number, in_told d.number is_theirs, child, omega (arith, m, st.made, went.made)))
        (λ b. (b.0, in_told b.0 (there b.1), forked_theirs b.0 b.1 b.2, b.3)) o)
