-- What the workers' lines come to.
use Rattle.std.proofs.Common.{◌≡◌, ◌⊎◌, ℕ, ◌+◌, ◌<◌, ◌≤◌, List, [], ◌∷◌, ◌++◌, length, take, Bool, true, false, Option, Some, None, Ok, Err, sym, refl, ap, ◌∙◌, subst, arith, ⊎_elim, inl, inr}
use Rattle.std.specs.Bool.{OnFalse}
use Rattle.smack_base.specs.declared.ids.Pid.{Pid}
use Rattle.smack_base.specs.declared.ids.LabelId.{LabelId}
use Rattle.smack_base.specs.declared.modes.Modes.{Modes}
use Rattle.rules_spec.specs.declared.Verdict.{Verdict}
use Rattle.rules_spec.specs.Rulings.{ruling}
use Rattle.rules_spec.specs.Cases.{verdict_of_cases}
use Rattle.file_spec.specs.declared.Refusal.{Refusal}
use Rattle.world_spec.specs.declared.Call.{Call}
use Rattle.world_spec.specs.declared.Call.TheVariants as Call
use Rattle.world_spec.specs.declared.tasks.TaskCall.TheVariants as TaskCall
use Rattle.world_spec.specs.declared.Reply.TheVariants as Reply
use Rattle.record_spec.specs.declared.AskedLine.{AskedLine}
use Rattle.record_spec.specs.declared.AskedWhat.TheVariants as AskedWhat
use Rattle.script_spec.specs.Lines.{ScriptLine, word_in, table_of}
use Rattle.script_spec.specs.Tasks.{task_names}
use Rattle.replay_spec.specs.declared.Act.TheVariants as Act
use Rattle.replay_spec.specs.Acts.{act_of_line, call_by}
use Rattle.replay_spec.proofs.ReadCalls.{act_words}
use Rattle.world_spec.specs.Replies.{child_of}
use Rattle.smack_kernel.specs.Tasks.{TaskValue, Stays, Calls, Starts, Adopts, Answers, IsSound, LoadsOnce, most_calls}
use Rattle.smack_kernel.specs.Answers.{IsCalled, IsTrailFull, IsSeqFull, IsWritten, IsAsked, IsForked as IsKernelForked}
use Rattle.smack_kernel.specs.declared.turns.Entered.{Entered}
use Rattle.smack_kernel.specs.declared.kernel.Called.{Called}
use Rattle.smack_kernel.specs.declared.kernel.Called.TheVariants as Called
use Rattle.smack_kernel.specs.declared.kernel.Written.{Written}
use Rattle.smack_kernel.specs.declared.kernel.Written.TheVariants as Written
use Rattle.smack_kernel.specs.declared.kernel.Asked.{Asked}
use Rattle.smack_kernel.specs.declared.kernel.Asked.TheVariants as Asked
use Rattle.runs_spec.specs.Scripts.{Scripted, scripted, ForksTask, lines_by, segment}
use Rattle.runs_spec.specs.Runs.{Ran}
use Rattle.runs_spec.specs.Meetings.{MeetAt, Met}
use Rattle.runs_spec.proofs.Acts.{make_forks_nothing}
use Rattle.runs_spec.proofs.Runs.{stopped, ran_then}
use Rattle.runs_spec.proofs.Calls.{line_of, went_entry, ran_entry, ran_batch, ran_stopped, ran_unchanged, stays_self}
use Rattle.runs_spec.proofs.Lines.{ran_asked, ran_refused, ran_written}
use Rattle.runs_spec.proofs.Meetings.{LinesOn, fork_ran, met_stop, met_end, met_wait}
use Rattle.runs_spec.proofs.Segments.{cut, empty, from_here}
use Rattle.script_acts.specs.Places.{IsWaitAt}
use Rattle.script_run.specs.Stages.{IsForkRun, IsWaitRun}
use Rattle.script_run.specs.declared.making.Stop.{Stop}

-- a fork that made no child
pub unforked : (s : Scripted) (l : ScriptLine) (ls rest : List ScriptLine) (v w : TaskValue) (x y : List AskedLine) (pid : Pid)
    → ForksTask s l pid.0 → Stays v w ⊎ ((r : Entered) × Calls v w (Call.Task (TaskCall.Fork pid)) r × (child_of r.reply ≡ None))
    → Ran true s (l ∷ ls) rest v w x y
unforked s l ls rest v w x y pid line f = ⊎_elim (λ st. ran_stopped s (l ∷ ls) rest v w x y st)
    (λ e. stopped false s (l ∷ ls) ls rest v w x y (went_entry false s l ls v w (Call.Task (TaskCall.Fork pid)) e.0 line e.1 e.2
    (λ z. absurd (let x : ◌≡◌ {A = Bool} false true = z in cc))
    (λ z. absurd (let x : ◌≡◌ {A = Bool} false true = z in cc)))) f

-- the place where the halves of a fork meet
pub meet_place : (wait : Option AskedLine) (stop : Bool) (at until to place : ℕ) → MeetAt wait stop until to place → at ≤ until → until ≤ to
    → stop ≡ false → (at ≤ place) × (place ≤ to)
meet_place None stop at until to place m low high e = let a = m e in let x = a.0 in let y = a.1 in (omega arith, omega arith)
meet_place (Some l) stop at until to place m low high e = let x = m.0 in let y = m.1 in (omega arith, omega arith)

-- the line of a fork, and all that is run beside it
module _ (s : Scripted) (p : ℕ) (child : Pid) (at until to last place : ℕ) (l : ScriptLine) (v u u' c c' w : TaskValue) (r : Entered)
    (asked mine_asked told after : List AskedLine) (a b stop : Bool) where
  pub fork_lines : at ≤ until → until ≤ to → to ≤ length s.lines → last ≡ length s.lines → lines_by child.0 (take at s.lines) ≡ []
      → ForksTask s l child.0 → Calls v u (Call.Task (TaskCall.Fork child)) r → r.reply ≡ Reply.Child c.number → Starts u c c.number
      → LoadsOnce v u → Ran a s (segment p at until s.lines) [] u u' asked mine_asked → Ran b s (segment child.0 at last s.lines) [] c c' [] told
      → Met s child.0 a b stop u' c' w mine_asked told after until to place
      → (until < to → IsWaitAt s.names s.lines p child until to)
      → Ran stop s (l ∷ segment p at to s.lines) (segment p place to s.lines) v w asked after
  fork_lines low mid high end first line call_ is_child st once mine theirs met waits =
      subst (λ (x : List ScriptLine). Ran stop s (l ∷ x) (segment p place to s.lines) v w asked after)
      (sym (cut p at until to s.lines low mid high))
      (fork_ran s child.0 l (segment p at until s.lines) (segment p until to s.lines) (segment p place to s.lines) v u u' c c' w r asked
      mine_asked told after until to place a b stop line call_ is_child st once mine
      (subst (λ (x : List ScriptLine). Ran b s x [] c c' [] told)
      (ap (λ (n : ℕ). segment child.0 at n s.lines) end ∙ from_here child.0 at s.lines (omega arith) first) theirs) met on) where
        on : LinesOn s child.0 until to place (segment p until to s.lines) (segment p place to s.lines)
        on = record {
          none = λ e. ap (λ (n : ℕ). segment p n to s.lines) e ∙ empty p to s.lines high;
          end = λ e i. ap (λ (n : ℕ). segment p n to s.lines) (i ∙ e) ∙ empty p to s.lines high;
          line = λ lt e. let x = waits lt in (x.line, x.waits s.labels, x.is ∙ ap (λ (n : ℕ). x.line ∷ segment p n to s.lines) (sym e));
        }

pub forked_some : (v w c : TaskValue) (pid : Pid) (called : Called) → IsKernelForked v w pid called (Some c) → LoadsOnce v w
    → IsForkRun v w pid (Ok c)
forked_some v w c pid (Called.Entry r) f once = (r, f.1, f.2, f.3, once)
forked_some v w c pid (Called.TrailFull back) f once = absurd f
forked_some v w c pid (Called.SeqFull back) f once = absurd f

pub forked_none : (v w : TaskValue) (pid : Pid) (called : Called) (stop : Stop) → v.version ≤ length v.journal
    → IsKernelForked v w pid called None → IsForkRun v w pid (Err stop)
forked_none v w pid (Called.Entry r) stop top f = inr (r, f.1, f.2)
forked_none v w pid (Called.TrailFull back) stop top f = inl f.0.1
forked_none v w pid (Called.SeqFull back) stop top f = inl (subst (λ (u : TaskValue). Stays v u) (sym f.0.1) (stays_self v top))

module _ (s : Scripted) (l : ScriptLine) (ls : List ScriptLine) (v w : TaskValue) (x y : List AskedLine) where
  pub called_entry : (call : Call) (f : Called) (r : Entered) → act_of_line s.labels s.names l ≡ Some (Act.Make call)
      → f ≡ Called.Entry r → IsCalled v w call f → LoadsOnce v w → Ran false s (l ∷ ls) ls v w x x
  called_entry call f r does e h once =
      let h' : (v.made < most_calls) × Calls v w call r = subst (IsCalled v w call) e h in
      ran_entry s l ls v w x call r (ap (call_by s.labels l) does) (make_forks_nothing s.labels s.names l call does) h'.1 once

  pub called_full : (call back : Call) (f : Called) → f ≡ Called.TrailFull back → IsCalled v w call f → Ran true s (l ∷ ls) ls v w x y
  called_full call back f e h =
      let h' : IsTrailFull v w × (back ≡ call) = subst (IsCalled v w call) e h in
      ran_stopped s (l ∷ ls) ls v w x y h'.0.1

  pub called_seq : (call back : Call) (f : Called) → v.version ≤ length v.journal → f ≡ Called.SeqFull back → IsCalled v w call f
      → Ran true s (l ∷ ls) ls v w x y
  called_seq call back f top e h =
      let h' : IsSeqFull v w × (back ≡ call) = subst (IsCalled v w call) e h in
      ran_unchanged s (l ∷ ls) ls v w x y top h'.0.1

  module _ (file : List ℕ) (f : Written) (named : file ≡ word_in 1 l) (does : act_of_line s.labels s.names l ≡ Some Act.Write)
      (top : v.version ≤ length v.journal) (h : IsWritten s.labels v w file l.text.bytes f) where
    is_written : (g : Written) → f ≡ g → IsWritten s.labels v w (word_in 1 l) l.text.bytes g
    is_written g e = subst (λ (z : List ℕ × Written). IsWritten s.labels v w z.0 l.text.bytes z.1) (λ i. (named i, e i)) h

    pub written_batch : (version : ℕ) → IsSound v → f ≡ Written.Batch version → LoadsOnce v w → Ran false s (l ∷ ls) ls v w x x
    written_batch version sound e once = let h' = is_written (Written.Batch version) e in
        ran_batch s l ls v w x h'.1.0 version top sound (act_words s.labels s.names l Act.Write does, h'.1.1) h'.1.2 once

    pub written_entry : (r : Entered) → f ≡ Written.Entry r → LoadsOnce v w → Ran false s (l ∷ ls) ls v w x x
    written_entry r e once = let h' = is_written (Written.Entry r) e in ran_written s l ls v w x h'.1.0 r does h'.1.1 h'.1.2 once

    pub written_refused : (b : Bool) (version : ℕ) (fault : Refusal) → IsSound v → f ≡ Written.Refused version fault
        → OnFalse b (y ≡ x ++ line_of v version (AskedWhat.Refused (word_in 1 l) fault) ∷ []) → LoadsOnce v w → Ran b s (l ∷ ls) ls v w x y
    written_refused b version fault sound e more once =
        ran_refused s l ls v w x y once b version fault does top sound (is_written (Written.Refused version fault) e).1 more

    pub written_full : f ≡ Written.TrailFull → Ran true s (l ∷ ls) ls v w x y
    written_full e = ran_stopped s (l ∷ ls) ls v w x y (is_written Written.TrailFull e).0.1

    pub written_seq : f ≡ Written.SeqFull → Ran true s (l ∷ ls) ls v w x y
    written_seq e = ran_unchanged s (l ∷ ls) ls v w x y top (is_written Written.SeqFull e).1

  pub asked_verdict : (subject object : LabelId) (m : Modes) (f : Asked) (b : Bool) (version : ℕ) (verdict : Verdict)
      → act_of_line s.labels s.names l ≡ Some (Act.Ask subject object m) → f ≡ Asked.Verdict version verdict → IsAsked v w subject object m f
      → OnFalse b (y ≡ x ++ line_of v version (AskedWhat.Ask verdict) ∷ []) → LoadsOnce v w → Ran b s (l ∷ ls) ls v w x y
  asked_verdict subject object m f b version verdict does e h more once =
      let h' : (v.made < most_calls) × Answers v w version × (verdict ≡ verdict_of_cases (ruling w.journal) subject object m) =
      subst (IsAsked v w subject object m) e h in
      ran_asked s l ls v w x y once b version subject object m verdict does h'.1 h'.2 more

  pub asked_seq : (subject object : LabelId) (m : Modes) (f : Asked) → v.version ≤ length v.journal → f ≡ Asked.SeqFull
      → IsAsked v w subject object m f → Ran true s (l ∷ ls) ls v w x y
  asked_seq subject object m f top e h =
      let h' : IsSeqFull v w = subst (IsAsked v w subject object m) e h in ran_unchanged s (l ∷ ls) ls v w x y top h'.1

pub on_false : {P : Type 0} (b : Bool) → OnFalse b P → b ≡ false → P
on_false true p e = absurd (let e' : true ≡ false = e in cc)
on_false false p e = p

module _ (s : Scripted) (pid : ℕ) (u c w : TaskValue) (asked told after : List AskedLine) (until to : ℕ) (a b : Bool) where
  -- a half stopped, or no line waits for the child
  pub meet_early : (stop : Bool) → Adopts u c w → OnFalse stop ((a ≡ false) × (b ≡ false) × (after ≡ asked ++ told))
      → (stop ≡ false → until ≡ to) → Met s pid a b stop u c w asked told after until to until
  meet_early true d on end = met_stop s pid u c asked told after until to a b w until d
  meet_early false d on end = met_end s pid u c asked told after until to a b w d on.0 on.1 on.2 (end refl)

  -- a line waits for it
  pub meet_wait : (x : TaskValue) (stop : Bool) (lines : List AskedLine) → Adopts u c x → (a ≡ false) × (b ≡ false) × (lines ≡ asked ++ told)
      → until < to → IsWaitRun x w (record { 0 = pid }) stop lines after
      → Met s pid a b stop u c w asked told after until to (until + 1)
  meet_wait x stop lines d on lt waits = ⊎_elim
      (λ no. subst (λ (z : Bool). Met s pid a b z u c w asked told after until to (until + 1)) (sym no.0)
      (met_stop s pid u c asked told after until to a b w (until + 1) (subst (Adopts u c) (sym no.1) d)))
      (λ one. met_wait s pid u c asked told after until to a b stop x w d one.0 on.0 on.1
      (λ e. on_false stop one.1 e ∙ ap (λ (ls : List AskedLine). ls ++ record { task = x.number; seq = x.made + 1; version = x.version; what = AskedWhat.Wait (record { 0 = pid }) } ∷ []) on.2) lt)
      waits

-- a worker's loop: one more line
module _ (s : Scripted) (ls : List ScriptLine) (v u w : TaskValue) (x y z : List AskedLine) (mid mid' rest : List ScriptLine) (stop : Bool)
    (so_far : Ran false s ls mid v u x y) (next : mid ≡ mid') (line : Ran stop s mid' rest u w y z) where
  both : Ran stop s ls rest v w x z
  both = ran_then stop s ls mid rest v u w x y z so_far (subst (λ (m : List ScriptLine). Ran stop s m rest u w y z) (sym next) line)

  pub go_on : stop ≡ false → Ran false s ls rest v w x z
  go_on e = subst (λ (b : Bool). Ran b s ls rest v w x z) e both

  pub go_stops : stop ≡ true → (r : List ScriptLine) → Ran stop s ls r v w x z
  go_stops e r = record {
    left = both.left;
    went = both.went;
    on = λ f. absurd (let g : true ≡ false = sym e ∙ f in cc);
    asked = both.asked;
  }

-- no line is left
pub go_ends : (s : Scripted) (ls mid : List ScriptLine) (v w : TaskValue) (x y : List AskedLine) → Ran false s ls mid v w x y → mid ≡ []
    → Ran false s ls [] v w x y
go_ends s ls mid v w x y a e = subst (λ (m : List ScriptLine). Ran false s ls m v w x y) e a

-- a stage with the labels, the tasks and the lines of a script
pub staged : (lines ls : List ScriptLine) (labels names : List (List ℕ)) → labels ≡ table_of lines → names ≡ task_names lines → ls ≡ lines
    → ◌≡◌ {A = Scripted} (record { labels = labels; names = names; lines = ls }) (scripted lines)
staged lines ls labels names a b c = λ i. record { labels = a i; names = b i; lines = c i }

-- all lines of a script task, as a worker is handed them
pub work_lines : (lines : List ScriptLine) (s : Scripted) (pid n : ℕ) (stop : Bool) (v w : TaskValue) (y : List AskedLine) → s ≡ scripted lines
    → n ≡ length s.lines → Ran stop s (segment pid 0 n s.lines) [] v w [] y → Ran stop (scripted lines) (lines_by pid lines) [] v w [] y
work_lines lines s pid n stop v w y e end a =
    subst (λ (z : Scripted). Ran stop z (lines_by pid z.lines) [] v w [] y) e
    (subst (λ (ls : List ScriptLine). Ran stop s ls [] v w [] y)
    (ap (λ (m : ℕ). segment pid 0 m s.lines) end ∙ from_here pid 0 s.lines (omega arith) refl) a)
