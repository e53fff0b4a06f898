-- Each fork of a script's run makes its task, however far the run came.
use Rattle.std.proofs.Common.{◌≡◌, ℕ, ◌+◌, ◌<◌, Bool, true, false, nat_le, List, [], ◌∷◌, ◌++◌, length, sym, refl, ap, ◌∙◌, subst, arith, length-append, Some, None, ⊎_elim}
use Rattle.std.proofs.lemmas.Bool.{cases_Bool, leb-true}
use Rattle.atomic_table.specs.Seated.{TableId}
use Rattle.smack_base.specs.declared.ids.Pid.{Pid}
use Rattle.rules_spec.specs.declared.Batch.{Batch}
use Rattle.world_spec.specs.declared.Call.{Call}
use Rattle.world_spec.specs.declared.tasks.TaskCall.TheVariants as TaskCall
use Rattle.world_spec.specs.declared.Entry.{Entry}
use Rattle.world_spec.specs.Worlds.{TaskRow, world_first, was_made, is_live, most_tasks}
use Rattle.world_spec.specs.Steps.{step}
use Rattle.world_spec.specs.Replays.{version_of}
use Rattle.script_spec.specs.Lines.{ScriptLine, table_of}
use Rattle.script_spec.specs.Tasks.{has_exit, task_names}
use Rattle.record_spec.specs.declared.AskedLine.{AskedLine}
use Rattle.replay_spec.specs.Plain.{IsNameTable}
use Rattle.plain_laws.proofs.GoodLines.{IsGoodLine, AreGoodLines}
use Rattle.legal_laws.proofs.Children.{fork_replies}
use Rattle.legal_spec.specs.Calls.{Stands, IsNumberOf}
use Rattle.legal_spec.specs.Lines.{IsCallOfLine}
use Rattle.live_table.specs.Lists.{Has, here, there}
use Rattle.live_table.proofs.Lists.{has_right, those-append}
use Rattle.world_spec.specs.Replies.{child_of}
use Rattle.smack_kernel.specs.Tasks.{TaskValue, booted_task}
use Rattle.smack_kernel.specs.Answers.{ClosedValue, Closes}
use Rattle.runs_spec.specs.Scripts.{scripted, lines_by}
use Rattle.runs_spec.specs.Deeds.{entered}
use Rattle.runs_spec.specs.Runs.{asked_of, WentOver}
use Rattle.runs_spec.specs.Stops.{HasForkedNone}
use Rattle.run_laws.proofs.Lists.{stands_has, has_stands}
use Rattle.run_laws.proofs.Histories.{seen_as_one}
use Rattle.run_laws.proofs.Deeds.{place_low_of}
use Rattle.run_laws.proofs.Lives.{Life, entry_deed, seqs_rise}
use Rattle.run_laws.proofs.Sorting.{in_order}
use Rattle.run_laws.proofs.Legal.{life, named, entry_task}
use Rattle.run_laws.proofs.Numbers.{one_number}
use Rattle.run_laws.proofs.Pigeons.{pigeons}
use Rattle.run_laws.proofs.Places.{call_line, place_of, compared, good_at, new_pid, one_fork_line, exit_line, exit_before}
use Rattle.run_laws.proofs.Tasks.{world_before, replied_at, NoExit, live_before, live_behind, pids_of, pids_length, pid_made, made_pid, one_pid, MadeBefore, made_by, FewPids, ForksBelow, few_before}

module _ (lines : List ScriptLine) (good : AreGoodLines [] lines) (table : IsNameTable (task_names lines)) (full : Bool) (left : List ScriptLine) (done : full ≡ true → left ≡ []) (t : TableId) (w : TaskValue) (g : WentOver full (scripted lines) (lines_by 0 lines) left (booted_task t) w) (labels : List (List ℕ)) (closed : ClosedValue) (c : Closes labels w closed) where
  abbrev h : List Entry
  h = w.history

  abbrev j : List Batch
  j = w.journal

  abbrev told : List AskedLine
  told = in_order (asked_of g.run)

  abbrev LifeOf : ℕ → Type 0
  LifeOf k = Life full (scripted lines) w.journal w.history (in_order (asked_of g.run)) k

  life_at : (n : ℕ) (e : Entry) → Stands h n e → LifeOf e.task
  life_at n e st =
      life full (scripted lines) left done t w g labels closed c e.task (entry_task full (scripted lines) left done t w g labels closed c n e st)

  number_at : (k : ℕ) (L : LifeOf k) → IsNumberOf h k (record { 0 = L.pid })
  number_at k L = named full (scripted lines) left done t w g labels closed c k L

  -- the line of an entry
  record Lined (e : Entry) (p : ℕ) : Type 0 where
    front : List ScriptLine
    line : ScriptLine
    behind : List ScriptLine
    is : lines ≡ front ++ line ∷ behind
    own : line.task ≡ p
    number : 1 + length (lines_by p front) ≡ e.seq
    call : IsCallOfLine (table_of lines) (task_names lines) line e.call

  lined : (k : ℕ) (L : LifeOf k) (n : ℕ) (e : Entry) → Stands h n e → e.task ≡ k → Lined e L.pid
  lined k L n e st is =
      let deed = entry_deed full (scripted lines) j h told k L n e st is in
      let a = call_line (scripted lines) k 1 L.calls (lines_by L.pid lines) L.rest (entered e n) L.fits deed in
      let b = place_of L.pid lines a.front a.line a.behind a.is in record {
        front = b.front;
        line = a.line;
        behind = b.behind;
        is = b.is;
        own = b.task;
        number = omega (arith, ap (λ (xs : List ScriptLine). length xs) b.own, a.fits.1);
        call = a.fits.2;
      }

  good_line : (e : Entry) (p : ℕ) (a : Lined e p) → IsGoodLine a.front a.line
  good_line e p a = good_at [] a.front a.line a.behind (subst (AreGoodLines []) a.is good)

  -- no exit of a task comes before its entry
  no_exit : (n : ℕ) (e : Entry) → Stands h n e → NoExit e.task h n
  no_exit n e st m x sx lt own exits =
      let L = life_at n e st in
      not_before (lined e.task L n e st refl) (lined e.task L m x sx own) (seqs_rise full (scripted lines) j h told e.task L m n x e sx st own refl lt)
    where
      not_before : {p : ℕ} → Lined e p → Lined x p → x.seq < e.seq → ⊥
      not_before {p} a b early =
          ⊎_elim
          (λ same. absurd (let z = ap (λ (ls : List ScriptLine). length (lines_by p ls)) same.0 in let u = a.number in let v = b.number in omega arith))
          (λ o. ⊎_elim
          (λ f.
          let there_ : Has b.line a.front = subst (Has b.line) (sym f.1) (has_right b.front here) in
          let exit = exit_line (table_of lines) (task_names lines) b.line (b.call ∙ ap (λ (call : Call). Some call) exits) in
          let gone : has_exit a.front a.line.task ≡ true = exit_before a.front b.line a.line.task there_ exit (b.own ∙ sym a.own) in
          absurd (let z : true ≡ false = sym gone ∙ (good_line e p a).live in cc))
          (λ f. absurd (let z = ap (λ (ls : List ScriptLine). length (lines_by p ls)) f.1 in
          let y = ap (λ (ls : List ScriptLine). length ls) (those-append (λ (l : ScriptLine). l.task) p a.front (a.line ∷ f.0)) in
          let n' = a.number in let v = b.number in omega (arith, z, y, n', v, early, length-append (lines_by p a.front) (lines_by p (a.line ∷ f.0))))) o)
          (compared b.front b.line b.behind a.front a.line a.behind (sym b.is ∙ a.is))

  -- the task of an entry is live before it
  live : (n : ℕ) (e : Entry) → Stands h n e → is_live (world_before j world_first h n).tasks e.task ≡ true
  live n e st =
      let L = life_at n e st in
      ⊎_elim
      (λ z. live_before e.task j world_first h n e (subst (λ k. is_live world_first.tasks k ≡ true) (sym z.0) refl) st (no_exit n e st))
      (λ b.
      let low = place_low_of L.place_low L.calls L.place_high e n L.places (entry_deed full (scripted lines) j h told e.task L n e st refl) in
      live_behind e.task j world_first h b.1 n b.0 e (record { 0 = L.pid }) (seen_as_one c).steps b.2 b.3 (let x = b.5 in omega arith) st (no_exit n e st)) L.born

  -- a fork's pid, by its line
  fork_pid : (e : Entry) (p : ℕ) (a : Lined e p) (pid : Pid) → e.call ≡ Call.Task (TaskCall.Fork pid)
      → (pid.0 ≡ length (task_names a.front)) × (length (task_names (a.front ++ a.line ∷ [])) ≡ pid.0 + 1)
  fork_pid e p a pid forks =
      new_pid (table_of lines) (task_names lines) a.front a.behind a.line pid table (ap task_names a.is) (a.call ∙ ap (λ (call : Call). Some call) forks)

  forks_below : ForksBelow most_tasks h
  forks_below x has pid forks =
      let st = has_stands h x has in
      let L = life_at st.0 x st.1 in
      let a = lined x.task L st.0 x st.1 refl in
      omega (arith, (fork_pid x L.pid a pid forks).1, (good_line x L.pid a).few)

  -- no task of its pid was made before it
  is_new : (n : ℕ) (e : Entry) (pid : Pid) → Stands h n e → e.call ≡ Call.Task (TaskCall.Fork pid)
      → was_made (world_before j world_first h n).tasks pid ≡ false
  is_new n e pid st forks = ⊎_elim (λ made. absurd (⊎_elim (λ first. not_first (one_pid pid.0 0 first)) not_other
      (made_by j world_first h n e pid.0 (seen_as_one c).steps st (made_pid (world_before j world_first h n).tasks pid made)))) (λ new. new)
      (cases_Bool (was_made (world_before j world_first h n).tasks pid))
    where
      not_first : pid.0 ≡ 0 → ⊥
      not_first zero_ =
          let L = life_at n e st in
          absurd (omega (arith, zero_, (fork_pid e L.pid (lined e.task L n e st refl) pid forks).0))

      not_other : MadeBefore h n pid.0 → ⊥
      not_other b =
          let L = life_at n e st in
          let M = life_at b.place b.fork b.stands in
          let a = lined e.task L n e st refl in
          let d = lined b.fork.task M b.place b.fork b.stands refl in
          let same = one_fork_line (table_of lines) (task_names lines) lines pid table refl a.front a.line a.behind d.front d.line d.behind a.is d.is
          (a.call ∙ ap (λ (call : Call). Some call) forks) (d.call ∙ ap (λ (call : Call). Some call) b.is.0) in
          let pids : L.pid ≡ M.pid = sym a.own ∙ (ap (λ (l : ScriptLine). l.task) same.1 ∙ d.own) in
          let tasks = one_number full (scripted lines) j h told (seen_as_one c).steps (seen_as_one c).legal e.task b.fork.task (record { 0 = L.pid }) (number_at e.task L)
          (subst (λ p. IsNumberOf h b.fork.task (record { 0 = p })) (sym pids) (number_at b.fork.task M)) in
          let early = seqs_rise full (scripted lines) j h told e.task L b.place n b.fork e b.stands st (sym tasks) refl b.before in
          let count : length (lines_by L.pid a.front) ≡ length (lines_by M.pid d.front) = λ i. length (lines_by (pids i) (same.0 i)) in
          absurd (omega (arith, early, count, a.number, d.number))

  first_few : FewPids most_tasks world_first.tasks
  first_few = record {
    distinct = ((λ i. elim i [ ]), tt);
    below = λ p i. omega (arith, one_pid p 0 i);
  }

  has_room : (n : ℕ) (e : Entry) (pid : Pid) → Stands h n e → e.call ≡ Call.Task (TaskCall.Fork pid)
      → nat_le most_tasks (length (world_before j world_first h n).tasks) ≡ false
  has_room n e pid st forks =
      let rows : List TaskRow = (world_before j world_first h n).tasks in
      let few = few_before most_tasks j world_first h n e st forks_below first_few in
      let most = pigeons most_tasks (pid.0 ∷ pids_of rows)
      ((λ i. pid_made rows pid pid.0 refl (is_new n e pid st forks) i), few.distinct) (below few (forks_below e (stands_has h n e st) pid forks)) in
      ⊎_elim (λ z. absurd (omega (arith, most, leb-true most_tasks (length rows) z, pids_length rows))) (λ z. z)
      (cases_Bool (nat_le most_tasks (length rows)))
    where
      below : FewPids most_tasks (world_before j world_first h n).tasks → pid.0 < most_tasks → (x : ℕ) → Has x (pid.0 ∷ pids_of (world_before j world_first h n).tasks)
          → x < most_tasks
      below few low x here = low
      below few low x (there i) = few.below x i

  pub none_forked_none : HasForkedNone w → ⊥
  none_forked_none f =
      let st = has_stands h f.fork f.there in
      let before = world_before j world_first h st.0 in
      let version = version_of j f.fork.version in
      let child = fork_replies before version f.fork.task f.pid (live st.0 f.fork st.1) (is_new st.0 f.fork f.pid st.1 f.is)
      (has_room st.0 f.fork f.pid st.1 f.is) in
      let replied = replied_at j world_first h st.0 f.fork (seen_as_one c).steps st.1
      ∙ (ap (λ (call : Call). (step before version f.fork.task call).reply) f.is ∙ child) in
      absurd (let z : Some (length before.tasks) ≡ None = sym (ap child_of replied) ∙ f.none in cc)
