-- The record of a script's tasks has each of its lines as one call.
use Rattle.std.proofs.Common.{◌≡◌, ℕ, zero, suc, ◌+◌, ◌<◌, List, [], ◌∷◌, ◌++◌, length, true, sym, refl, ap, ◌∙◌, subst, arith, append_assoc, inl, inr, Option, Some}
use Rattle.atomic_table.specs.Seated.{TableId}
use Rattle.smack_base.specs.declared.ids.Pid.{Pid}
use Rattle.world_spec.specs.declared.Call.{Call}
use Rattle.world_spec.specs.declared.tasks.TaskCall.TheVariants as TaskCall
use Rattle.world_spec.specs.declared.Reply.TheVariants as Reply
use Rattle.world_spec.specs.declared.Entry.{Entry}
use Rattle.verb_spec.specs.declared.Verb.{Verb}
use Rattle.script_spec.specs.Lines.{ScriptLine, word_in, verb_in, table_of}
use Rattle.script_spec.specs.Tasks.{change_by, change_of, forked_name, task_names}
use Rattle.record_spec.specs.declared.AskedLine.{AskedLine}
use Rattle.record_spec.specs.declared.AskedWhat.{AskedWhat}
use Rattle.record_spec.specs.declared.RunRecord.{RunRecord}
use Rattle.replay_spec.specs.declared.Act.TheVariants as Act
use Rattle.replay_spec.specs.Calls.{of_one}
use Rattle.replay_spec.specs.Acts.{act_by, call_by, call_of_line}
use Rattle.replay_spec.proofs.ReadCalls.{act_words}
use Rattle.replay_spec.specs.Laws.{lines_of_task}
use Rattle.replay_spec.specs.Plain.{IsNameTable}
use Rattle.replay_laws.proofs.InStep.{next_pid}
use Rattle.plain_laws.proofs.GoodLines.{AreGoodLines}
use Rattle.plain_laws.proofs.Tasks.{names_more, names_behind}
use Rattle.legal_spec.specs.Calls.{Stands, IsNumberOf, call_count}
use Rattle.legal_spec.specs.Fits.{IsRecorded, batch as batch_of, entry as entry_of, asked as asked_line, FitsScript}
use Rattle.legal_spec.specs.Lines.{IsAskedOfLine}
use Rattle.live_table.specs.Lists.{Has, here, there}
use Rattle.live_table.proofs.Lists.{has_left, has_right}
use Rattle.smack_kernel.specs.Tasks.{TaskValue, booted_task}
use Rattle.smack_kernel.specs.Answers.{ClosedValue, Closes}
use Rattle.runs_spec.specs.Scripts.{scripted, lines_by}
use Rattle.runs_spec.specs.Deeds.{Deed, entered, batched, answered, FitsLine, FitsTo}
use Rattle.runs_spec.specs.Runs.{asked_of, WentOver}
use Rattle.run_laws.proofs.Lists.{stands_has, has_stands, has_those, those_has}
use Rattle.run_laws.proofs.Histories.{seen_as_one}
use Rattle.run_laws.proofs.Deeds.{lines_of, at_of}
use Rattle.run_laws.proofs.Lives.{Life}
use Rattle.run_laws.proofs.Sorting.{in_order}
use Rattle.run_laws.proofs.Counts.{count_is, count_length}
use Rattle.run_laws.proofs.Legal.{record_of, life, numbers_in}
use Rattle.run_laws.proofs.Numbers.{pid_of_life, one_number}
use Rattle.run_laws.proofs.ScriptLines.{lines_numbered, DeedOfLine, deed_of_line, calls_and_lines, ForkLine, fork_line_of}

same_call : (a b : Call) → ◌≡◌ {A = Option Call} (Some a) (Some b) → a ≡ b
same_call a b is = cc

line_in : (ds : List Deed) (a : AskedLine) (m : ℕ) → Has (answered a m) ds → Has a (lines_of ds)
line_in [] a m h = elim h [ ]
line_in (answered x n ∷ ds) a m here = here
line_in (answered x n ∷ ds) a m (there h) = there (line_in ds a m h)
line_in (entered e n ∷ ds) a m (there h) = line_in ds a m h
line_in (batched n b i ∷ ds) a m (there h) = line_in ds a m h

asked_no_fork : (labels names : List (List ℕ)) (l : ScriptLine) (what : AskedWhat) → IsAskedOfLine labels names l what
    → verb_in l ≡ Some Verb.Fork → ⊥
asked_no_fork labels names l (AskedWhat.Ask v) is verb =
    absurd (let x : ◌≡◌ {A = Option Verb} (Some Verb.Ask) (Some Verb.Fork) = sym (act_words labels names l (Act.Ask v.subject v.object v.modes) is).0 ∙ verb in cc)
asked_no_fork labels names l (AskedWhat.Refused file fault) is verb = absurd (let x : ◌≡◌ {A = Option Verb} (Some Verb.Write) (Some Verb.Fork) = sym is.0 ∙ verb in cc)
asked_no_fork labels names l (AskedWhat.Wait pid) is verb =
    absurd (let x : ◌≡◌ {A = Option Verb} (Some Verb.Wait) (Some Verb.Fork) = sym (act_words labels names l (Act.Wait pid) is).0 ∙ verb in cc)

-- each fork of a history made a task
abbrev pub ForksMade : List Entry → Type 0
ForksMade history = (n : ℕ) (e : Entry) (pid : Pid) → Stands history n e → e.call ≡ Call.Task (TaskCall.Fork pid) → (k : ℕ) × (e.reply ≡ Reply.Child k)

module _ (lines : List ScriptLine) (good : AreGoodLines [] lines) (table : IsNameTable (task_names lines)) (left : List ScriptLine) (done : true ≡ true → left ≡ []) (t : TableId) (w : TaskValue) (g : WentOver true (scripted lines) (lines_by 0 lines) left (booted_task t) w) (labels : List (List ℕ)) (closed : ClosedValue) (c : Closes labels w closed) (forked : ForksMade w.history) where
  abbrev h : List Entry
  h = w.history

  abbrev ls : List AskedLine
  ls = in_order (asked_of g.run)

  abbrev names : List (List ℕ)
  names = task_names lines

  abbrev r : RunRecord
  r = record_of true (scripted lines) left done t w g labels closed c

  abbrev LifeOf : ℕ → Type 0
  LifeOf k = Life true (scripted lines) w.journal w.history (in_order (asked_of g.run)) k

  life_of : (k : ℕ) (pid : Pid) → IsNumberOf h k pid → LifeOf k
  life_of k pid is =
      life true (scripted lines) left done t w g labels closed c k (numbers_in true (scripted lines) left done t w g labels closed c k pid is)

  -- a line of a task that has a number is a call of it
  call_of : (k : ℕ) (pid : Pid) → IsNumberOf h k pid → (L : LifeOf k) → (l : ScriptLine) → Has l lines → l.task ≡ pid.0
      → DeedOfLine (scripted lines) k L.calls l
  call_of k pid is L l there_ own =
      let same = pid_of_life true (scripted lines) w.journal h ls (seen_as_one c).steps (seen_as_one c).legal k pid L is in
      deed_of_line (scripted lines) k 1 L.calls (lines_by L.pid lines) l
      (subst (FitsTo (scripted lines) k 1 L.calls (lines_by L.pid lines)) (L.done refl) L.fits) (lines_numbered L.pid lines good)
      (has_those (λ (x : ScriptLine). x.task) L.pid lines l (own ∙ sym same) there_)

  recorded : (k : ℕ) (pid : Pid) → IsNumberOf h k pid → (l : ScriptLine) → Has l lines → l.task ≡ pid.0 → IsRecorded r k l
  recorded k pid is l there_ own =
      let L = life_of k pid is in let d = call_of k pid is L l there_ own in by L d.deed d.there_ d.fits
    where
      by : (L : LifeOf k) (d : Deed) → Has d L.calls → FitsLine (scripted lines) k l.seq d l → IsRecorded r k l
      by L (entered e n) u f = entry_of n e (at_of w.journal h k L.calls (entered e n) L.at u) f.0 f.1 f.2
      by L (batched n b m) u f = batch_of n b (at_of w.journal h k L.calls (batched n b m) L.at u).0 f.0 f.1 f.2
      by L (answered a m) u f =
          let st = has_stands ls a (those_has (λ (x : AskedLine). x.task) k ls a (subst (Has a) (sym L.lines) (line_in L.calls a m u))).1 in
          asked_line st.0 a st.1 f.0 f.1 f.2

  -- the line that forks a task is a call of its own task, which made one
  fork_made : (pid : ℕ) (F : ForkLine lines pid) (k : ℕ) → IsNumberOf h k (record { 0 = F.line.task })
      → (i : ℕ) × IsNumberOf h i (record { 0 = pid })
  fork_made pid F k is =
      let L = life_of k (record { 0 = F.line.task }) is in
      let d = call_of k (record { 0 = F.line.task }) is L F.line (in_lines F) refl in by L d.deed d.there_ d.fits
    where
      in_lines : (F : ForkLine lines pid) → Has F.line lines
      in_lines F = subst (Has F.line) (sym F.is) (has_left F.behind (has_right F.front here))

      line_forks : call_of_line (table_of lines) names F.line ≡ Some (Call.Task (TaskCall.Fork (record { 0 = pid })))
      line_forks =
          let rest = names_behind (F.front ++ F.line ∷ []) F.behind in
          let one : forked_name (change_of F.line) ≡ word_in 1 F.line ∷ [] = ap (λ v. forked_name (change_by v F.line)) F.verb in
          let whole = ap task_names F.is ∙ (rest.1 ∙ (ap (λ ns. ns ++ rest.0) (names_more F.front F.line ∙ ap (λ ns. task_names F.front ++ ns) one)
          ∙ append_assoc (task_names F.front) (word_in 1 F.line ∷ []) rest.0)) in
          let found = next_pid names (task_names F.front) (word_in 1 F.line) rest.0 whole table in
          ap (call_by (table_of lines) F.line)
          (ap (act_by (table_of lines) names F.line) F.verb
          ∙ ap (λ p. of_one p (λ x. Act.Fork x)) (found ∙ ap (λ n. Some (record { 0 = n })) F.many))

      by : (L : LifeOf k) (d : Deed) → Has d L.calls → FitsLine (scripted lines) k F.line.seq d F.line → (i : ℕ) × IsNumberOf h i (record { 0 = pid })
      by L (entered e n) u f =
          let st = at_of w.journal h k L.calls (entered e n) L.at u in
          let call = same_call e.call (Call.Task (TaskCall.Fork (record { 0 = pid }))) (sym f.2 ∙ line_forks) in
          let child = forked n e (record { 0 = pid }) st call in (child.0, inr (n, e, st, (call, child.1)))
      by L (batched n b m) u f = absurd (let x : ◌≡◌ {A = Option Verb} (Some Verb.Write) (Some Verb.Fork) = sym f.2.0 ∙ F.verb in cc)
      by L (answered a m) u f = absurd (asked_no_fork (table_of lines) names F.line a.what f.2 F.verb)

  -- each pid of the script has a number
  numbered : (n pid : ℕ) → pid < n → pid < length names → (k : ℕ) × IsNumberOf h k (record { 0 = pid })
  numbered zero pid lt within = absurd (omega arith)
  numbered (suc n) zero lt within = (0, inl (refl, refl))
  numbered (suc n) (suc p) lt within =
      let F = fork_line_of (suc p) [] lines good (omega arith) within in
      let below = F.good.there in
      let many = F.many in
      let parent = numbered n F.line.task (omega arith) (omega arith) in fork_made (suc p) F parent.0 parent.1

  pub fits_script : FitsScript lines r
  fits_script = record {
    labels = refl;
    names = refl;
    tasks = λ pid within.
        let k = numbered (pid.0 + 1) pid.0 (omega arith) within in
        record {
          number = k.0;
          is = k.1;
          one = λ i is. one_number true (scripted lines) w.journal h ls (seen_as_one c).steps (seen_as_one c).legal i k.0 pid is k.1;
          recorded = λ i l st own. recorded k.0 pid k.1 l (stands_has lines i l st) own;
          many = many k.0 pid k.1;
        };
  } where
    many : (k : ℕ) (pid : Pid) → IsNumberOf h k pid → call_count r k ≡ lines_of_task lines pid.0
    many k pid is =
        let L = life_of k pid is in
        let same = pid_of_life true (scripted lines) w.journal h ls (seen_as_one c).steps (seen_as_one c).legal k pid L is in
        let a = count_is (scripted lines) r k (record {
          calls = L.calls;
          ls = lines_by L.pid lines;
          rest = L.rest;
          fits = L.fits;
          batches = L.batches;
          entries = L.entries;
          lines = L.lines;
        }) in
        let b = calls_and_lines (scripted lines) k 1 L.calls (lines_by L.pid lines)
        (subst (FitsTo (scripted lines) k 1 L.calls (lines_by L.pid lines)) (L.done refl) L.fits) in
        a ∙ (b ∙ (sym (count_length (λ (x : ScriptLine). x.task) L.pid lines) ∙ ap (lines_of_task lines) same))
