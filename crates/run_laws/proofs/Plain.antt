-- The record of a script's tasks is plain.
use Rattle.std.proofs.Common.{◌≡◌, ℕ, zero, suc, ◌<◌, List, [], ◌∷◌, ◌++◌, length, Bool, true, sym, refl, subst}
use Rattle.std.specs.List.{AllByRecursion}
use Rattle.atomic_table.specs.Seated.{TableId}
use Rattle.rules_spec.specs.declared.Batch.{Batch}
use Rattle.rules_spec.specs.declared.Verdict.{Verdict}
use Rattle.world_spec.specs.declared.Entry.{Entry}
use Rattle.world_spec.specs.Worlds.{World, world_first}
use Rattle.world_spec.specs.Replays.{AreSteps, version_of, after_entry}
use Rattle.verb_spec.specs.Words.{is_file_name}
use Rattle.script_spec.specs.Lines.{ScriptLine, word_in, table_of}
use Rattle.script_spec.specs.Tasks.{task_names}
use Rattle.record_spec.specs.declared.AskedLine.{AskedLine}
use Rattle.record_spec.specs.declared.AskedWhat.{AskedWhat}
use Rattle.replay_spec.specs.Plain.{IsPlainBatch, IsPlainCall, IsPlainEntry, IsPlainVerdict, IsPlainReply, IsPlainAnswer, IsPlainWhat, IsPlainAsked}
use Rattle.replay_spec.proofs.KnownLabels.{known_id}
use Rattle.replay_spec.specs.declared.Act.TheVariants as Act
use Rattle.replay_spec.proofs.ReadValues.{known_pid}
use Rattle.replay_spec.proofs.ReadCalls.{act_words}
use Rattle.plain_laws.proofs.GoodLines.{AreGoodLines, good_lines}
use Rattle.plain_laws.proofs.LabelTables.{labels_are_a_table, table_has_first}
use Rattle.plain_laws.proofs.Tasks.{names_are_a_table}
use Rattle.plain_laws.proofs.PlainWrites.{compiled_is_plain}
use Rattle.plain_laws.proofs.PlainVerdicts.{answer_is_plain}
use Rattle.plain_laws.proofs.PlainWorlds.{IsPlainWorld, first_world_is_plain}
use Rattle.plain_laws.proofs.PlainSteps.{step_is_plain}
use Rattle.plain_laws.proofs.PlainRuns.{HasFileName}
use Rattle.plain_laws.proofs.Replays.{line_named}
use Rattle.legal_spec.specs.Calls.{Stands}
use Rattle.legal_spec.specs.Legal.{IsSo}
use Rattle.legal_spec.specs.Lines.{IsAskedOfLine}
use Rattle.live_table.specs.Lists.{Has, here, there}
use Rattle.smack_kernel.specs.Tasks.{TaskValue, booted_task}
use Rattle.smack_kernel.specs.Answers.{ClosedValue, Closes}
use Rattle.runs_spec.specs.Scripts.{scripted, lines_by}
use Rattle.runs_spec.specs.Deeds.{Deed, entered, batched, answered}
use Rattle.runs_spec.specs.Runs.{numbers, asked_of, WentOver}
use Rattle.run_laws.specs.Laws.{RunsArePlain}
use Rattle.run_laws.proofs.Lists.{stands_has, those_has}
use Rattle.run_laws.proofs.Histories.{seen_as_one}
use Rattle.run_laws.proofs.Lives.{Life, entry_deed, batch_deed, line_deed}
use Rattle.run_laws.proofs.Sorting.{in_order}
use Rattle.run_laws.proofs.Creds.{all_stand}
use Rattle.run_laws.proofs.Legal.{record_of, life, entry_task, batch_task, line_number, LineOf, line_of_deed, are_answered}

-- a write of a script is to a word that names a file
file_named : (above ls : List ScriptLine) → AreGoodLines above ls → (l : ScriptLine) → Has l ls → HasFileName l
file_named above [] good l h is = elim h [ ]
file_named above (x ∷ ls) good l here is = line_named above x good.0 is
file_named above (x ∷ ls) good l (there h) is = file_named (above ++ x ∷ []) ls good.1 l h is

-- steps from a plain world, of calls that lines give, are plain
steps_are_plain : (table names : List (List ℕ)) → 0 < length table → (j : List Batch) (w : World) (es : List Entry) → IsPlainWorld table w
    → AreSteps j w es → ((n : ℕ) (e : Entry) → Stands es n e → IsPlainCall table names e.call)
    → AllByRecursion (IsPlainEntry table names) es
steps_are_plain table names first j w [] plain steps given = tt
steps_are_plain table names first j w (e ∷ es) plain steps given =
    let after = step_is_plain table first w plain (version_of j e.version) e.task names e.call (given zero e refl) in (
      record {
        call = given zero e refl;
        checks = subst (λ (vs : List Verdict). AllByRecursion (IsPlainVerdict table) vs) (sym steps.0) after.checks;
        reply = subst IsPlainReply (sym steps.1) after.reply;
      },
      steps_are_plain table names first j (after_entry j w e) es after.world steps.2 (λ n x st. given (suc n) x st),
    )

module _ (full : Bool) (lines : List ScriptLine) (good : AreGoodLines [] lines) (left : List ScriptLine) (done : full ≡ true → left ≡ []) (t : TableId) (w : TaskValue) (g : WentOver full (scripted lines) (lines_by 0 lines) left (booted_task t) w) (labels : List (List ℕ)) (closed : ClosedValue) (c : Closes labels w closed) where
  abbrev h : List Entry
  h = w.history

  abbrev j : List Batch
  j = w.journal

  abbrev ls : List AskedLine
  ls = in_order (asked_of g.run)

  abbrev table : List (List ℕ)
  table = table_of lines

  abbrev names : List (List ℕ)
  names = task_names lines

  abbrev LifeOf : ℕ → Type 0
  LifeOf k = Life full (scripted lines) w.journal w.history (in_order (asked_of g.run)) k

  life_of : (k : ℕ) → Has k (0 ∷ numbers g.run) → LifeOf k
  life_of k u = life full (scripted lines) left done t w g labels closed c k u

  line_of : (k : ℕ) (L : LifeOf k) (d : Deed) → Has d L.calls → LineOf (scripted lines) k d (lines_by L.pid lines)
  line_of k L d u = line_of_deed (scripted lines) k 1 L.calls (lines_by L.pid lines) L.rest d L.fits u

  batch_plain : (n : ℕ) (b : Batch) → Stands j n b → IsPlainBatch table b
  batch_plain n b st =
      let L = life_of b.task (batch_task full (scripted lines) left done t w g labels closed c n b st) in
      let d = batch_deed full (scripted lines) j h ls b.task L n b st refl in
      let l = line_of b.task L (batched n b d.0) d.1 in
      compiled_is_plain table (word_in 1 l.l) l.l.text.bytes b.ops l.fits.2.1

  call_plain : (n : ℕ) (e : Entry) → Stands h n e → IsPlainCall table names e.call
  call_plain n e st =
      let L = life_of e.task (entry_task full (scripted lines) left done t w g labels closed c n e st) in
      let l = line_of e.task L (entered e n) (entry_deed full (scripted lines) j h ls e.task L n e st refl) in
      record { line = l.l; gives = l.fits.2 }

  what_plain : (a : AskedLine) (l : ScriptLine) → Has l lines → (what : AskedWhat) → IsAskedOfLine table names l what
      → IsSo (record_of full (scripted lines) left done t w g labels closed c) a what → IsPlainWhat table names what
  what_plain a l u (AskedWhat.Ask v) is so =
      let words = act_words table names l (Act.Ask v.subject v.object v.modes) is in
      subst (IsPlainAnswer table) (sym so)
      (answer_is_plain table (version_of j a.version) v.subject v.object v.modes (known_id table (word_in 1 l) v.subject words.1)
      (known_id table (word_in 2 l) v.object words.2))
  what_plain a l u (AskedWhat.Refused file fault) is so = subst (λ x. is_file_name x ≡ true) (sym is.1) (file_named [] lines good l u is.0)
  what_plain a l u (AskedWhat.Wait pid) is so = known_pid names (word_in 1 l) pid (act_words table names l (Act.Wait pid) is).1

  asked_plain : (n : ℕ) (a : AskedLine) → Stands ls n a → IsPlainAsked table names a
  asked_plain n a st =
      let L = life_of a.task (line_number full (scripted lines) left done t w g labels closed c n a st) in
      let d = line_deed full (scripted lines) j h ls a.task L a (stands_has ls n a st) refl in
      let l = line_of a.task L (answered a d.0) d.1 in
      what_plain a l.l (those_has (λ (x : ScriptLine). x.task) L.pid lines l.l l.there_).1 a.what l.fits.2
      (are_answered full (scripted lines) left done t w g labels closed c n a st).1

  pub journal_is_plain : AllByRecursion (IsPlainBatch table) j
  journal_is_plain = all_stand (IsPlainBatch table) j batch_plain

  pub history_is_plain : 0 < length table → AllByRecursion (IsPlainEntry table names) h
  history_is_plain first = steps_are_plain table names first j world_first h (first_world_is_plain table first) (seen_as_one c).steps call_plain

  pub asked_is_plain : AllByRecursion (IsPlainAsked table names) ls
  asked_is_plain = all_stand (IsPlainAsked table names) ls asked_plain

pub runs_are_plain : RunsArePlain
runs_are_plain bytes lines is t w told ran closed c =
    let table = labels_are_a_table bytes lines is in
    let good = good_lines bytes lines is in
    let done : true ≡ true → ran.left ≡ [] = λ _. ran.on refl in
    let first = table_has_first (table_of lines) table in
    record {
      labels = table;
      names = names_are_a_table bytes lines is;
      journal =
          subst (AllByRecursion (IsPlainBatch (table_of lines))) (sym c.journal)
          (journal_is_plain true lines good ran.left done t w ran.went (table_of lines) closed c);
      history =
          subst (AllByRecursion (IsPlainEntry (table_of lines) (task_names lines))) (sym c.history)
          (history_is_plain true lines good ran.left done t w ran.went (table_of lines) closed c first);
      asked =
          subst (λ (x : List AskedLine). AllByRecursion (IsPlainAsked (table_of lines) (task_names lines)) (in_order x)) (sym (ran.asked refl))
          (asked_is_plain true lines good ran.left done t w ran.went (table_of lines) closed c);
    }
