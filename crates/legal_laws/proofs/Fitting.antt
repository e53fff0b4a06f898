use Rattle.std.proofs.Common.{◌≡◌, ◌<◌, ℕ, ◌==◌, inl, inr, List, [], ◌∷◌, length, refl, sym, ap, subst, ◌∙◌}
use Rattle.smack_base.specs.declared.ids.Pid.{Pid}
use Rattle.std.specs.Prelude.{◌&&◌, if◌then◌else◌, nat_le}
use Rattle.script_spec.specs.Lines.{ScriptLine, table_of}
use Rattle.script_spec.specs.Tasks.{task_names}
use Rattle.replay_spec.specs.Laws.{lines_of_task}
use Rattle.replay_spec.specs.Replays.{Run, run_of}
use Rattle.legal_spec.specs.Calls.{Stands, call_count}
use Rattle.legal_spec.specs.Fits.{IsRecorded, batch as batch_of, entry as entry_of, asked as asked_of, HasItsLines}
use Rattle.legal_spec.specs.Legal.{IsEachCallOnce, IsFresh, IsLegal}
use Rattle.legal_spec.specs.Laws.{ReplayedIsLegal}
use Rattle.plain_laws.proofs.Tasks.{names_are_a_table}
use Rattle.replay_laws.proofs.EachLine.{all_recorded, each_call_is_once}
use Rattle.legal_laws.proofs.Places.{stands_more, stands_front, stands_last, asked_kept, asked_there}
use Rattle.legal_laws.proofs.Runs.{batch_by, entry_by, asked_by, IsNext, batch, entry, asked, Replays, first, more, script_replays}
use Rattle.legal_laws.proofs.Growth.{record_of, calls_within}
use Rattle.legal_laws.proofs.Judged.{entries_are_judged, numbers_rise}
use Rattle.legal_laws.proofs.Listed.{listed_pairs, lines_are_listed}
use Rattle.legal_laws.proofs.Answered.{batches_are_privileged, lines_are_answered}
use Rattle.legal_laws.proofs.Forks.{forks_are_known}
use Rattle.legal_laws.proofs.Orders.{number_there, number_is, behind_forks, calls_see, calls_are_told}
use Rattle.legal_laws.proofs.Waits.{waits_are_fresh}

module _ (labels names : List (List ℕ)) where
  -- what a line has become stays where it is
  recorded_kept : (run after : Run) (l : ScriptLine) → IsNext labels names run l after → (number : ℕ) (x : ScriptLine)
      → IsRecorded (record_of labels names run) number x → IsRecorded (record_of labels names after) number x
  recorded_kept run after l (batch ops of may) number x (batch_of i b at own seq line) =
      batch_of i b (stands_front run.journal (batch_by l ops ∷ []) i b at) own seq line
  recorded_kept run after l (batch ops of may) number x (entry_of i e at own seq line) = entry_of i e at own seq line
  recorded_kept run after l (batch ops of may) number x (asked_of i a at own seq line) = asked_of i a at own seq line
  recorded_kept run after l (entry call of) number x (batch_of i b at own seq line) = batch_of i b at own seq line
  recorded_kept run after l (entry call of) number x (entry_of i e at own seq line) =
      entry_of i e (stands_front run.history (entry_by run l call ∷ []) i e at) own seq line
  recorded_kept run after l (entry call of) number x (asked_of i a at own seq line) = asked_of i a at own seq line
  recorded_kept run after l (asked what of so) number x (batch_of i b at own seq line) = batch_of i b at own seq line
  recorded_kept run after l (asked what of so) number x (entry_of i e at own seq line) = entry_of i e at own seq line
  recorded_kept run after l (asked what of so) number x (asked_of i a at own seq line) =
      let kept = asked_kept run.asked (asked_by run l what) i a at in asked_of kept.0 a kept.1 own seq line

  line_recorded : (run after : Run) (l : ScriptLine) → IsNext labels names run l after → IsRecorded (record_of labels names after) l.task l
  line_recorded run after l (batch ops of may) =
      batch_of (length run.journal) (batch_by l ops) (stands_last run.journal (batch_by l ops)) refl refl of
  line_recorded run after l (entry call of) =
      entry_of (length run.history) (entry_by run l call) (stands_last run.history (entry_by run l call)) refl refl of
  line_recorded run after l (asked what of so) =
      let there = asked_there run.asked (asked_by run l what) in asked_of there.0 (asked_by run l what) there.1 refl refl of

  -- each line is a call
  lines_are_recorded : (above : List ScriptLine) (run : Run) → Replays labels names above run → (i : ℕ) (x : ScriptLine) → Stands above i x
      → IsRecorded (record_of labels names run) x.task x
  lines_are_recorded lines now first i x at = cc
  lines_are_recorded lines now (more above l run after replays good in_step rest whole next) i x at =
      elim (stands_more above l i x at) [
        | inl old ↦ recorded_kept run after l next x.task x (lines_are_recorded above run replays i x old)
        | inr new ↦
            subst (λ y. IsRecorded (record_of labels names after) y.task y) (sym new.1) (line_recorded run after l next)
      ]

-- the record of a script that is replayed is legal for it
pub replayed_is_legal : ReplayedIsLegal
replayed_is_legal bytes lines is =
    let labels = table_of lines in
    let names = task_names lines in
    let run = run_of labels names lines in
    let replays = script_replays bytes lines is in
    let table = names_are_a_table bytes lines is in
    let forked = forks_are_known labels names table lines run replays in
    let count : (task : ℕ) → call_count (record_of labels names run) task ≡ lines_of_task lines task =
    λ task. all_recorded (λ t s. t == task) bytes lines is in
    let calls : IsEachCallOnce (record_of labels names run) = record {
      once = λ task seq.
          each_call_is_once bytes lines is task seq
          ∙ ap {B = ℕ} (λ n. if nat_le 1 seq && nat_le seq n then 1 else 0) (sym (count task));
      rising = numbers_rise labels names lines run replays;
      listed = listed_pairs run.asked (lines_are_listed labels names lines run replays);
      of_tasks = λ task seq needs reaches c. (
        record { 0 = task },
        number_there lines run.history forked task (calls_within labels names lines run replays task seq needs reaches c).there,
      );
      behind_fork = λ i k fork e pid at fork_is at_e. behind_forks labels names lines run replays i k fork e pid at fork_is at_e;
    } in
    let fresh : IsFresh (record_of labels names run) = record {
      seen = calls_see labels names lines run replays;
      forked = calls_are_told labels names lines run replays;
      waited = waits_are_fresh labels names table lines run replays;
    } in
    let legal : IsLegal (record_of labels names run) = record {
      names = table;
      calls = calls;
      entries = entries_are_judged labels names lines run replays;
      batches = batches_are_privileged labels names lines run replays;
      asked = lines_are_answered labels names lines run replays;
      fresh = fresh;
    } in
    let own : (pid : Pid) → pid.0 < length names → HasItsLines lines (record_of labels names run) pid =
    λ pid there. record {
      number = pid.0;
      is = number_there lines run.history forked pid.0 there;
      one = λ k number. number_is lines run.history forked k pid number;
      recorded = λ i l at own.
          subst (λ (k : ℕ). IsRecorded (record_of labels names run) k l) own (lines_are_recorded labels names lines run replays i l at);
      many = count pid.0;
    } in
    (legal, record { labels = refl; names = refl; tasks = own })
