-- The end of a run: its first task may close the kernel, and the record is legal for the script and plain.
use Rattle.std.proofs.Common.{◌≡◌, ℕ, Bool, false, List, [], Option, Some, is_some, IfSome, refl, sym, subst}
use Rattle.atomic_table.specs.Seated.{TableId}
use Rattle.script_spec.specs.Lines.{ScriptLine, table_of}
use Rattle.record_spec.specs.declared.AskedLine.{AskedLine}
use Rattle.record_spec.specs.declared.RunRecord.{RunRecord}
use Rattle.replay_spec.specs.Plain.{IsPlain}
use Rattle.legal_spec.specs.Fits.{IsLegalFor}
use Rattle.smack_kernel.specs.Tasks.{TaskValue, booted_task}
use Rattle.smack_kernel.specs.Answers.{IsWholeTask, ClosedValue, Closes}
use Rattle.runs_spec.specs.Scripts.{scripted, lines_by}
use Rattle.runs_spec.specs.Runs.{Ran}
use Rattle.runs_spec.specs.Stops.{IsOutOfEntries, IsOutOfCalls, HasForkedNone}
use Rattle.run_laws.specs.Laws.{FirstRan, run_record}
use Rattle.run_laws.proofs.Whole.{runs_are_whole}
use Rattle.run_laws.proofs.LegalFor.{runs_are_legal_for_scripts}
use Rattle.run_laws.proofs.Plain.{runs_are_plain}
use Rattle.run_laws.proofs.Room.{runs_have_room}
use Rattle.run_laws.proofs.Orders.{scripts_are_orderly}
use Rattle.script_text.specs.Scripts.{AreRead}
use Rattle.script_run.specs.Closings.{HasRun}
use Rattle.script_run.specs.Stops.{IsCause}
use Rattle.script_run.specs.declared.making.Stop.{Stop}
use Rattle.script_run.specs.declared.making.Stop.TheVariants as Stop

-- the first task of a kernel may close it, however far it came
pub may_close : (lines : List ScriptLine) (read : AreRead lines) (stop : Bool) (table : TableId) (v w : TaskValue) (asked : List AskedLine)
    → v ≡ booted_task table → Ran stop (scripted lines) (lines_by 0 lines) [] v w [] asked → IsWholeTask w
may_close lines read stop table v w asked first ran =
    runs_are_whole read.0 lines read.1 stop table w asked
    (subst (λ (u : TaskValue). Ran stop (scripted lines) (lines_by 0 lines) [] u w [] asked) first ran)

-- the record of what was closed, with the labels of the closed kernel, is that with the labels of the script
module _ (lines : List ScriptLine) (closed : ClosedValue) (asked : List AskedLine) (report : RunRecord) (has : HasRun lines closed asked)
    (is : report ≡ record (run_record lines closed asked) { labels = closed.labels }) where
  as_closed : (P : RunRecord → Type 0) → P (run_record lines closed asked) → P report
  as_closed P p = subst P (sym is)
      (subst (λ labels. P (record (run_record lines closed asked) { labels = labels })) (sym has.closes.labels_are) p)

  -- it is legal for the script
  pub is_legal_for : IsLegalFor lines report
  is_legal_for = as_closed (IsLegalFor lines)
      (runs_are_legal_for_scripts has.read.0 lines has.read.1 has.table has.task asked has.ran closed has.closes)

  -- it is plain
  pub is_plain : IsPlain report
  is_plain = as_closed IsPlain (runs_are_plain has.read.0 lines has.read.1 has.table has.task asked has.ran closed has.closes)

-- a worker that stopped, where its task closed the kernel
pub stop_of_script : (lines : List ScriptLine) (read : AreRead lines) (stop : Option Stop) (why : Stop) (table : TableId) (v w : TaskValue)
    (asked : List AskedLine) (labels : List (List ℕ)) (closed : ClosedValue) → v ≡ booted_task table
    → Ran (is_some stop) (scripted lines) (lines_by 0 lines) [] v w [] asked
    → IfSome stop (IsCause (scripted lines) (lines_by 0 lines) v w) → stop ≡ Some why → labels ≡ table_of lines → Closes labels w closed
    → why ≡ Stop.Memory
stop_of_script lines read stop why table v w asked labels closed first ran cause is named closes =
    by why (subst (λ (o : Option Stop). IfSome o (IsCause (scripted lines) (lines_by 0 lines) (booted_task table) w)) is
    (subst (λ (u : TaskValue). IfSome stop (IsCause (scripted lines) (lines_by 0 lines) u w)) first cause))
    (runs_have_room read.0 lines read.1 (is_some stop) table w asked
    (subst (λ (u : TaskValue). Ran (is_some stop) (scripted lines) (lines_by 0 lines) [] u w [] asked) first ran) closed
    (subst (λ ls. Closes ls w closed) named closes))
  where
    by : (x : Stop) → IsCause (scripted lines) (lines_by 0 lines) (booted_task table) w x
        → (IsOutOfEntries (scripted lines) (lines_by 0 lines) (booted_task table) w → ⊥) × (IsOutOfCalls (scripted lines) w → ⊥)
        × (HasForkedNone w → ⊥) → x ≡ Stop.Memory
    by Stop.Memory c room = refl
    by Stop.TrailFull c room = absurd (room.0 c)
    by Stop.NoChild c room = absurd (room.2 c)
    by Stop.SeqFull c room = absurd (room.1 c)
    by Stop.Unscripted c room =
        let orderly = scripts_are_orderly read.0 lines read.1 in absurd (c orderly (orderly 0))

-- a worker that did not stop ran all lines
pub has_run : (lines : List ScriptLine) (read : AreRead lines) (stop : Bool) (table : TableId) (v w : TaskValue) (asked : List AskedLine)
    (labels : List (List ℕ)) (closed : ClosedValue) → v ≡ booted_task table → Ran stop (scripted lines) (lines_by 0 lines) [] v w [] asked → stop ≡ false
    → labels ≡ table_of lines → Closes labels w closed → HasRun lines closed asked
has_run lines read stop table v w asked labels closed first ran on named closes = record {
  read = read;
  table = table;
  task = w;
  ran =
      subst (λ (s : Bool). FirstRan s lines table w asked) on
      (subst (λ (u : TaskValue). Ran stop (scripted lines) (lines_by 0 lines) [] u w [] asked) first ran);
  closes = subst (λ ls. Closes ls w closed) named closes;
}
