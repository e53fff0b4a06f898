use Rattle.std.proofs.Common.{◌≡◌, ℕ, Bool, true, false, if◌then◌else◌, List, [], ◌∷◌, ◌++◌, length, refl, sym, ap, subst, ◌∙◌, append_assoc, append-nil, fold, Option, Some, None, Result, Ok, Err}
use Rattle.std.specs.Prelude.{is_some}
use Rattle.smack_base.specs.declared.cap.Cap.TheVariants as Cap
use Rattle.smack_base.specs.declared.rule_op.RuleOp.{RuleOp}
use Rattle.rules_spec.specs.declared.Batch.{Batch}
use Rattle.rules_spec.specs.Rulings.{ruling}
use Rattle.rules_spec.specs.Cases.{verdict_of_cases}
use Rattle.rules_spec.specs.Creds.{is_effective}
use Rattle.file_spec.specs.declared.Refusal.{Refusal}
use Rattle.file_spec.specs.declared.Refusal.TheVariants as Refusal
use Rattle.file_spec.specs.declared.Compiled.{Compiled}
use Rattle.file_spec.specs.declared.Compiled.TheVariants as Compiled
use Rattle.file_spec.specs.Writes.{rule_file}
use Rattle.file_spec.specs.Files.{compiled}
use Rattle.script_spec.specs.Lines.{ScriptLine, word_in, table_of}
use Rattle.script_spec.specs.Tasks.{task_names}
use Rattle.script_spec.specs.Grammar.{parse}
use Rattle.world_spec.specs.declared.tasks.TaskCall.TheVariants as TaskCall
use Rattle.world_spec.specs.declared.Call.{Call}
use Rattle.world_spec.specs.declared.Call.TheVariants as Call
use Rattle.world_spec.specs.declared.Entry.{Entry}
use Rattle.world_spec.specs.Worlds.{creds_of}
use Rattle.world_spec.specs.Steps.{Stepped, step}
use Rattle.record_spec.specs.declared.AskedLine.{AskedLine}
use Rattle.record_spec.specs.declared.AskedWhat.{AskedWhat}
use Rattle.record_spec.specs.declared.AskedWhat.TheVariants as AskedWhat
use Rattle.replay_spec.specs.declared.Act.{Act}
use Rattle.replay_spec.specs.declared.Act.TheVariants as Act
use Rattle.replay_spec.specs.Calls.{of_one, file_call}
use Rattle.replay_spec.specs.Acts.{act_of_line, call_by}
use Rattle.replay_spec.proofs.ReadCalls.{act_words}
use Rattle.replay_spec.specs.Plain.{IsNameTable}
use Rattle.replay_spec.specs.Replays.{Run, run_first, number_of_task, with_asked, noted, published, stepped_by, written, after_act, after_acting, after_line, run_of}
use Rattle.legal_spec.specs.Lines.{IsBatchOfLine, IsCallOfLine, IsRefusalOfLine, IsAskedOfLine}
use Rattle.plain_laws.proofs.GoodLines.{IsGoodLine, good_verb, AreGoodLines, good_lines}
use Rattle.plain_laws.proofs.Tasks.{names_behind, names_are_a_table}
use Rattle.replay_laws.proofs.InStep.{IsInStep, number_is_pid, line_in_step}
use Rattle.replay_laws.proofs.EachLine.{good_line_does, first_in_step}
use Rattle.legal_laws.proofs.TextRefusals.{IsTextRefusal, text_refusal, rules_of_file}

abbrev pub batch_by : ScriptLine → List RuleOp → Batch
batch_by l ops = record { task = l.task; seq = l.seq; ops = ops }

abbrev pub step_by : Run → ScriptLine → Call → Stepped
step_by run l call = step run.world (ruling run.journal) l.task call

abbrev pub entry_by : Run → ScriptLine → Call → Entry
entry_by run l call = record {
  task = l.task;
  seq = l.seq;
  call = call;
  version = length run.journal;
  checks = (step_by run l call).checks;
  reply = (step_by run l call).reply;
}

abbrev pub asked_by : Run → ScriptLine → AskedWhat → AskedLine
asked_by run l what = record { task = l.task; seq = l.seq; version = length run.journal; what = what }

abbrev pub with_batch : Run → ScriptLine → List RuleOp → Run
with_batch run l ops = record run { journal = run.journal ++ batch_by l ops ∷ [] }

abbrev pub with_entry : Run → ScriptLine → Call → Run
with_entry run l call = record run { world = (step_by run l call).world; history = run.history ++ entry_by run l call ∷ [] }

abbrev pub with_line : Run → ScriptLine → AskedWhat → Run
with_line run l what = record run { asked = with_asked run.asked (asked_by run l what) }

-- what an asked, refused or waited line says is so in the newest version
abbrev pub IsRefusedNow : Run → ScriptLine → List ℕ → Refusal → Type 0
IsRefusedNow run l file Refusal.NoSuchFile = Unit {0}
IsRefusedNow run l file Refusal.TooLong = Unit {0}
IsRefusedNow run l file (Refusal.BadLine bad) = Unit {0}
IsRefusedNow run l file (Refusal.UnknownLabel line) = Unit {0}
IsRefusedNow run l file Refusal.NotPrivileged =
    (is_some (rule_file file) ≡ true) × (is_effective (creds_of run.world l.task) Cap.MacAdmin (ruling run.journal) ≡ false)
IsRefusedNow run l file (Refusal.JournalFull rows) = ⊥

abbrev pub IsSoNow : Run → ScriptLine → AskedWhat → Type 0
IsSoNow run l (AskedWhat.Ask v) = v ≡ verdict_of_cases (ruling run.journal) v.subject v.object v.modes
IsSoNow run l (AskedWhat.Refused file fault) = IsRefusedNow run l file fault
IsSoNow run l (AskedWhat.Wait pid) = Unit {0}

-- what a run may be after one more line
pub data IsNext (labels names : List (List ℕ)) (run : Run) (l : ScriptLine) : Run → Type 0 where
  batch : (ops : List RuleOp) → IsBatchOfLine labels l ops → is_effective (creds_of run.world l.task) Cap.MacAdmin (ruling run.journal) ≡ true
      → IsNext labels names run l (with_batch run l ops)
  entry : (call : Call) → IsCallOfLine labels names l call → IsNext labels names run l (with_entry run l call)
  asked : (what : AskedWhat) → IsAskedOfLine labels names l what → IsSoNow run l what → IsNext labels names run l (with_line run l what)

module _ (labels names : List (List ℕ)) (run : Run) (l : ScriptLine) (is : number_of_task run l ≡ l.task) where
  abbrev Next : Run → Type 0
  Next after = IsNext labels names run l after

  published_next : (ops : List RuleOp) → IsBatchOfLine labels l ops
      → is_effective (creds_of run.world (number_of_task run l)) Cap.MacAdmin (ruling run.journal) ≡ true → Next (published run l ops)
  published_next ops of may =
      subst (λ (k : ℕ). Next (record run { journal = run.journal ++ (record { task = k; seq = l.seq; ops = ops }) ∷ [] })) (sym is)
      (batch ops of (subst (λ (k : ℕ). is_effective (creds_of run.world k) Cap.MacAdmin (ruling run.journal) ≡ true) is may))

  stepped_next : (call : Call) → IsCallOfLine labels names l call → Next (stepped_by run l call)
  stepped_next call of =
      subst (λ (k : ℕ). Next (record run {
        world = (step run.world (ruling run.journal) k call).world;
        history = run.history ++ (record {
          task = k;
          seq = l.seq;
          call = call;
          version = length run.journal;
          checks = (step run.world (ruling run.journal) k call).checks;
          reply = (step run.world (ruling run.journal) k call).reply;
        }) ∷ [];
      })) (sym is) (entry call of)

  noted_next : (what : AskedWhat) → IsAskedOfLine labels names l what → IsSoNow run l what → Next (noted run l what)
  noted_next what of so =
      subst (λ (k : ℕ). Next (record run {
        asked = with_asked run.asked (record { task = k; seq = l.seq; version = length run.journal; what = what });
      })) (sym is) (asked what of so)

  text_refused : (fault : Refusal) → IsTextRefusal fault → compiled labels (word_in 1 l) l.text.bytes ≡ Err fault
      → IsRefusalOfLine labels l fault × IsRefusedNow run l (word_in 1 l) fault
  text_refused Refusal.NoSuchFile of_text is = (is, tt)
  text_refused Refusal.TooLong of_text is = (is, tt)
  text_refused (Refusal.BadLine bad) of_text is = (is, tt)
  text_refused (Refusal.UnknownLabel line) of_text is = (is, tt)
  text_refused Refusal.NotPrivileged of_text is = absurd of_text
  text_refused (Refusal.JournalFull rows) of_text is = absurd of_text

  written_next : (made : Result Compiled Refusal) → act_of_line labels names l ≡ Some Act.Write → compiled labels (word_in 1 l) l.text.bytes ≡ made
      → Next (written run l made)
  written_next (Ok (Compiled.Rules ops)) does made =
      by (is_effective (creds_of run.world (number_of_task run l)) Cap.MacAdmin (ruling run.journal)) refl
    where
      by : (may : Bool) → is_effective (creds_of run.world (number_of_task run l)) Cap.MacAdmin (ruling run.journal) ≡ may
          → Next (if may then published run l ops else noted run l (AskedWhat.Refused (word_in 1 l) Refusal.NotPrivileged))
      by true may = published_next ops (act_words labels names l Act.Write does, made) may
      by false may =
          noted_next (AskedWhat.Refused (word_in 1 l) Refusal.NotPrivileged) (act_words labels names l Act.Write does, refl, (ops, made)) (
            rules_of_file labels (word_in 1 l) l.text.bytes ops made,
            subst (λ (k : ℕ). is_effective (creds_of run.world k) Cap.MacAdmin (ruling run.journal) ≡ false) is may,
          )
  written_next (Ok (Compiled.SelfRules rules)) does made =
      stepped_next (Call.Task (TaskCall.SelfRules rules)) (ap (call_by labels l) does ∙ ap (λ m. of_one (file_call m) (λ call. Call.Task call)) made)
  written_next (Ok (Compiled.Relabels list)) does made =
      stepped_next (Call.Task (TaskCall.Relabels list)) (ap (call_by labels l) does ∙ ap (λ m. of_one (file_call m) (λ call. Call.Task call)) made)
  written_next (Err fault) does made =
      let refused = text_refused fault (text_refusal labels (word_in 1 l) l.text.bytes fault made) made in
      noted_next (AskedWhat.Refused (word_in 1 l) fault) (act_words labels names l Act.Write does, refl, refused.0) refused.1

  act_next : (act : Act) → act_of_line labels names l ≡ Some act → Next (after_act labels run l act)
  act_next Act.Write does = written_next (compiled labels (word_in 1 l) l.text.bytes) does refl
  act_next (Act.Ask s o m) does = noted_next (AskedWhat.Ask (verdict_of_cases (ruling run.journal) s o m)) does refl
  act_next (Act.Wait pid) does = noted_next (AskedWhat.Wait pid) does tt
  act_next (Act.Fork pid) does = stepped_next (Call.Task (TaskCall.Fork pid)) (ap (call_by labels l) does)
  act_next (Act.Make call) does = stepped_next call (ap (call_by labels l) does)

  -- a line that does something leaves one thing in the record
  pub acting_next : (act : Option Act) → act_of_line labels names l ≡ act → is_some act ≡ true → Next (after_acting labels run l act)
  acting_next None does some = cc
  acting_next (Some act) does some = act_next act does

-- how a run comes to be, line by line
pub data Replays (labels names : List (List ℕ)) : List ScriptLine → Run → Type 0 where
  first : Replays labels names [] run_first
  more : (above : List ScriptLine) (l : ScriptLine) (run after : Run) → Replays labels names above run → IsGoodLine above l
      → IsInStep above run.world.tasks → (rest : List (List ℕ)) → names ≡ task_names (above ++ l ∷ []) ++ rest
      → IsNext labels names run l after → Replays labels names (above ++ l ∷ []) after

-- one good line
line_next : (above : List ScriptLine) (l : ScriptLine) (behind : List ScriptLine) (run : Run) → IsGoodLine above l → IsInStep above run.world.tasks
    → IsNext (table_of (above ++ l ∷ behind)) (task_names (above ++ l ∷ behind)) run l
    (after_line (table_of (above ++ l ∷ behind)) (task_names (above ++ l ∷ behind)) run l)
line_next above l behind run good in_step =
    let labels = table_of (above ++ l ∷ behind) in
    let names = task_names (above ++ l ∷ behind) in
    acting_next labels names run l (number_is_pid above run l good in_step) (act_of_line labels names l) refl (good_line_does above l behind good)

lines_replay : (lines above ls : List ScriptLine) → above ++ ls ≡ lines → AreGoodLines above ls → IsNameTable (task_names lines) → (run : Run)
    → IsInStep above run.world.tasks → Replays (table_of lines) (task_names lines) above run
    → Replays (table_of lines) (task_names lines) lines (fold (after_line (table_of lines) (task_names lines)) run ls)
lines_replay lines above [] same good table run in_step replays =
    subst (λ (a : List ScriptLine). Replays (table_of lines) (task_names lines) a run) (sym (append-nil above) ∙ same) replays
lines_replay lines above (l ∷ ls) same good table run in_step replays =
    let labels = table_of lines in
    let names = task_names lines in
    let after = after_line labels names run l in
    let one : IsNext labels names run l after =
    subst (λ whole. IsNext (table_of whole) (task_names whole) run l (after_line (table_of whole) (task_names whole) run l)) same
    (line_next above l ls run good.0 in_step) in
    let next : IsInStep (above ++ l ∷ []) after.world.tasks =
    subst (λ whole. IsInStep (above ++ l ∷ []) (after_line labels (task_names whole) run l).world.tasks) same
    (line_in_step above l ls labels run good.0 (subst (λ whole. IsNameTable (task_names whole)) (sym same) table) in_step) in
    let rest = names_behind (above ++ l ∷ []) ls in
    let whole : (above ++ l ∷ []) ++ ls ≡ lines = append_assoc above (l ∷ []) ls ∙ same in
    lines_replay lines (above ++ l ∷ []) ls whole good.1 table after next
    (more above l run after replays good.0 in_step rest.0 (ap task_names (sym whole) ∙ rest.1) one)

-- the run of a script
pub script_replays : (bytes : List ℕ) (lines : List ScriptLine) → parse bytes ≡ Ok lines
    → Replays (table_of lines) (task_names lines) lines (run_of (table_of lines) (task_names lines) lines)
script_replays bytes lines is =
    lines_replay lines [] lines refl (good_lines bytes lines is) (names_are_a_table bytes lines is) run_first first_in_step first
