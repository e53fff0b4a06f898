use Rattle.std.proofs.Common.{◌≡◌, ℕ, ◌+◌, Bool, true, false, ◌&&◌, ◌==◌, cond, nat_le, if◌then◌else◌, inl, inr, List, [], ◌∷◌, ◌++◌, length, refl, sym, ap, subst, ◌∙◌, arith, fold, append_assoc, Option, Some, None, Result, Ok, Err}
use Rattle.std.specs.Prelude.{is_some, count_by}
use Rattle.std.specs.List.{flat_map}
use Rattle.std.proofs.lemmas.Bool.{cases_Bool, eqb-true, eqb-false, le-leb, lt-leb, leb-true, leb-false}
use Rattle.std.proofs.lemmas.List.Sums.{sum_by-append}
use Rattle.std.proofs.lemmas.Grind.{flat_map-append, fold-append}
use Rattle.smack_base.specs.declared.cap.Cap.TheVariants as Cap
use Rattle.rules_spec.specs.Rulings.{ruling}
use Rattle.rules_spec.specs.Creds.{is_effective}
use Rattle.text_spec.specs.Names.{predefined, has_name, with_name, with_names}
use Rattle.file_spec.specs.declared.Refusal.{Refusal}
use Rattle.file_spec.specs.declared.Compiled.{Compiled}
use Rattle.file_spec.specs.Files.{compiled}
use Rattle.verb_spec.specs.Kinds.{label_words}
use Rattle.script_spec.specs.Lines.{ScriptLine, word_in, words_behind, kinds_in, labels_of, table_of}
use Rattle.script_spec.specs.Grammar.{parse}
use Rattle.script_spec.specs.Tasks.{TaskChange, Forks, Exits, Awaits, Keeps, forked_name, change_of, task_names}
use Rattle.smack_base.specs.declared.rule_op.RuleOp.{RuleOp}
use Rattle.world_spec.specs.declared.tasks.TaskCall.TheVariants as TaskCall
use Rattle.rules_spec.specs.declared.Batch.{Batch}
use Rattle.world_spec.specs.declared.Entry.{Entry}
use Rattle.world_spec.specs.Steps.{step}
use Rattle.record_spec.specs.declared.AskedWhat.{AskedWhat}
use Rattle.world_spec.specs.declared.Call.{Call}
use Rattle.world_spec.specs.Worlds.{creds_of}
use Rattle.record_spec.specs.declared.AskedLine.{AskedLine}
use Rattle.replay_spec.specs.declared.Act.{Act}
use Rattle.replay_spec.specs.Acts.{act_of_line}
use Rattle.replay_spec.specs.Replays.{Run, run_first, number_of_task, is_before, with_asked, noted, published, stepped_by, written, after_act, after_acting, after_line, run_of}
use Rattle.replay_spec.specs.Plain.{IsNameTable}
use Rattle.replay_spec.specs.Laws.{EachLineIsRecorded, is_call, lines_of_task, EachCallIsOnce}
use Rattle.plain_laws.proofs.Tables.{HasNames, has_before, has_last, has_names, both_names}
use Rattle.plain_laws.proofs.GoodLines.{IsGoodLine, AreGoodLines, good_lines, script_holds}
use Rattle.plain_laws.proofs.Tasks.{names_more, names_behind, names_are_a_table}
use Rattle.replay_laws.proofs.InStep.{IsInStep, number_is_pid, line_in_step}
use Rattle.replay_laws.proofs.KnownWords.{line_does}

module _ (p : ℕ → ℕ → Bool) where
  -- how many calls of a kind a run has recorded, by task and number
  abbrev recorded : Run → ℕ
  recorded run =
      count_by (λ (b : Batch). p b.task b.seq) run.journal + count_by (λ (e : Entry). p e.task e.seq) run.history
      + count_by (λ (a : AskedLine). p a.task a.seq) run.asked

  pub asked_more : (asked : List AskedLine) (a : AskedLine)
      → count_by (λ (a : AskedLine). p a.task a.seq) (with_asked asked a) ≡ count_by (λ (a : AskedLine). p a.task a.seq) asked + cond (p a.task a.seq) 1 0
  asked_more [] a = omega arith
  asked_more (b ∷ bs) a = by (is_before a b) (asked_more bs a)
    where
      by : (before : Bool)
          → count_by (λ (a : AskedLine). p a.task a.seq) (with_asked bs a) ≡ count_by (λ (a : AskedLine). p a.task a.seq) bs + cond (p a.task a.seq) 1 0
          → count_by (λ (a : AskedLine). p a.task a.seq) (if before then a ∷ b ∷ bs else b ∷ with_asked bs a)
          ≡ count_by (λ (a : AskedLine). p a.task a.seq) (b ∷ bs) + cond (p a.task a.seq) 1 0
      by true rest =
          let mark : AskedLine → ℕ = λ (a : AskedLine). cond (p a.task a.seq) 1 0 in
          sum_by-append mark (a ∷ []) (b ∷ bs) ∙ omega arith
      by false rest =
          let mark : AskedLine → ℕ = λ (a : AskedLine). cond (p a.task a.seq) 1 0 in
          let first = sum_by-append mark (b ∷ []) (with_asked bs a) in
          let others = sum_by-append mark (b ∷ []) bs in
          first ∙ omega (arith, rest, others)

  -- the run has recorded one call more, that of the line
  abbrev IsOneMore : Run → ScriptLine → Run → Type 0
  IsOneMore run l after = recorded after ≡ recorded run + cond (p (number_of_task run l) l.seq) 1 0

  noted_more : (run : Run) (l : ScriptLine) (what : AskedWhat) → IsOneMore run l (noted run l what)
  noted_more run l what = omega (arith, asked_more run.asked (record { task = number_of_task run l; seq = l.seq; version = length run.journal; what = what }))

  published_more : (run : Run) (l : ScriptLine) (ops : List RuleOp) → IsOneMore run l (published run l ops)
  published_more run l ops =
      omega (arith, sum_by-append (λ (b : Batch). cond (p b.task b.seq) 1 0) run.journal ((record { task = number_of_task run l; seq = l.seq; ops = ops }) ∷ []))

  stepped_more : (run : Run) (l : ScriptLine) (call : Call) → IsOneMore run l (stepped_by run l call)
  stepped_more run l call =
      let stepped = step run.world (ruling run.journal) (number_of_task run l) call in
      omega (
        arith,
        sum_by-append (λ (e : Entry). cond (p e.task e.seq) 1 0) run.history ((record {
          task = number_of_task run l;
          seq = l.seq;
          call = call;
          version = length run.journal;
          checks = stepped.checks;
          reply = stepped.reply;
        }) ∷ []),
      )

  written_more : (run : Run) (l : ScriptLine) (made : Result Compiled Refusal) → IsOneMore run l (written run l made)
  written_more run l (Ok (Compiled.Rules ops)) = by (is_effective (creds_of run.world (number_of_task run l)) Cap.MacAdmin (ruling run.journal))
    where
      by : (privileged : Bool) → IsOneMore run l (if privileged then published run l ops else noted run l (AskedWhat.Refused (word_in 1 l) Refusal.NotPrivileged))
      by true = published_more run l ops
      by false = noted_more run l (AskedWhat.Refused (word_in 1 l) Refusal.NotPrivileged)
  written_more run l (Ok (Compiled.SelfRules rules)) = stepped_more run l (Call.Task (TaskCall.SelfRules rules))
  written_more run l (Ok (Compiled.Relabels list)) = stepped_more run l (Call.Task (TaskCall.Relabels list))
  written_more run l (Err fault) = noted_more run l (AskedWhat.Refused (word_in 1 l) fault)

  act_more : (labels : List (List ℕ)) (run : Run) (l : ScriptLine) (act : Act) → IsOneMore run l (after_act labels run l act)
  act_more labels run l Act.Write = written_more run l (compiled labels (word_in 1 l) l.text.bytes)
  act_more labels run l (Act.Ask s o m) = noted_more run l _
  act_more labels run l (Act.Wait pid) = noted_more run l _
  act_more labels run l (Act.Fork pid) = stepped_more run l (Call.Task (TaskCall.Fork pid))
  act_more labels run l (Act.Make call) = stepped_more run l call

  -- a line that does something leaves one thing in the record
  pub acting_more : (labels : List (List ℕ)) (run : Run) (l : ScriptLine) (act : Option Act) → is_some act ≡ true
      → IsOneMore run l (after_acting labels run l act)
  acting_more labels run l None does = cc
  acting_more labels run l (Some act) does = act_more labels run l act

-- the labels of a call are in the table of its script
call_labels : (above : List ScriptLine) (l : ScriptLine) (more : List ScriptLine) → HasNames (table_of (above ++ l ∷ more)) (labels_of l)
call_labels above l more =
    let first = with_names predefined (flat_map labels_of above) in
    let whole : table_of (above ++ l ∷ more) ≡ with_names first (labels_of l ++ flat_map labels_of more) =
    ap (with_names predefined) (flat_map-append labels_of above (l ∷ more)) ∙ fold-append with_name predefined (flat_map labels_of above) (flat_map labels_of (l ∷ more)) in
    subst (λ table. HasNames table (labels_of l)) (sym whole)
    (both_names (with_names first (labels_of l ++ flat_map labels_of more)) (labels_of l) (flat_map labels_of more)
    (has_names first (labels_of l ++ flat_map labels_of more))).0

-- the tasks above a call, and the one that it forks, have names in its script
tasks_above : (above more : List ScriptLine) (name : List ℕ) → has_name (task_names above) name ≡ true → has_name (task_names (above ++ more)) name ≡ true
tasks_above above more name has =
    let behind = names_behind above more in
    subst (λ names. has_name names name ≡ true) (sym behind.1) (has_before (task_names above) behind.0 name has)

forked_has : (names : List (List ℕ)) (change : TaskChange) → HasNames (names ++ forked_name change) (forked_name change)
forked_has names (Forks name) = (has_last names name, tt)
forked_has names change = tt

all_before : (front back names : List (List ℕ)) → HasNames front names → HasNames (front ++ back) names
all_before front back [] has = tt
all_before front back (n ∷ ns) has = (has_before front back n has.0, all_before front back ns has.1)

task_forked : (above : List ScriptLine) (l : ScriptLine) (more : List ScriptLine) → HasNames (task_names (above ++ l ∷ more)) (forked_name (change_of l))
task_forked above l more =
    let with_more = names_behind (above ++ l ∷ []) more in
    let whole : task_names (above ++ l ∷ more) ≡ (task_names above ++ forked_name (change_of l)) ++ with_more.0 =
    ap task_names (sym (append_assoc above (l ∷ []) more)) ∙ with_more.1 ∙ ap (λ names. names ++ with_more.0) (names_more above l) in
    subst (λ names. HasNames names (forked_name (change_of l))) (sym whole)
    (all_before (task_names above ++ forked_name (change_of l)) with_more.0 (forked_name (change_of l)) (forked_has (task_names above) (change_of l)))

-- a good call does something, by the tables of its script
pub good_line_does : (above : List ScriptLine) (l : ScriptLine) (more : List ScriptLine) → IsGoodLine above l
    → is_some (act_of_line (table_of (above ++ l ∷ more)) (task_names (above ++ l ∷ more)) l) ≡ true
good_line_does above l more good =
    let labels = table_of (above ++ l ∷ more) in
    line_does labels (task_names (above ++ l ∷ more)) above l (tasks_above above (l ∷ more)) good
    (both_names labels (label_words (kinds_in l) (words_behind l)) _ (call_labels above l more)).0 (task_forked above l more)

-- A good call of a script, whose run is in step with the calls above it, is recorded once, by its task and its number.
line_more : (p : ℕ → ℕ → Bool) (above : List ScriptLine) (l : ScriptLine) (more : List ScriptLine) (run : Run) → IsGoodLine above l
    → IsInStep above run.world.tasks
    → recorded p (after_line (table_of (above ++ l ∷ more)) (task_names (above ++ l ∷ more)) run l) ≡ recorded p run + cond (p l.task l.seq) 1 0
line_more p above l more run good in_step =
    let labels = table_of (above ++ l ∷ more) in
    let names = task_names (above ++ l ∷ more) in
    let one : IsOneMore p run l (after_line labels names run l) =
    acting_more p labels run l (act_of_line labels names l) (good_line_does above l more good) in
    subst (λ (k : ℕ). recorded p (after_line labels names run l) ≡ recorded p run + cond (p k l.seq) 1 0) (number_is_pid above run l good in_step) one

-- so are all the calls of a script
lines_more : (p : ℕ → ℕ → Bool) (lines above ls : List ScriptLine) → above ++ ls ≡ lines → AreGoodLines above ls → IsNameTable (task_names lines)
    → (run : Run) → IsInStep above run.world.tasks
    → recorded p (fold (after_line (table_of lines) (task_names lines)) run ls) ≡ recorded p run + count_by (λ (l : ScriptLine). p l.task l.seq) ls
lines_more p lines above [] same good table run in_step = omega arith
lines_more p lines above (l ∷ ls) same good table run in_step =
    let after = after_line (table_of lines) (task_names lines) run l in
    let one : recorded p after ≡ recorded p run + cond (p l.task l.seq) 1 0 =
    subst (λ whole. recorded p (after_line (table_of whole) (task_names whole) run l) ≡ recorded p run + cond (p l.task l.seq) 1 0) same
    (line_more p above l ls run good.0 in_step) in
    let next : IsInStep (above ++ l ∷ []) after.world.tasks =
    subst (λ whole. IsInStep (above ++ l ∷ []) (after_line (table_of lines) (task_names whole) run l).world.tasks) same
    (line_in_step above l ls (table_of lines) run good.0 (subst (λ whole. IsNameTable (task_names whole)) (sym same) table) in_step) in
    let rest = lines_more p lines (above ++ l ∷ []) ls (append_assoc above (l ∷ []) ls ∙ same) good.1 table after next in
    rest ∙ omega (arith, one, sum_by-append (λ (l : ScriptLine). cond (p l.task l.seq) 1 0) (l ∷ []) ls)

-- before any call there is the first task
pub first_in_step : IsInStep [] run_first.world.tasks
first_in_step = record { numbered = (refl, refl, tt); many = refl; later = λ j past. refl }

pub all_recorded : (p : ℕ → ℕ → Bool) (bytes : List ℕ) (lines : List ScriptLine) → parse bytes ≡ Ok lines
    → recorded p (run_of (table_of lines) (task_names lines) lines) ≡ count_by (λ (l : ScriptLine). p l.task l.seq) lines
all_recorded p bytes lines is =
    omega (arith, lines_more p lines [] lines refl (good_lines bytes lines is) (names_are_a_table bytes lines is) run_first first_in_step)

count_all : {X : Type 0} (xs : List X) → count_by (λ x. true) xs ≡ length xs
count_all [] = refl
count_all (x ∷ xs) = omega (arith, sum_by-append (λ x. cond true 1 0) (x ∷ []) xs, count_all xs)

-- no line of a script vanishes
pub each_line_is_recorded : EachLineIsRecorded
each_line_is_recorded bytes lines is =
    let run = run_of (table_of lines) (task_names lines) lines in
    omega (arith, all_recorded (λ t s. true) bytes lines is, count_all run.journal, count_all run.history, count_all run.asked, count_all lines)

-- one more call has the next number
next_number : (seq n : ℕ) → cond (nat_le 1 seq && nat_le seq n) 1 0 + cond ((n + 1) == seq) 1 0 ≡ cond (nat_le 1 seq && nat_le seq (n + 1)) 1 0
next_number seq n =
    elim (cases_Bool ((n + 1) == seq)) [
      | inl last ↦
          let is : n + 1 ≡ seq = eqb-true (n + 1) seq last in
          let some : nat_le 1 seq ≡ true = le-leb 1 seq (omega (arith, is)) in
          let past : nat_le seq n ≡ false = lt-leb seq n (omega (arith, is)) in
          let up : nat_le seq (n + 1) ≡ true = le-leb seq (n + 1) (omega (arith, is)) in
          rw (last, some, past, up) refl
      | inr other ↦
          let apart : n + 1 ≡ seq → ⊥ = eqb-false (n + 1) seq other in
          elim (cases_Bool (nat_le seq n)) [
            | inl below ↦
                let up : nat_le seq (n + 1) ≡ true = le-leb seq (n + 1) (omega (arith, leb-true seq n below)) in
                rw (other, below, up) (omega arith)
            | inr above ↦
                let up : nat_le seq (n + 1) ≡ false = lt-leb seq (n + 1) (omega (arith, leb-false seq n above, apart)) in
                rw (other, above, up) (omega arith)
          ]
    ]

-- the calls of a task have the numbers 1, 2, .. up to how many it has, each once
module _ (task seq : ℕ) where
  abbrev AreOnce : List ScriptLine → Type 0
  AreOnce lines =
      count_by (λ (l : ScriptLine). is_call task seq l.task l.seq) lines ≡ cond (nat_le 1 seq && nat_le seq (lines_of_task lines task)) 1 0

  once_more : (above : List ScriptLine) (l : ScriptLine) → IsGoodLine above l → AreOnce above → AreOnce (above ++ l ∷ [])
  once_more above l good once =
      let calls = sum_by-append (λ (l : ScriptLine). cond (is_call task seq l.task l.seq) 1 0) above (l ∷ []) in
      let lines = sum_by-append (λ (l : ScriptLine). cond (l.task == task) 1 0) above (l ∷ []) in
      elim (cases_Bool (l.task == task)) [
        | inl own ↦
            let number : l.seq ≡ lines_of_task above task + 1 = good.seq ∙ ap (λ k. lines_of_task above k + 1) (eqb-true l.task task own) in
            let mark : ◌≡◌ {A = ℕ} (cond (is_call task seq l.task l.seq) 1 0) (cond ((lines_of_task above task + 1) == seq) 1 0) =
            λ i. cond (own i && (number i == seq)) 1 0 in
            let one : ◌≡◌ {A = ℕ} (cond (l.task == task) 1 0) 1 = λ i. cond (own i) 1 0 in
            let next : lines_of_task (above ++ l ∷ []) task ≡ lines_of_task above task + 1 = omega (arith, lines, one) in
            omega (arith, calls, once, mark, next_number seq (lines_of_task above task), ap {B = ℕ} (λ k. cond (nat_le 1 seq && nat_le seq k) 1 0) next)
        | inr other ↦
            let mark : ◌≡◌ {A = ℕ} (cond (is_call task seq l.task l.seq) 1 0) 0 = λ i. cond (other i && (l.seq == seq)) 1 0 in
            let none : ◌≡◌ {A = ℕ} (cond (l.task == task) 1 0) 0 = λ i. cond (other i) 1 0 in
            let next : lines_of_task (above ++ l ∷ []) task ≡ lines_of_task above task = omega (arith, lines, none) in
            omega (arith, calls, once, mark, ap {B = ℕ} (λ k. cond (nat_le 1 seq && nat_le seq k) 1 0) next)
      ]

  nothing_once : AreOnce []
  nothing_once = by (nat_le 1 seq) refl
    where
      by : (some : Bool) → nat_le 1 seq ≡ some → ◌≡◌ {A = ℕ} 0 (cond (some && nat_le seq 0) 1 0)
      by true some = rw (lt-leb seq 0 (omega (arith, leb-true 1 seq some))) refl
      by false some = refl

-- each call of each task is in the record of its script just once
pub each_call_is_once : EachCallIsOnce
each_call_is_once bytes lines is task seq =
    all_recorded (is_call task seq) bytes lines is ∙ script_holds (AreOnce task seq) (once_more task seq) (nothing_once task seq) bytes lines is
