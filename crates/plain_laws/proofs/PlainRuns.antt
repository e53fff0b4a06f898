use Rattle.std.proofs.Common.{◌≡◌, ◌<◌, ℕ, Bool, true, false, if◌then◌else◌, List, [], ◌∷◌, length, refl, ap, ◌∙◌, fold, Option, Some, None, Result, Ok, Err}
use Rattle.std.specs.List.{AllByRecursion}
use Rattle.smack_base.specs.declared.cap.Cap.TheVariants as Cap
use Rattle.smack_base.specs.declared.rule_op.RuleOp.{RuleOp}
use Rattle.rules_spec.specs.Rulings.{ruling}
use Rattle.rules_spec.specs.Creds.{is_effective}
use Rattle.file_spec.specs.declared.Refusal.{Refusal}
use Rattle.file_spec.specs.declared.Compiled.{Compiled}
use Rattle.file_spec.specs.Files.{compiled}
use Rattle.verb_spec.specs.declared.Verb.TheVariants as Verb
use Rattle.verb_spec.specs.Words.{is_file_name}
use Rattle.script_spec.specs.Lines.{ScriptLine, word_in, verb_in}
use Rattle.world_spec.specs.declared.tasks.TaskCall.TheVariants as TaskCall
use Rattle.world_spec.specs.declared.Call.{Call}
use Rattle.world_spec.specs.Worlds.{creds_of}
use Rattle.record_spec.specs.declared.AskedLine.{AskedLine}
use Rattle.record_spec.specs.declared.AskedWhat.{AskedWhat}
use Rattle.replay_spec.specs.Calls.{of_one, file_call}
use Rattle.replay_spec.specs.declared.Act.{Act}
use Rattle.replay_spec.specs.Acts.{act_of_line, call_by}
use Rattle.replay_spec.specs.Plain.{IsPlainOp, IsPlainBatch, IsPlainCall, IsPlainEntry, IsPlainWhat, IsPlainAsked}
use Rattle.replay_spec.specs.Replays.{Run, run_first, number_of_task, is_before, with_asked, noted, published, stepped_by, written, after_act, after_acting, after_line, run_of}
use Rattle.replay_spec.proofs.KnownLabels.{known_id}
use Rattle.replay_spec.proofs.ReadValues.{known_pid}
use Rattle.replay_spec.proofs.ReadCalls.{act_words}
use Rattle.plain_laws.proofs.PlainWrites.{compiled_is_plain}
use Rattle.plain_laws.proofs.Lists.{all_push}
use Rattle.plain_laws.proofs.PlainVerdicts.{answer_is_plain}
use Rattle.plain_laws.proofs.PlainWorlds.{IsPlainWorld, first_world_is_plain}
use Rattle.plain_laws.proofs.PlainSteps.{step_is_plain}

-- what the calls so far have left is plain
pub record IsPlainRun (table names : List (List ℕ)) (run : Run) : Type 0 where
  pub journal : AllByRecursion (IsPlainBatch table) run.journal
  pub world : IsPlainWorld table run.world
  pub history : AllByRecursion (IsPlainEntry table names) run.history
  pub asked : AllByRecursion (IsPlainAsked table names) run.asked

-- a write of a script is to a word that names a file
abbrev pub HasFileName : ScriptLine → Type 0
HasFileName l = verb_in l ≡ Some Verb.Write → is_file_name (word_in 1 l) ≡ true

all_asked : (P : AskedLine → Type 0) (asked : List AskedLine) (a : AskedLine) → AllByRecursion P asked → P a → AllByRecursion P (with_asked asked a)
all_asked P [] a all one = (one, tt)
all_asked P (b ∷ bs) a all one = by (is_before a b) (all_asked P bs a all.1 one)
  where
    by : (before : Bool) → AllByRecursion P (with_asked bs a) → AllByRecursion P (if before then a ∷ b ∷ bs else b ∷ with_asked bs a)
    by true rest = (one, all)
    by false rest = (all.0, rest)

module _ (table names : List (List ℕ)) (first : 0 < length table) where
  -- a batch of plain writes keeps a run plain
  published_is_plain : (run : Run) (l : ScriptLine) (ops : List RuleOp) → IsPlainRun table names run → AllByRecursion (IsPlainOp table) ops
      → IsPlainRun table names (published run l ops)
  published_is_plain run l ops plain known = record {
    journal = all_push (IsPlainBatch table) run.journal _ plain.journal known;
    world = plain.world;
    history = plain.history;
    asked = plain.asked;
  }

  -- so does a plain line that is neither a batch nor an object call
  noted_is_plain : (run : Run) (l : ScriptLine) (what : AskedWhat) → IsPlainRun table names run → IsPlainWhat table names what
      → IsPlainRun table names (noted run l what)
  noted_is_plain run l what plain one = record {
    journal = plain.journal;
    world = plain.world;
    history = plain.history;
    asked = all_asked (IsPlainAsked table names) run.asked _ plain.asked one;
  }

  -- and an object call that a line gives
  stepped_is_plain : (run : Run) (l : ScriptLine) (call : Call) → IsPlainRun table names run → IsPlainCall table names call
      → IsPlainRun table names (stepped_by run l call)
  stepped_is_plain run l call plain given =
      let after = step_is_plain table first run.world plain.world (ruling run.journal) (number_of_task run l) names call given in
      record {
        journal = plain.journal;
        world = after.world;
        history = all_push (IsPlainEntry table names) run.history _ plain.history (record { call = given; checks = after.checks; reply = after.reply });
        asked = plain.asked;
      }

  -- a write keeps a run plain, whatever its text becomes
  written_is_plain : (run : Run) (l : ScriptLine) (made : Result Compiled Refusal) → IsPlainRun table names run → is_file_name (word_in 1 l) ≡ true
      → ((ops : List RuleOp) → made ≡ Ok (Compiled.Rules ops) → AllByRecursion (IsPlainOp table) ops)
      → ((call : Call) → of_one (file_call made) (λ c. Call.Task c) ≡ Some call → IsPlainCall table names call) → IsPlainRun table names (written run l made)
  written_is_plain run l (Ok (Compiled.Rules ops)) plain named known gives = by (is_effective (creds_of run.world (number_of_task run l)) Cap.MacAdmin (ruling run.journal))
    where
      by : (privileged : Bool) → IsPlainRun table names (if privileged then published run l ops else noted run l (AskedWhat.Refused (word_in 1 l) Refusal.NotPrivileged))
      by true = published_is_plain run l ops plain (known ops refl)
      by false = noted_is_plain run l (AskedWhat.Refused (word_in 1 l) Refusal.NotPrivileged) plain named
  written_is_plain run l (Ok (Compiled.SelfRules rules)) plain named known gives =
      stepped_is_plain run l (Call.Task (TaskCall.SelfRules rules)) plain (gives (Call.Task (TaskCall.SelfRules rules)) refl)
  written_is_plain run l (Ok (Compiled.Relabels list)) plain named known gives =
      stepped_is_plain run l (Call.Task (TaskCall.Relabels list)) plain (gives (Call.Task (TaskCall.Relabels list)) refl)
  written_is_plain run l (Err fault) plain named known gives = noted_is_plain run l (AskedWhat.Refused (word_in 1 l) fault) plain named

  -- the run after a line that does something is plain
  after_act_is_plain : (run : Run) (l : ScriptLine) (act : Act) → act_of_line table names l ≡ Some act → HasFileName l → IsPlainRun table names run
      → IsPlainRun table names (after_act table run l act)
  after_act_is_plain run l Act.Write is named plain =
      written_is_plain run l (compiled table (word_in 1 l) l.text.bytes) plain (named (act_words table names l Act.Write is))
      (compiled_is_plain table (word_in 1 l) l.text.bytes) (λ call gives. record { line = l; gives = ap (call_by table l) is ∙ gives })
  after_act_is_plain run l (Act.Ask s o m) is named plain =
      let words = act_words table names l (Act.Ask s o m) is in
      noted_is_plain run l _ plain
      (answer_is_plain table (ruling run.journal) s o m (known_id table (word_in 1 l) s words.1) (known_id table (word_in 2 l) o words.2))
  after_act_is_plain run l (Act.Wait pid) is named plain =
      noted_is_plain run l (AskedWhat.Wait pid) plain (known_pid names (word_in 1 l) pid (act_words table names l (Act.Wait pid) is).1)
  after_act_is_plain run l (Act.Fork pid) is named plain =
      stepped_is_plain run l (Call.Task (TaskCall.Fork pid)) plain (record { line = l; gives = ap (call_by table l) is })
  after_act_is_plain run l (Act.Make call) is named plain = stepped_is_plain run l call plain (record { line = l; gives = ap (call_by table l) is })

  -- so is the run after one more line
  after_acting_is_plain : (run : Run) (l : ScriptLine) (act : Option Act) → act_of_line table names l ≡ act → HasFileName l → IsPlainRun table names run
      → IsPlainRun table names (after_acting table run l act)
  after_acting_is_plain run l None is named plain = plain
  after_acting_is_plain run l (Some act) is named plain = after_act_is_plain run l act is named plain

  -- lines whose writes name files keep a run plain
  calls_keep_plain : (lines : List ScriptLine) → AllByRecursion HasFileName lines → (run : Run) → IsPlainRun table names run
      → IsPlainRun table names (fold (after_line table names) run lines)
  calls_keep_plain [] named run plain = plain
  calls_keep_plain (l ∷ ls) named run plain =
      calls_keep_plain ls named.1 (after_line table names run l) (after_acting_is_plain run l (act_of_line table names l) refl named.0 plain)

  -- a run of lines whose writes name files is plain
  pub run_is_plain : (lines : List ScriptLine) → AllByRecursion HasFileName lines → IsPlainRun table names (run_of table names lines)
  run_is_plain lines named =
      calls_keep_plain lines named run_first (record { journal = tt; world = first_world_is_plain table first; history = tt; asked = tt })
