use Rattle.std.proofs.Common.{◌≡◌, ◌<◌, ◌≤◌, ℕ, ◌+◌, Bool, true, false, List, [], ◌∷◌, ◌++◌, length, refl, ap, ap₂, subst, sym, ◌∙◌, append-nil, append_assoc, Option, Some, None, Result, Ok, if◌then◌else◌, arith}
use Rattle.std.specs.Prelude.{nat_lt, drop, not, ◌==◌}
use Rattle.std.specs.Option.{option_map}
use Rattle.std.proofs.lemmas.Bool.{eqb-true, and_parts, or_parts, not-true, not-false, ltb-true, ltb-false}
use Rattle.text_spec.specs.Texts.{Placed, lines_from}
use Rattle.text_spec.specs.Names.{place_of}
use Rattle.verb_spec.specs.declared.Verb.{Verb}
use Rattle.verb_spec.specs.declared.WordKind.{WordKind}
use Rattle.script_spec.specs.declared.Cause.{Cause}
use Rattle.script_spec.specs.declared.What.TheVariants as What
use Rattle.script_spec.specs.declared.ScriptFault.{ScriptFault}
use Rattle.verb_spec.specs.Verbs.{verb_of, kinds_of, kinds_by, is_unbuilt_verb}
use Rattle.verb_spec.specs.Kinds.{is_of_kind, bad_word, has_word}
use Rattle.verb_spec.specs.Words.{is_task_name, word_at}
use Rattle.script_spec.specs.Lines.{ScriptLine, word_in, verb_in, words_behind, kinds_in}
use Rattle.script_spec.specs.Tasks.{Tasks, task_names, has_exit, calls_by, tasks_of, pid_of, is_gone, is_live_name, is_latest_child}
use Rattle.script_spec.specs.Causes.{cause_if, first_cause, is_file_unbuilt, is_path_unbuilt, is_name_bad, is_wait_bad, words_cause, unless_verb, verb_cause, behind_task, line_cause}
use Rattle.script_spec.specs.Grammar.{Item, has_text, call_of, fault_if, first_script_fault, limit_faults, item_fault, unless_script_fault, calls_of, lines_fault, items, script_of, most_bytes, most_lines, most_script_tasks, parse}
use Rattle.replay_spec.proofs.KnownLabels.{not_refused}

-- words are of kinds, one each
abbrev pub AreOfKinds : List WordKind → List Placed → Type 0
AreOfKinds [] [] = Unit {0}
AreOfKinds (kind ∷ kinds) (w ∷ ws) = (is_of_kind kind w.bytes ≡ true) × AreOfKinds kinds ws
AreOfKinds kinds ws = ⊥

-- A call behind the calls above it: its verb, the words behind it, each of its kind, and tasks that may be named there.
pub record IsGoodLine (above : List ScriptLine) (l : ScriptLine) : Type 0 where
  pub verb : Verb
  pub first : Placed
  pub behind : List Placed
  pub words : l.words ≡ first ∷ behind
  pub is : verb_of first.bytes ≡ Some verb
  pub kinds : AreOfKinds (kinds_of verb behind) behind
  pub name : has_word (is_name_bad (tasks_of above)) (kinds_of verb behind) behind ≡ false
  pub wait : has_word (is_wait_bad (tasks_of above) l.task) (kinds_of verb behind) behind ≡ false
  pub there : l.task < length (task_names above)
  pub live : has_exit above l.task ≡ false
  pub kept : is_gone (tasks_of above) l.task ≡ false
  pub seq : l.seq ≡ calls_by above l.task + 1
  pub few : length (task_names (above ++ l ∷ [])) ≤ most_script_tasks

-- the verb of a good call
pub good_verb : (above : List ScriptLine) (l : ScriptLine) (good : IsGoodLine above l) → verb_in l ≡ Some good.verb
good_verb above l good = rw good.words good.is

same_verb : (a b : Verb) → ◌≡◌ {A = Option Verb} (Some a) (Some b) → a ≡ b
same_verb a b is = cc

pub good_verb_is : (above : List ScriptLine) (l : ScriptLine) (good : IsGoodLine above l) (verb : Verb) → verb_in l ≡ Some verb → good.verb ≡ verb
good_verb_is above l good verb is = same_verb good.verb verb (sym (good_verb above l good) ∙ is)

-- and the words behind it, with their kinds
pub good_behind : (above : List ScriptLine) (l : ScriptLine) (good : IsGoodLine above l) → words_behind l ≡ good.behind
good_behind above l good = ap (drop 1) good.words

pub good_kinds : (above : List ScriptLine) (l : ScriptLine) (good : IsGoodLine above l) → kinds_in l ≡ kinds_of good.verb good.behind
good_kinds above l good = ap₂ kinds_by (good_verb above l good) (good_behind above l good)

wait_names_child : (tasks : Tasks) (task : ℕ) (behind : List Placed) → AreOfKinds (kinds_of Verb.Wait behind) behind
    → has_word (is_wait_bad tasks task) (kinds_of Verb.Wait behind) behind ≡ false → is_latest_child tasks task (word_at 0 behind).bytes ≡ true
wait_names_child tasks task [] kinds wait = absurd kinds
wait_names_child tasks task (w ∷ ws) kinds wait = not-false (is_latest_child tasks task w.bytes) (or_parts _ _ wait).0

-- a good call that waits names the latest child of its task
pub good_wait : (above : List ScriptLine) (l : ScriptLine) → IsGoodLine above l → verb_in l ≡ Some Verb.Wait
    → is_latest_child (tasks_of above) l.task (word_in 1 l) ≡ true
good_wait above l good is =
    let waits = good_verb_is above l good Verb.Wait is in
    let behind = good.behind in
    subst (λ (w : List ℕ). is_latest_child (tasks_of above) l.task w ≡ true) (sym (ap (λ ws. (word_at 1 ws).bytes) good.words))
    (wait_names_child (tasks_of above) l.task behind (subst (λ verb. AreOfKinds (kinds_of verb behind) behind) waits good.kinds)
    (subst (λ verb. has_word (is_wait_bad (tasks_of above) l.task) (kinds_of verb behind) behind ≡ false) waits good.wait))

abbrev pub AreGoodLines : List ScriptLine → List ScriptLine → Type 0
AreGoodLines above [] = Unit {0}
AreGoodLines above (l ∷ ls) = IsGoodLine above l × AreGoodLines (above ++ l ∷ []) ls

-- where causes have no first one, none of them is one
no_first_cause : (bad : Bool) (cause : Cause) (more : List (Option Cause)) → first_cause (cause_if bad cause ∷ more) ≡ None
    → (bad ≡ false) × (first_cause more ≡ None)
no_first_cause true cause more none = cc
no_first_cause false cause more none = (refl, none)

no_word_cause : (bad : Option ℕ) (more : List (Option Cause)) → first_cause (option_map (λ k. Cause.Word k) bad ∷ more) ≡ None
    → (bad ≡ None) × (first_cause more ≡ None)
no_word_cause None more none = (refl, none)
no_word_cause (Some k) more none = cc

-- as many words as kinds, none of them bad
kinds_hold : (k : ℕ) (kinds : List WordKind) (ws : List Placed) → length ws ≡ length kinds → bad_word k kinds ws ≡ None → AreOfKinds kinds ws
kinds_hold k [] [] many none = tt
kinds_hold k [] (w ∷ ws) many none = omega (arith, many)
kinds_hold k (kind ∷ kinds) [] many none = omega (arith, many)
kinds_hold k (kind ∷ kinds) (w ∷ ws) many none =
    by (is_of_kind kind w.bytes) refl (kinds_hold (k + 1) kinds ws (omega (arith, many))) none
  where
    by : (good : Bool) → is_of_kind kind w.bytes ≡ good → (bad_word (k + 1) kinds ws ≡ None → AreOfKinds kinds ws)
        → (if good then bad_word (k + 1) kinds ws else Some k) ≡ None → (is_of_kind kind w.bytes ≡ true) × AreOfKinds kinds ws
    by true good rest none = (good, rest none)
    by false good rest none = cc

-- what a line without a cause has behind its task
record IsGood (tasks : Tasks) (task : List ℕ) (first : Placed) (behind : List Placed) : Type 0 where
  verb : Verb
  is : verb_of first.bytes ≡ Some verb
  kinds : AreOfKinds (kinds_of verb behind) behind
  name : has_word (is_name_bad tasks) (kinds_of verb behind) behind ≡ false
  wait : has_word (is_wait_bad tasks (pid_of tasks task)) (kinds_of verb behind) behind ≡ false
  live : is_live_name tasks task ≡ true

words_good : (tasks : Tasks) (task : List ℕ) (first : Placed) (verb : Verb) (ws : List Placed) (text : Bool) → verb_of first.bytes ≡ Some verb
    → words_cause tasks task (kinds_of verb ws) ws text ≡ None → IsGood tasks task first ws
words_good tasks task first verb ws text is none =
    let kinds = kinds_of verb ws in
    let built = no_first_cause (has_word is_file_unbuilt kinds ws) Cause.NotBuilt _ none in
    let many = no_first_cause (not (length ws == length kinds)) Cause.Words _ built.1 in
    let word = no_word_cause (bad_word 3 kinds ws) _ many.1 in
    let deep = no_first_cause (has_word is_path_unbuilt kinds ws) Cause.NotBuilt _ word.1 in
    let whole = no_first_cause (not text) Cause.Text _ deep.1 in
    let live = no_first_cause (not (is_live_name tasks task)) Cause.Task _ whole.1 in
    let named = no_first_cause (has_word (is_name_bad tasks) kinds ws) Cause.Name _ live.1 in
    let waits = no_first_cause (has_word (is_wait_bad tasks (pid_of tasks task)) kinds ws) Cause.Wait _ named.1 in
    record {
      verb = verb;
      is = is;
      kinds = kinds_hold 3 kinds ws (eqb-true (length ws) (length kinds) (not-false _ many.0)) word.0;
      name = named.0;
      wait = waits.0;
      live = not-false _ live.0;
    }

unless_verb_bad : (name : List ℕ) → unless_verb name ≡ None → ⊥
unless_verb_bad name none = by (is_unbuilt_verb name) none
  where
    by : (unbuilt : Bool) → (if unbuilt then Some Cause.NotBuilt else Some Cause.Verb) ≡ None → ⊥
    by true none = cc
    by false none = cc

verb_good : (tasks : Tasks) (task : List ℕ) (first : Placed) (verb : Option Verb) (ws : List Placed) (text : Bool) → verb_of first.bytes ≡ verb
    → verb_cause tasks task first verb ws text ≡ None → IsGood tasks task first ws
verb_good tasks task first None ws text is none = absurd (unless_verb_bad first.bytes none)
verb_good tasks task first (Some verb) ws text is none = words_good tasks task first verb ws text is none

past_task : (good : Bool) (cause : Option Cause) → (if good then cause else Some (Cause.Word 1)) ≡ None → cause ≡ None
past_task true cause none = none
past_task false cause none = cc

-- a task that is live is there and has not exited, and nobody waited for it or for one that it descends from
live_parts : (above : List ScriptLine) (name : List ℕ) → is_live_name (tasks_of above) name ≡ true
    → (place_of (task_names above) name < length (task_names above)) × (has_exit above (place_of (task_names above) name) ≡ false)
    × (is_gone (tasks_of above) (place_of (task_names above) name) ≡ false)
live_parts above name live =
    let pid = place_of (task_names above) name in
    let parts = and_parts _ _ live in
    let there = and_parts _ _ parts.0 in
    (ltb-true pid (length (task_names above)) there.0, not-true (has_exit above pid) there.1, not-true (is_gone (tasks_of above) pid) parts.1)

-- a call of these words behind its task
good_words : (above : List ScriptLine) (l : ScriptLine) (ws : List Placed) (text : Bool) → line_cause (tasks_of above) ws text ≡ None
    → l.words ≡ drop 1 ws → l.task ≡ pid_of (tasks_of above) (word_at 0 ws).bytes → l.seq ≡ calls_by above l.task + 1
    → length (task_names (above ++ l ∷ [])) ≤ most_script_tasks → IsGoodLine above l
good_words above l [] text none words task seq few = cc
good_words above l (t ∷ []) text none words task seq few =
    let bad = past_task (is_task_name t.bytes) (behind_task (tasks_of above) t.bytes [] text) none in cc
good_words above l (t ∷ v ∷ ws) text none words task seq few =
    let good = verb_good (tasks_of above) t.bytes v (verb_of v.bytes) ws text refl
    (past_task (is_task_name t.bytes) (behind_task (tasks_of above) t.bytes (v ∷ ws) text) none) in
    let live = live_parts above t.bytes good.live in
    record {
      verb = good.verb;
      first = v;
      behind = ws;
      words = words;
      is = good.is;
      kinds = good.kinds;
      name = good.name;
      wait = subst (λ (k : ℕ). has_word (is_wait_bad (tasks_of above) k) (kinds_of good.verb ws) ws ≡ false) (sym task) good.wait;
      there = subst (λ (k : ℕ). k < length (task_names above)) (sym task) live.0;
      live = subst (λ (k : ℕ). has_exit above k ≡ false) (sym task) live.1;
      kept = subst (λ (k : ℕ). is_gone (tasks_of above) k ≡ false) (sym task) live.2;
      seq = seq;
      few = few;
    }

-- an item without a fault has a line without a cause
no_cause : (lines : Bool) (line : ℕ) (cause : Option Cause) (more : List (Option ScriptFault))
    → first_script_fault (fault_if lines (ScriptFault.TooLarge What.Lines) ∷ option_map (λ c. ScriptFault.Malformed line c) cause ∷ more) ≡ None → (cause ≡ None) × (first_script_fault more ≡ None)
no_cause true line cause more none = cc
no_cause false line None more none = (refl, none)
no_cause false line (Some c) more none = cc

pub within_limit : (over : Bool) (fault : ScriptFault) (more : List (Option ScriptFault)) → first_script_fault (fault_if over fault ∷ more) ≡ None → over ≡ false
within_limit true fault more none = cc
within_limit false fault more none = refl

good_item : (above : List ScriptLine) (i : Item) → item_fault above i ≡ None → IsGoodLine above (call_of above i)
good_item above i none =
    let call = call_of above i in
    let parts = no_cause (nat_lt most_lines i.line) i.line (line_cause (tasks_of above) i.words (has_text i)) (limit_faults (above ++ call ∷ []) call) none in
    good_words above call i.words (has_text i) parts.0 refl refl refl
    (ltb-false most_script_tasks (length (task_names (above ++ call ∷ []))) (within_limit (nat_lt most_script_tasks (length (task_names (above ++ call ∷ [])))) (ScriptFault.TooLarge What.Tasks) _ parts.1))

-- what is read where nothing has a fault
pub no_fault : (fault : Option ScriptFault) (more : Result (List ScriptLine) ScriptFault) (lines : List ScriptLine) → unless_script_fault fault more ≡ Ok lines
    → (fault ≡ None) × (more ≡ Ok lines)
no_fault None more lines is = (refl, is)
no_fault (Some e) more lines is = cc

pub ok_same : (a b : List ScriptLine) → ◌≡◌ {A = Result (List ScriptLine) ScriptFault} (Ok a) (Ok b) → a ≡ b
ok_same a b is = cc

-- what holds of no calls, and with each good call more, holds of a script
module _ (P : List ScriptLine → Type 0) (more : (above : List ScriptLine) (l : ScriptLine) → IsGoodLine above l → P above → P (above ++ l ∷ [])) where
  calls_hold : (behind : Option ScriptFault) (above : List ScriptLine) (is : List Item) (lines : List ScriptLine) → P above
      → calls_of behind above is ≡ Ok lines → P lines
  calls_hold behind above [] lines holds e =
      let same : above ≡ lines = ok_same above lines (no_fault behind (Ok above) lines e).1 in subst P same holds
  calls_hold behind above (i ∷ is) lines holds e =
      let none = no_fault (item_fault above i) (calls_of behind (above ++ call_of above i ∷ []) is) lines e in
      calls_hold behind (above ++ call_of above i ∷ []) is lines (more above (call_of above i) (good_item above i none.0) holds) none.1

  pub script_holds : P [] → (bytes : List ℕ) (lines : List ScriptLine) → parse bytes ≡ Ok lines → P lines
  script_holds none bytes lines is =
      calls_hold (lines_fault (lines_from 0 bytes)) [] (items 1 0 (lines_from 0 bytes)) lines none
      (not_refused (nat_lt most_bytes (length bytes)) (ScriptFault.TooLarge What.Bytes) (script_of (lines_from 0 bytes)) lines is)

-- good calls with one more
good_push : (above ls : List ScriptLine) (l : ScriptLine) → AreGoodLines above ls → IsGoodLine (above ++ ls) l → AreGoodLines above (ls ++ l ∷ [])
good_push above [] l good one = (subst (λ (a : List ScriptLine). IsGoodLine a l) (append-nil above) one, tt)
good_push above (x ∷ xs) l good one =
    (good.0, good_push (above ++ x ∷ []) xs l good.1 (subst (λ (a : List ScriptLine). IsGoodLine a l) (sym (append_assoc above (x ∷ []) xs)) one))

-- each call of a script is good behind those above it
pub good_lines : (bytes : List ℕ) (lines : List ScriptLine) → parse bytes ≡ Ok lines → AreGoodLines [] lines
good_lines bytes lines is = script_holds (AreGoodLines []) (λ above l one good. good_push [] above l good one) tt bytes lines is
