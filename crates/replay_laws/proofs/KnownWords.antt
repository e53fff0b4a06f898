use Rattle.std.proofs.Common.{◌≡◌, ◌<◌, ◌≤◌, ℕ, Bool, true, false, ◌&&◌, ◌==◌, not, cond, if◌then◌else◌, List, [], ◌∷◌, ◌++◌, length, refl, sym, subst, ap₂, arith, Option, Some, None, Result, Ok, Err}
use Rattle.std.specs.Prelude.{is_some, is_ok, map}
use Rattle.std.specs.List.{flat_map, filter, list_all}
use Rattle.std.specs.Option.{IfSome}
use Rattle.std.specs.Result.{result_ok}
use Rattle.std.proofs.lemmas.Bool.{and_parts, or_parts, not-false, eqb-true, lt-ltb}
use Rattle.std.proofs.lemmas.List.{length-reverse, length-map}
use Rattle.smack_base.specs.Modes.{is_modes}
use Rattle.smack_base.specs.Paths.{path_of}
use Rattle.text_spec.specs.Texts.{Placed}
use Rattle.text_spec.specs.Names.{place_of, has_name, id_of}
use Rattle.verb_spec.specs.declared.CallVerb.{CallVerb}
use Rattle.verb_spec.specs.declared.Verb.{Verb}
use Rattle.verb_spec.specs.declared.Value.{Value}
use Rattle.verb_spec.specs.declared.WordKind.{WordKind}
use Rattle.verb_spec.specs.Words.{cap_of, number_of, signal_of, trace_way_of}
use Rattle.verb_spec.specs.Kinds.{is_of_kind, has_word, label_words}
use Rattle.verb_spec.specs.Values.{path_in, pid_in, modes_in, value_in, with_value, values_behind}
use Rattle.verb_spec.specs.Verbs.{call_kinds, kinds_of, call_from, from_values, made_call}
use Rattle.verb_spec.proofs.Fitting.{all_fit, values_fit}
use Rattle.verb_spec.proofs.Verbs.{call_found}
use Rattle.script_spec.specs.Lines.{ScriptLine, word_in, words_behind, kinds_in}
use Rattle.script_spec.specs.Tasks.{TaskChange, Forks, Exits, Awaits, Keeps, forked_name, is_fork, change_by, change_of, parents_in, task_names, tasks_of, pid_of, latest_child, is_pid, is_latest_child}
use Rattle.script_spec.specs.Causes.{is_name_bad, is_wait_bad}
use Rattle.replay_spec.specs.Calls.{of_one, of_three}
use Rattle.replay_spec.specs.Acts.{act_by, act_of_line}
use Rattle.plain_laws.proofs.Tables.{HasNames}
use Rattle.plain_laws.proofs.GoodLines.{AreOfKinds, IsGoodLine, good_verb, good_behind, good_kinds}
use Rattle.replay_laws.proofs.CallKinds.{is_found_kind, has_found_kinds, verb_found}

-- a name that a table has is found in it
found_label : (labels : List (List ℕ)) (word : List ℕ) → has_name labels word ≡ true → is_some (id_of labels word) ≡ true
found_label labels word has = rw has refl

found_task : (names : List (List ℕ)) (word : List ℕ) → has_name names word ≡ true → is_some (pid_in names word) ≡ true
found_task names word has = rw has refl

-- what is made of words that are each found
made_of_one : {A C : Type 0} (a : Option A) (make : A → C) → is_some a ≡ true → is_some (of_one a make) ≡ true
made_of_one None make found = cc
made_of_one (Some x) make found = refl

made_of_three : {A B C D : Type 0} (a : Option A) (b : Option B) (c : Option C) (make : A → B → C → D) → is_some a ≡ true → is_some b ≡ true
    → is_some c ≡ true → is_some (of_three a b c make) ≡ true
made_of_three None b c make found found' last = cc
made_of_three (Some x) None c make found found' last = cc
made_of_three (Some x) (Some y) c make found found' last = made_of_one c (make x y) last

both_values : (first : Option Value) (rest : Option (List Value)) → is_some first ≡ true → is_some rest ≡ true → is_some (with_value first rest) ≡ true
both_values None rest found found' = cc
both_values (Some v) None found found' = cc
both_values (Some v) (Some vs) found found' = refl

found_path : {A F : Type 0} (r : Result A F) → is_ok r ≡ true → is_some (result_ok r) ≡ true
found_path (Ok x) good = refl
found_path (Err f) good = cc

-- there are as many parents as tasks, the first not counted
pub forks_counted : (lines : List ScriptLine)
    → length (filter (λ l. is_fork (change_of l)) lines) ≡ length (flat_map (λ l. forked_name (change_of l)) lines)
forks_counted [] = refl
forks_counted (l ∷ ls) = by (change_of l) (forks_counted ls)
  where
    by : (change : TaskChange) → length (filter (λ l. is_fork (change_of l)) ls) ≡ length (flat_map (λ l. forked_name (change_of l)) ls)
        → length (cond (is_fork change) (l ∷ filter (λ l. is_fork (change_of l)) ls) (filter (λ l. is_fork (change_of l)) ls))
        ≡ length (forked_name change ++ flat_map (λ l. forked_name (change_of l)) ls)
    by (Forks name) rest = omega (arith, rest)
    by change rest = rest

parents_counted : (above : List ScriptLine) → length (parents_in above) < length (task_names above)
parents_counted above =
    omega (
      arith,
      forks_counted above,
      length-reverse (map (λ l. l.task) (filter (λ l. is_fork (change_of l)) above)),
      length-map (filter (λ l. is_fork (change_of l)) above) (λ l. l.task),
    )

-- the latest child is one of the tasks
child_below : (awaited : ℕ → Bool) (parents : List ℕ) (task pid : ℕ) → is_pid (latest_child awaited parents task) pid ≡ true → pid ≤ length parents
child_below awaited [] task pid is = cc
child_below awaited (parent ∷ older) task pid is =
    by ((parent == task) && not (awaited (length (parent ∷ older)))) (child_below awaited older task pid) is
  where
    by : (here : Bool) → (is_pid (latest_child awaited older task) pid ≡ true → pid ≤ length older)
        → is_pid (if here then Some (length (parent ∷ older)) else latest_child awaited older task) pid ≡ true → pid ≤ length (parent ∷ older)
    by true rest is = omega (arith, eqb-true (length (parent ∷ older)) pid is)
    by false rest is = omega (arith, rest is)

pub child_has_name : (above : List ScriptLine) (task : ℕ) (name : List ℕ) → is_latest_child (tasks_of above) task name ≡ true
    → has_name (task_names above) name ≡ true
child_has_name above task name is =
    let below = child_below (tasks_of above).awaited (parents_in above) task (pid_of (tasks_of above) name) is in
    lt-ltb (place_of (task_names above) name) (length (task_names above)) (omega (arith, below, parents_counted above))

found_modes : (word : List ℕ) → is_modes word ≡ true → is_some (modes_in word) ≡ true
found_modes word are = rw are refl

-- a word that stands for a label is known
abbrev IsKnownLabel : List (List ℕ) → WordKind → List ℕ → Type 0
IsKnownLabel labels WordKind.Label word = has_name labels word ≡ true
IsKnownLabel labels kind word = Unit {0}

-- the first of some words, and the others
known_labels : (labels : List (List ℕ)) (kind : WordKind) (kinds : List WordKind) (w : Placed) (ws : List Placed)
    → HasNames labels (label_words (kind ∷ kinds) (w ∷ ws)) → IsKnownLabel labels kind w.bytes × HasNames labels (label_words kinds ws)
known_labels labels WordKind.Label kinds w ws known = known
known_labels labels kind kinds w ws known = (tt, known)

-- values that fit the kinds of a verb's words make its call
made_from : (verb : CallVerb) (ws : List Placed) (values : Option (List Value)) → is_some values ≡ true
    → ((vs : List Value) → values ≡ Some vs → all_fit (call_kinds verb ws) vs ≡ true) → is_some (from_values (call_from verb) values) ≡ true
made_from verb ws None found fit = cc
made_from verb ws (Some vs) found fit = call_found verb ws vs (fit vs refl)

-- Each word behind a verb is read, where the labels of the call and the tasks above it are known, and the task that it
-- forks.
module _ (labels names : List (List ℕ)) (above : List ScriptLine) (task : ℕ) (tasks : (name : List ℕ) → has_name (task_names above) name ≡ true → has_name names name ≡ true) where
  -- a row for each kind
  value_found : (kind : WordKind) (word : List ℕ) → is_found_kind kind ≡ true → is_of_kind kind word ≡ true → IsKnownLabel labels kind word
      → is_name_bad (tasks_of above) kind word ≡ false → is_wait_bad (tasks_of above) task kind word ≡ false
      → is_some (value_in labels names kind word) ≡ true
  value_found WordKind.Label word there is known name wait = made_of_one (id_of labels word) _ (found_label labels word known)
  value_found WordKind.Modes word there is known name wait = made_of_one (modes_in word) _ (found_modes word is)
  value_found WordKind.File word there is known name wait = absurd cc
  value_found WordKind.Lines word there is known name wait = absurd cc
  value_found WordKind.Number word there is known name wait = made_of_one (number_of word) _ is
  value_found WordKind.Path word there is known name wait = made_of_one (path_in word) _ (found_path (path_of word) is)
  value_found WordKind.Capability word there is known name wait = made_of_one (cap_of word) _ is
  value_found WordKind.NewTask word there is known name wait = absurd cc
  value_found WordKind.KnownTask word there is known name wait =
      made_of_one (pid_in names word) _ (found_task names word (tasks word (not-false (has_name (task_names above) word) name)))
  value_found WordKind.Child word there is known name wait =
      made_of_one (pid_in names word) _
      (found_task names word (tasks word (child_has_name above task word (not-false (is_latest_child (tasks_of above) task word) wait))))
  value_found WordKind.Signal word there is known name wait = made_of_one (signal_of word) _ is
  value_found WordKind.TraceWay word there is known name wait = made_of_one (trace_way_of word) _ is

  values_found : (kinds : List WordKind) (ws : List Placed) → list_all is_found_kind kinds ≡ true → AreOfKinds kinds ws
      → HasNames labels (label_words kinds ws) → has_word (is_name_bad (tasks_of above)) kinds ws ≡ false
      → has_word (is_wait_bad (tasks_of above) task) kinds ws ≡ false → is_some (values_behind labels names kinds ws) ≡ true
  values_found [] ws there are known name wait = refl
  values_found (kind ∷ kinds) [] there are known name wait = absurd are
  values_found (kind ∷ kinds) (w ∷ ws) there are known name wait =
      let there' = and_parts (is_found_kind kind) (list_all is_found_kind kinds) there in
      let known' = known_labels labels kind kinds w ws known in
      let name' = or_parts (is_name_bad (tasks_of above) kind w.bytes) (has_word (is_name_bad (tasks_of above)) kinds ws) name in
      let wait' = or_parts (is_wait_bad (tasks_of above) task kind w.bytes) (has_word (is_wait_bad (tasks_of above) task) kinds ws) wait in
      both_values (value_in labels names kind w.bytes) (values_behind labels names kinds ws)
      (value_found kind w.bytes there'.0 are.0 known'.0 name'.0 wait'.0) (values_found kinds ws there'.1 are.1 known'.1 name'.1 wait'.1)

  call_is_made : (verb : CallVerb) (ws : List Placed) → list_all is_found_kind (call_kinds verb ws) ≡ true → AreOfKinds (call_kinds verb ws) ws
      → HasNames labels (label_words (call_kinds verb ws) ws) → has_word (is_name_bad (tasks_of above)) (call_kinds verb ws) ws ≡ false
      → has_word (is_wait_bad (tasks_of above) task) (call_kinds verb ws) ws ≡ false → is_some (made_call labels names verb ws) ≡ true
  call_is_made verb ws there are known name wait =
      made_from verb ws (values_behind labels names (call_kinds verb ws) ws) (values_found (call_kinds verb ws) ws there are known name wait)
      (values_fit labels names (call_kinds verb ws) ws)

-- a line of a verb and words that are good does something
module _ (labels names : List (List ℕ)) (above : List ScriptLine) (l : ScriptLine) (tasks : (name : List ℕ) → has_name (task_names above) name ≡ true → has_name names name ≡ true) where
  verb_does : (verb : Verb) (first : Placed) (ws : List Placed) → has_found_kinds ws verb ≡ true → l.words ≡ first ∷ ws → AreOfKinds (kinds_of verb ws) ws
      → HasNames labels (label_words (kinds_of verb ws) ws) → has_word (is_name_bad (tasks_of above)) (kinds_of verb ws) ws ≡ false
      → has_word (is_wait_bad (tasks_of above) l.task) (kinds_of verb ws) ws ≡ false → HasNames names (forked_name (change_by (Some verb) l))
      → is_some (act_by labels names l (Some verb)) ≡ true
  verb_does Verb.Write first ws there words are known name wait forked = refl
  verb_does Verb.Ask first (w ∷ []) there words are known name wait forked = absurd are.1
  verb_does Verb.Ask first (w ∷ v ∷ []) there words are known name wait forked = absurd are.1.1
  verb_does Verb.Ask first (w ∷ v ∷ u ∷ ws) there words are known name wait forked =
      rw words
      (made_of_three (id_of labels w.bytes) (id_of labels v.bytes) (modes_in u.bytes) _ (found_label labels w.bytes known.0)
      (found_label labels v.bytes known.1.0) (found_modes u.bytes are.1.1.0))
  verb_does Verb.Wait first (w ∷ ws) there words are known name wait forked =
      rw words
      (made_of_one (pid_in names w.bytes) _
      (found_task names w.bytes (tasks w.bytes
      (child_has_name above l.task w.bytes (not-false (is_latest_child (tasks_of above) l.task w.bytes) (or_parts _ _ wait).0)))))
  verb_does Verb.Fork first ws there words are known name wait forked =
      made_of_one (pid_in names (word_in 1 l)) _ (found_task names (word_in 1 l) forked.0)
  verb_does Verb.Exit first ws there words are known name wait forked = refl
  verb_does (Verb.Call verb) first ws there words are known name wait forked =
      rw words (made_of_one (made_call labels names verb ws) _ (call_is_made labels names above l.task tasks verb ws there are known name wait))
  verb_does verb first ws there words are known name wait forked = absurd are

  pub line_does : (good : IsGoodLine above l) → HasNames labels (label_words (kinds_in l) (words_behind l)) → HasNames names (forked_name (change_of l))
      → is_some (act_of_line labels names l) ≡ true
  line_does good known forked =
      let behind = good.behind in
      let there : has_found_kinds behind good.verb ≡ true =
      subst (λ told. IfSome told (λ verb. has_found_kinds behind verb ≡ true)) good.is (verb_found behind good.first.bytes) in
      let words : HasNames labels (label_words (kinds_of good.verb behind) behind) =
      subst (HasNames labels) (ap₂ label_words (good_kinds above l good) (good_behind above l good)) known in
      let one : HasNames names (forked_name (change_by (Some good.verb) l)) =
      subst (λ verb. HasNames names (forked_name (change_by verb l))) (good_verb above l good) forked in
      subst (λ verb. is_some (act_by labels names l verb) ≡ true) (sym (good_verb above l good))
      (verb_does good.verb good.first behind there good.words good.kinds words good.name good.wait one)
