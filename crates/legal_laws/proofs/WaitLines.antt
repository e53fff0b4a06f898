use Rattle.std.proofs.Common.{◌≡◌, ◌<◌, ℕ, ◌+◌, suc, Bool, true, false, ◌||◌, not, cond, if◌then◌else◌, List, [], ◌∷◌, ◌++◌, length, refl, sym, ap, subst, ◌∙◌, arith, append_assoc, Some, None}
use Rattle.std.specs.List.{list_any}
use Rattle.std.specs.Str.{bytes_eq}
use Rattle.std.proofs.lemmas.Bool.{eqb-true, eq-eqb, ltb-true}
use Rattle.std.proofs.lemmas.List.Folds.{list_any-append}
use Rattle.smack_base.specs.declared.ids.Pid.{Pid}
use Rattle.text_spec.specs.Names.{place_of, has_name}
use Rattle.verb_spec.specs.declared.Verb.{Verb}
use Rattle.script_spec.specs.Lines.{ScriptLine, word_in, verb_in}
use Rattle.script_spec.specs.Tasks.{TaskChange, Forks, Exits, Awaits, Keeps, change_by, change_of, forked_name, is_wait_for, has_wait, parents_in, task_names}
use Rattle.verb_spec.specs.Values.{pid_in}
use Rattle.plain_laws.proofs.GoodLines.{IsGoodLine, good_wait}
use Rattle.plain_laws.proofs.Tasks.{names_more}
use Rattle.replay_laws.proofs.KnownWords.{child_has_name}
use Rattle.legal_laws.proofs.Lineages.{parent_of, latest_is_child}

place_step : (here : Bool) (p q len : ℕ) → (q < len → p ≡ q) → cond (not here) (1 + q) 0 < suc len
    → cond (not here) (1 + p) 0 ≡ cond (not here) (1 + q) 0
place_step true p q len same there = refl
place_step false p q len same there = ap (λ (k : ℕ). 1 + k) (same (omega (arith, there)))

-- a name keeps its place where more names follow
pub place_kept : (names more : List (List ℕ)) (name : List ℕ) → place_of names name < length names → place_of (names ++ more) name ≡ place_of names name
place_kept [] more name there = absurd (omega (arith, there))
place_kept (n ∷ ns) more name there =
    place_step (bytes_eq n name) (place_of (ns ++ more) name) (place_of ns name) (length ns) (place_kept ns more name) there

-- a wait for a task that has a name stays one
still_waits : (names more : List (List ℕ)) (task : ℕ) (change : TaskChange) → task < length names → is_wait_for names task change ≡ true
    → is_wait_for (names ++ more) task change ≡ true
still_waits names more task (Awaits name) there is =
    let at : place_of names name ≡ task = eqb-true (place_of names name) task is in
    eq-eqb (place_of (names ++ more) name) task (place_kept names more name (omega (arith, at, there)) ∙ at)
still_waits names more task change there is = absurd cc

any_of : {X : Type 0} (p q : X → Bool) (xs : List X) → ((x : X) → p x ≡ true → q x ≡ true) → list_any p xs ≡ true → list_any q xs ≡ true
any_of p q [] gives is = cc
any_of p q (x ∷ xs) gives is = by (p x) (q x) (gives x) (any_of p q xs gives) is
  where
    by : (a b : Bool) → (a ≡ true → b ≡ true) → (list_any p xs ≡ true → list_any q xs ≡ true) → (a || list_any p xs) ≡ true
        → (b || list_any q xs) ≡ true
    by true b first rest is = rw (first refl) refl
    by false true first rest is = refl
    by false false first rest is = rest is

or_first : (a b : Bool) → a ≡ true → (a || b) ≡ true
or_first true b is = refl
or_first false b is = cc

or_last : (a b : Bool) → b ≡ true → (a || b) ≡ true
or_last true b is = refl
or_last false b is = is

-- a task that was waited for stays so
pub waited_more : (above : List ScriptLine) (l : ScriptLine) (task : ℕ) → task < length (task_names above) → has_wait above task ≡ true
    → has_wait (above ++ l ∷ []) task ≡ true
waited_more above l task there is =
    let names = task_names above in
    let more = forked_name (change_of l) in
    let kept : list_any (λ x. is_wait_for (names ++ more) task (change_of x)) above ≡ true =
    any_of (λ x. is_wait_for names task (change_of x)) (λ x. is_wait_for (names ++ more) task (change_of x)) above
    (λ x waits. still_waits names more task (change_of x) there waits) is in
    subst (λ (ns : List (List ℕ)). list_any (λ x. is_wait_for ns task (change_of x)) (above ++ l ∷ []) ≡ true) (sym (names_more above l))
    (list_any-append (λ x. is_wait_for (names ++ more) task (change_of x)) above (l ∷ [])
    ∙ or_first (list_any (λ x. is_wait_for (names ++ more) task (change_of x)) above) _ kept)

-- what a good line that waits says: the task that it names is the latest child of its own
pub record IsWaitLine (above : List ScriptLine) (l : ScriptLine) (task : ℕ) : Type 0 where
  pub there : task < length (task_names above)
  pub child : parent_of (parents_in above) task ≡ Some l.task
  pub waited : has_wait (above ++ l ∷ []) task ≡ true

found_place : (names : List (List ℕ)) (word : List ℕ) (pid : Pid) → pid_in names word ≡ Some pid → place_of names word ≡ pid.0
found_place names word pid is = by (has_name names word) is
  where
    by : (has : Bool) → (if has then Some (record { 0 = place_of names word }) else None) ≡ Some pid → place_of names word ≡ pid.0
    by true is = cc
    by false is = cc

pub wait_line : (above : List ScriptLine) (l : ScriptLine) (names rest : List (List ℕ)) (pid : Pid) → IsGoodLine above l
    → names ≡ task_names (above ++ l ∷ []) ++ rest → verb_in l ≡ Some Verb.Wait → pid_in names (word_in 1 l) ≡ Some pid → IsWaitLine above l pid.0
wait_line above l names rest pid good whole verb is =
    let name = word_in 1 l in
    let all = task_names above in
    let latest = good_wait above l good verb in
    let has : has_name all name ≡ true = child_has_name above l.task name latest in
    let there : place_of all name < length all = ltb-true (place_of all name) (length all) has in
    let split : names ≡ all ++ (forked_name (change_of l) ++ rest) =
    whole ∙ ap (λ ns. ns ++ rest) (names_more above l) ∙ append_assoc all (forked_name (change_of l)) rest in
    let place : place_of all name ≡ pid.0 =
    sym (place_kept all (forked_name (change_of l) ++ rest) name there) ∙ ap (λ ns. place_of ns name) (sym split) ∙ found_place names name pid is in
    let kept : place_of (task_names (above ++ l ∷ [])) name ≡ pid.0 =
    ap (λ ns. place_of ns name) (names_more above l) ∙ place_kept all (forked_name (change_of l)) name there ∙ place in
    let own : is_wait_for (task_names (above ++ l ∷ [])) pid.0 (change_of l) ≡ true =
    ap (λ v. is_wait_for (task_names (above ++ l ∷ [])) pid.0 (change_by v l)) verb ∙ eq-eqb (place_of (task_names (above ++ l ∷ [])) name) pid.0 kept in
    record {
      there = subst (λ (k : ℕ). k < length all) place there;
      child = ap (parent_of (parents_in above)) (sym place) ∙ latest_is_child (has_wait above) (parents_in above) l.task (place_of all name) latest;
      waited =
          list_any-append (λ x. is_wait_for (task_names (above ++ l ∷ [])) pid.0 (change_of x)) above (l ∷ [])
          ∙ or_last (list_any (λ x. is_wait_for (task_names (above ++ l ∷ [])) pid.0 (change_of x)) above) _ (or_first _ false own);
    }
