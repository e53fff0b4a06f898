-- The lines of each task of a script are orderly: each wait is for the latest child that is open.
use Rattle.std.proofs.Common.{◌≡◌, ℕ, ◌<◌, ◌≤◌, ◌==◌, ◌&&◌, ◌||◌, not, Bool, true, false, if◌then◌else◌, List, [], ◌∷◌, ◌++◌, length, sym, refl, ap, ◌∙◌, subst, arith, append_assoc, Some, None}
use Rattle.std.specs.List.{list_any, AllByRecursion}
use Rattle.std.proofs.lemmas.Bool.{eqb-true, eq-eqb, ne_eqb, ltb-true, and_parts, and_from, and_right, or_from, or_right}
use Rattle.text_spec.specs.Names.{place_of, has_name}
use Rattle.verb_spec.specs.declared.Verb.{Verb}
use Rattle.script_spec.specs.Lines.{ScriptLine, word_in, verb_in, table_of}
use Rattle.script_spec.specs.Tasks.{Tasks, TaskChange, Awaits, change_by, change_of, forked_name, is_wait_for, task_names, tasks_of, latest_child, is_pid, is_latest_child}
use Rattle.script_text.specs.TaskTables.{table_after, IsWaitThere}
use Rattle.script_text.proofs.TaskSteps.{tasks_more, waits_more}
use Rattle.verb_spec.specs.Values.{pid_in}
use Rattle.replay_spec.specs.Plain.{IsNameTable}
use Rattle.plain_laws.proofs.GoodLines.{IsGoodLine, AreGoodLines, good_verb, good_wait, good_lines}
use Rattle.plain_laws.proofs.Tables.{has_before}
use Rattle.plain_laws.proofs.Tasks.{names_more, names_behind, names_are_a_table}
use Rattle.replay_laws.proofs.KnownWords.{child_has_name}
use Rattle.replay_laws.proofs.EachLine.{good_line_does}
use Rattle.replay_laws.proofs.InStep.{next_pid}
use Rattle.legal_laws.proofs.ForkLines.{parents_many}
use Rattle.legal_laws.proofs.WaitLines.{place_kept}
use Rattle.runs_spec.specs.Scripts.{Scripted, scripted, lines_by}
use Rattle.runs_spec.specs.Orders.{is_known, with_open, without_open, open_after, IsOrderlyBehind}
use Rattle.run_laws.specs.Laws.{ScriptsAreOrderly}

or_false : (b : Bool) → (b || false) ≡ b
or_false true = refl
or_false false = refl

-- the children of a task that were not waited for, the latest first, by the parents of the youngest task and of all older ones
abbrev children : (ℕ → Bool) → List ℕ → ℕ → List ℕ
children awaited [] task = []
children awaited (parent ∷ older) task =
    if (parent == task) && not (awaited (length (parent ∷ older))) then length (parent ∷ older) ∷ children awaited older task
    else children awaited older task

-- no pid among them is that of a task that is not there yet
all_below : (awaited : ℕ → Bool) (parents : List ℕ) (task n : ℕ) → length parents < n → list_any (λ c. c == n) (children awaited parents task) ≡ false
all_below awaited [] task n more = refl
all_below awaited (parent ∷ older) task n more =
    by ((parent == task) && not (awaited (length (parent ∷ older)))) (all_below awaited older task n (omega (arith, more)))
  where
    by : (here : Bool) → list_any (λ c. c == n) (children awaited older task) ≡ false
        → list_any (λ c. c == n) (if here then length (parent ∷ older) ∷ children awaited older task else children awaited older task) ≡ false
    by true rest =
        or_from (length (parent ∷ older) == n) (list_any (λ c. c == n) (children awaited older task))
        (ne_eqb (length (parent ∷ older)) n (λ same. absurd (omega (arith, same, more)))) rest
    by false rest = rest

same_children : (a b : ℕ → Bool) (parents : List ℕ) (task : ℕ) → ((n : ℕ) → n ≤ length parents → a n ≡ b n)
    → children a parents task ≡ children b parents task
same_children a b [] task same = refl
same_children a b (parent ∷ older) task same =
    let rest = same_children a b older task (λ n low. same n (omega (arith, low))) in
    let here = same (length (parent ∷ older)) (omega arith) in
    λ i. if (parent == task) && not (here i) then length (parent ∷ older) ∷ rest i else rest i

-- the latest child is one of the tasks
latest_below : (awaited : ℕ → Bool) (parents : List ℕ) (task pid : ℕ) → is_pid (latest_child awaited parents task) pid ≡ true → pid ≤ length parents
latest_below awaited [] task pid is = cc
latest_below awaited (parent ∷ older) task pid is =
    by ((parent == task) && not (awaited (length (parent ∷ older)))) (latest_below awaited older task pid) is
  where
    by : (here : Bool) → (is_pid (latest_child awaited older task) pid ≡ true → pid ≤ length older)
        → is_pid (if here then Some (length (parent ∷ older)) else latest_child awaited older task) pid ≡ true → pid ≤ length (parent ∷ older)
    by true rest is = omega (arith, eqb-true (length (parent ∷ older)) pid is)
    by false rest is = omega (arith, rest is)

-- the latest child of a task is waited for
module _ (a b : ℕ → Bool) (c : ℕ) where
  abbrev IsMarked : List ℕ → Type 0
  IsMarked parents = (n : ℕ) → n ≤ length parents → b n ≡ (a n || (c == n))

  older_marked : (parent : ℕ) (older : List ℕ) → IsMarked (parent ∷ older) → IsMarked older
  older_marked parent older marked n low = marked n (omega (arith, low))

  unmarked : (parents : List ℕ) → IsMarked parents → (n : ℕ) → n ≤ length parents → (c ≡ n → ⊥) → b n ≡ a n
  unmarked parents marked n low apart = marked n low ∙ (ap (λ t. a n || t) (ne_eqb c n apart) ∙ or_false (a n))

  -- it was the first of the children of its task, and the others are left
  own_left : (parents : List ℕ) (task : ℕ) → IsMarked parents → is_pid (latest_child a parents task) c ≡ true
      → children a parents task ≡ c ∷ children b parents task
  own_left [] task marked is = cc
  own_left (parent ∷ older) task marked is =
      by ((parent == task) && not (a (length (parent ∷ older)))) refl (own_left older task (older_marked parent older marked)) is
    where
      by : (here : Bool) → ((parent == task) && not (a (length (parent ∷ older)))) ≡ here
          → (is_pid (latest_child a older task) c ≡ true → children a older task ≡ c ∷ children b older task)
          → is_pid (if here then Some (length (parent ∷ older)) else latest_child a older task) c ≡ true
          → (if here then length (parent ∷ older) ∷ children a older task else children a older task)
          ≡ c ∷ (if (parent == task) && not (b (length (parent ∷ older))) then length (parent ∷ older) ∷ children b older task else children b older task)
      by true e rest is =
          let at : length (parent ∷ older) ≡ c = eqb-true (length (parent ∷ older)) c is in
          let gone : b (length (parent ∷ older)) ≡ true =
          marked (length (parent ∷ older)) (omega arith) ∙ or_right (a (length (parent ∷ older))) (c == length (parent ∷ older)) (eq-eqb c (length (parent ∷ older)) (sym at)) in
          let same : children a older task ≡ children b older task =
          same_children a b older task (λ n low. sym (unmarked (parent ∷ older) marked n (omega (arith, low)) (λ z. absurd (omega (arith, z, at, low))))) in
          (λ i. at i ∷ same i)
          ∙ ap (λ (t : Bool). c ∷ (if t then length (parent ∷ older) ∷ children b older task else children b older task))
          (sym (and_right (parent == task) (not (b (length (parent ∷ older)))) (ap not gone)))
      by false e rest is =
          let low = latest_below a older task c is in
          let same = unmarked (parent ∷ older) marked (length (parent ∷ older)) (omega arith) (λ z. absurd (omega (arith, z, low))) in
          rest is
          ∙ ap (λ (t : Bool). c ∷ (if t then length (parent ∷ older) ∷ children b older task else children b older task))
          (sym (ap (λ t. (parent == task) && not t) same ∙ e))

  -- those of other tasks are the same
  others_left : (parents : List ℕ) (task other : ℕ) → IsMarked parents → is_pid (latest_child a parents task) c ≡ true → (task == other) ≡ false
      → children b parents other ≡ children a parents other
  others_left [] task other marked is apart = cc
  others_left (parent ∷ older) task other marked is apart =
      by ((parent == task) && not (a (length (parent ∷ older)))) refl (λ is'. others_left older task other (older_marked parent older marked) is' apart) is
    where
      by : (here : Bool) → ((parent == task) && not (a (length (parent ∷ older)))) ≡ here
          → (is_pid (latest_child a older task) c ≡ true → children b older other ≡ children a older other)
          → is_pid (if here then Some (length (parent ∷ older)) else latest_child a older task) c ≡ true
          → children b (parent ∷ older) other ≡ children a (parent ∷ older) other
      by true e rest is =
          let at : length (parent ∷ older) ≡ c = eqb-true (length (parent ∷ older)) c is in
          let not_so : (parent == other) ≡ false =
          ap (λ p. p == other) (eqb-true parent task (and_parts (parent == task) (not (a (length (parent ∷ older)))) e).0) ∙ apart in
          let same : children b older other ≡ children a older other =
          same_children b a older other (λ n low. unmarked (parent ∷ older) marked n (omega (arith, low)) (λ z. absurd (omega (arith, z, at, low)))) in
          ap (λ (t : Bool). if t && not (b (length (parent ∷ older))) then length (parent ∷ older) ∷ children b older other else children b older other) not_so
          ∙ (same
          ∙ sym (ap (λ (t : Bool). if t && not (a (length (parent ∷ older))) then length (parent ∷ older) ∷ children a older other else children a older other) not_so))
      by false e rest is =
          let low = latest_below a older task c is in
          let same = unmarked (parent ∷ older) marked (length (parent ∷ older)) (omega arith) (λ z. absurd (omega (arith, z, low))) in
          let more = rest is in
          λ i. if (parent == other) && not (same i) then length (parent ∷ older) ∷ more i else more i

-- the children of a task that are open, by what some calls say of tasks
abbrev open_in : Tasks → ℕ → List ℕ
open_in tasks task = children tasks.awaited tasks.parents task

kept : (tasks : Tasks) (p : ℕ) → children (λ t. tasks.awaited t || false) tasks.parents p ≡ open_in tasks p
kept tasks p = same_children (λ t. tasks.awaited t || false) tasks.awaited tasks.parents p (λ n low. or_false (tasks.awaited n))

-- nobody waits for a task that is not there yet
module _ (tasks : Tasks) (n : ℕ) (far : length tasks.names ≤ n) where
  no_wait : (change : TaskChange) → IsWaitThere tasks change → is_wait_for tasks.names n change ≡ false
  no_wait (Awaits name) there = ne_eqb (place_of tasks.names name) n (λ same. absurd (omega (arith, same, there, far)))
  no_wait change there = refl

  no_waits : (ls : List ScriptLine) → AllByRecursion (λ k. IsWaitThere tasks (change_of k)) ls
      → list_any (λ k. is_wait_for tasks.names n (change_of k)) ls ≡ false
  no_waits [] there = refl
  no_waits (l ∷ ls) there =
      or_from (is_wait_for tasks.names n (change_of l)) (list_any (λ k. is_wait_for tasks.names n (change_of k)) ls)
      (no_wait (change_of l) there.0) (no_waits ls there.1)

abbrev behind_line : List ScriptLine → ScriptLine → Tasks
behind_line above l = table_after (tasks_of above) l.task (change_of l)

-- one more line of a script
module _ (above : List ScriptLine) (l : ScriptLine) (good : IsGoodLine above l) where
  abbrev tasks : Tasks
  tasks = tasks_of above

  abbrev name : List ℕ
  name = word_in 1 l

  abbrev after : Verb → Tasks
  after verb = table_after tasks l.task (change_by (Some verb) l)

  latest : verb_in l ≡ Some Verb.Wait → is_latest_child tasks l.task name ≡ true
  latest is = good_wait above l good is

  -- a task that it waits for is there
  there_by : (verb : Verb) → verb_in l ≡ Some verb → IsWaitThere tasks (change_by (Some verb) l)
  there_by Verb.Wait is = ltb-true (place_of tasks.names name) (length tasks.names) (child_has_name above l.task name (latest is))
  there_by verb is = tt

  wait_there : IsWaitThere tasks (change_of l)
  wait_there = subst (λ v. IsWaitThere tasks (change_by v l)) (sym (good_verb above l good)) (there_by good.verb (good_verb above l good))

  -- it leaves the children of other tasks as they were
  module _ (p : ℕ) (apart : (l.task == p) ≡ false) where
    other_by : (verb : Verb) → verb_in l ≡ Some verb → open_in (after verb) p ≡ open_in tasks p
    other_by Verb.Wait is =
        others_left tasks.awaited (after Verb.Wait).awaited (place_of tasks.names name) tasks.parents l.task p (λ n low. refl) (latest is) apart
    other_by Verb.Fork is =
        ap (λ (t : Bool). if t && not ((after Verb.Fork).awaited (length (l.task ∷ tasks.parents)))
        then length (l.task ∷ tasks.parents) ∷ children (after Verb.Fork).awaited tasks.parents p
        else children (after Verb.Fork).awaited tasks.parents p) apart ∙ kept tasks p
    other_by verb is = kept tasks p

    other_open : open_in (behind_line above l) p ≡ open_in tasks p
    other_open = subst (λ v. open_in (table_after tasks l.task (change_by v l)) p ≡ open_in tasks p) (sym (good_verb above l good))
        (other_by good.verb (good_verb above l good))

  -- it opens or closes a child of its own task
  module _ (names rest : List (List ℕ)) (table : IsNameTable names) (waits : AllByRecursion (λ k. IsWaitThere tasks (change_of k)) above) where
    abbrev IsSplit : Verb → Type 0
    IsSplit verb = names ≡ tasks.names ++ (forked_name (change_by (Some verb) l) ++ rest)

    abbrev IsOpen : Verb → Type 0
    IsOpen verb = open_after names (open_in tasks l.task) (change_by (Some verb) l) ≡ Some (open_in (after verb) l.task)

    keeps : Some (open_in tasks l.task) ≡ Some (children (λ t. tasks.awaited t || false) tasks.parents l.task)
    keeps = ap (λ (o : List ℕ). Some o) (sym (kept tasks l.task))

    forks : IsSplit Verb.Fork → IsOpen Verb.Fork
    forks split =
        let n = length (l.task ∷ tasks.parents) in
        let many : length tasks.names ≡ n = omega (arith, parents_many above) in
        let found : pid_in names name ≡ Some (record { 0 = n }) =
        next_pid names tasks.names name rest split table ∙ ap (λ (k : ℕ). Some (record { 0 = k })) many in
        let new = all_below tasks.awaited tasks.parents l.task n (omega arith) in
        let unawaited : tasks.awaited n ≡ false = no_waits tasks n (omega (arith, many)) above waits in
        let test : ((l.task == l.task) && not (tasks.awaited n || false)) ≡ true =
        and_from (l.task == l.task) (not (tasks.awaited n || false)) (eq-eqb l.task l.task refl) (ap (λ t. not (t || false)) unawaited) in
        ap (with_open (open_in tasks l.task)) found
        ∙ (ap (λ (t : Bool). if t then None else Some (n ∷ open_in tasks l.task)) new
        ∙ (ap (λ (o : List ℕ). Some (n ∷ o)) (sym (kept tasks l.task))
        ∙ sym (ap (λ (t : Bool). Some (if t then n ∷ children (after Verb.Fork).awaited tasks.parents l.task
        else children (after Verb.Fork).awaited tasks.parents l.task)) test)))

    closes : verb_in l ≡ Some Verb.Wait → IsSplit Verb.Wait → IsOpen Verb.Wait
    closes is split =
        let c = place_of tasks.names name in
        let has = child_has_name above l.task name (latest is) in
        let known : has_name names name ≡ true = ap (λ ns. has_name ns name) split ∙ has_before tasks.names rest name has in
        let place : place_of names name ≡ c =
        ap (λ ns. place_of ns name) split ∙ place_kept tasks.names rest name (ltb-true c (length tasks.names) has) in
        let found : pid_in names name ≡ Some (record { 0 = c }) =
        λ i. if known i then Some (record { 0 = place i }) else None in
        let own = own_left tasks.awaited (after Verb.Wait).awaited c tasks.parents l.task (λ n low. refl) (latest is) in
        (λ i. without_open (own i) (found i))
        ∙ ap (λ (t : Bool). if t then Some (open_in (after Verb.Wait) l.task) else None) (eq-eqb c c refl)

    own_by : (verb : Verb) → verb_in l ≡ Some verb → IsSplit verb → IsOpen verb
    own_by Verb.Wait is split = closes is split
    own_by Verb.Fork is split = forks split
    own_by verb is split = keeps

    own_open : names ≡ tasks.names ++ (forked_name (change_of l) ++ rest)
        → open_after names (open_in tasks l.task) (change_of l) ≡ Some (open_in (behind_line above l) l.task)
    own_open split =
        subst (λ v. open_after names (open_in tasks l.task) (change_by v l) ≡ Some (open_in (table_after tasks l.task (change_by v l)) l.task))
        (sym (good_verb above l good))
        (own_by good.verb (good_verb above l good)
        (subst (λ v. names ≡ tasks.names ++ (forked_name (change_by v l) ++ rest)) (good_verb above l good) split))

module _ (lines : List ScriptLine) (table : IsNameTable (task_names lines)) (p : ℕ) where
  abbrev s : Scripted
  s = scripted lines

  line_known : (above ls : List ScriptLine) (l : ScriptLine) → above ++ l ∷ ls ≡ lines → IsGoodLine above l → is_known s.labels s.names l ≡ true
  line_known above ls l whole good =
      subst (λ (all : List ScriptLine). is_known (table_of all) (task_names all) l ≡ true) whole
      (good_line_does above l ls good)

  split_names : (above ls : List ScriptLine) (l : ScriptLine) → above ++ l ∷ ls ≡ lines
      → (rest : List (List ℕ)) × (task_names lines ≡ task_names above ++ (forked_name (change_of l) ++ rest))
  split_names above ls l whole =
      let more = names_behind (above ++ l ∷ []) ls in (
        more.0,
        ap task_names (sym (append_assoc above (l ∷ []) ls ∙ whole))
            ∙ (more.1 ∙ (ap (λ ns. ns ++ more.0) (names_more above l) ∙ append_assoc (task_names above) (forked_name (change_of l)) more.0)),
      )

  lines_behind : (above ls : List ScriptLine) → above ++ ls ≡ lines → AreGoodLines above ls
      → AllByRecursion (λ k. IsWaitThere (tasks_of above) (change_of k)) above
      → IsOrderlyBehind s (Some (open_in (tasks_of above) p)) (lines_by p ls)
  lines_behind above [] whole good waits = tt
  lines_behind above (l ∷ ls) whole good waits =
      by (l.task == p) refl
      (subst (λ (ts : Tasks). IsOrderlyBehind s (Some (open_in ts p)) (lines_by p ls)) (tasks_more above l waits)
      (lines_behind (above ++ l ∷ []) ls (append_assoc above (l ∷ []) ls ∙ whole) good.1 (waits_more above l waits (wait_there above l good.0))))
    where
      by : (own : Bool) → (l.task == p) ≡ own → IsOrderlyBehind s (Some (open_in (behind_line above l) p)) (lines_by p ls)
          → IsOrderlyBehind s (Some (open_in (tasks_of above) p)) (if own then l ∷ lines_by p ls else lines_by p ls)
      by true e next =
          let split = split_names above ls l whole in
          let opens = subst (λ (k : ℕ). open_after s.names (open_in (tasks_of above) k) (change_of l) ≡ Some (open_in (behind_line above l) k)) (eqb-true l.task p e)
          (own_open above l good.0 s.names split.0 table waits split.1) in
          (line_known above ls l whole good.0, subst (λ o. IsOrderlyBehind s o (lines_by p ls)) (sym opens) next)
      by false e next = subst (λ (o : List ℕ). IsOrderlyBehind s (Some o) (lines_by p ls)) (other_open above l good.0 p e) next

pub scripts_are_orderly : ScriptsAreOrderly
scripts_are_orderly bytes lines is pid =
    lines_behind lines (names_are_a_table bytes lines is) pid [] lines refl (good_lines bytes lines is) tt
