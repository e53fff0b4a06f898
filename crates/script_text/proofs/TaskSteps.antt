use Rattle.std.proofs.Common.{◌≡◌, ◌≤◌, ◌<◌, ◌+◌, ℕ, Bool, true, false, cond, not, ◌&&◌, ◌||◌, if◌then◌else◌, nat_eq, List, [], ◌∷◌, ◌++◌, length, length-append, set, zero, suc, add-zero, refl, sym, ap, ◌∙◌, subst, arith, inl, inr}
use Rattle.std.specs.Prelude.{map, reverse, ◌==◌, codes}
use Rattle.std.specs.List.{flat_map, filter, list_any, sum_by, AllByRecursion}
use Rattle.std.specs.Str.{bytes_eq}
use Rattle.std.proofs.lemmas.Bool.{cases_Bool, eqb-true, eqb-false}
use Rattle.std.proofs.lemmas.List.{append-nil, map-append, reverse-append, get_or-set_other, length-map, length-set}
use Rattle.std.proofs.lemmas.List.Folds.{list_any-append}
use Rattle.std.proofs.lemmas.List.Elements.{filter-append}
use Rattle.std.proofs.lemmas.List.Sums.{sum_by-append}
use Rattle.std.proofs.lemmas.Grind.{flat_map-append, get_or-set_at}
use Rattle.text_spec.specs.Names.{place_of}
use Rattle.script_spec.specs.Lines.{ScriptLine}
use Rattle.script_spec.specs.Tasks.{Tasks, TaskChange, Forks, Exits, Awaits, Keeps, change_of, forked_name, task_names, tasks_of, is_exit, is_fork, is_wait_for, parents_in}
use Rattle.script_spec.specs.Grammar.{most_script_tasks}
use Rattle.rule_text.specs.declared.part.Part.{Part}
use Rattle.script_text.specs.declared.tasks.TaskTable.{TaskTable}
use Rattle.script_text.specs.TaskTables.{tasks_seen, table_after, flag_in, count_in, part_names, IsWaitThere, IsTable, IsFirst, IsTaskForked, IsFlagged, IsTaskAwaited, IsCounted, IsTasksAfter}

-- equal answers say the same of tasks
says : (a b : Tasks) → a.names ≡ b.names → a.parents ≡ b.parents → ((t : ℕ) → a.exited t ≡ b.exited t)
    → ((t : ℕ) → a.awaited t ≡ b.awaited t) → ((t : ℕ) → a.calls t ≡ b.calls t) → a ≡ b
says a b n p e w c = λ i. record { names = n i; parents = p i; exited = λ t. e t i; awaited = λ t. w t i; calls = λ t. c t i }

or_false : (b : Bool) → (b || false) ≡ b
or_false true = refl
or_false false = refl

place_step : (here : Bool) (p q len : ℕ) → (q < len → p ≡ q) → cond (not here) (1 + q) 0 < suc len
    → cond (not here) (1 + p) 0 ≡ cond (not here) (1 + q) 0
place_step true p q len same there = refl
place_step false p q len same there = ap (λ (k : ℕ). 1 + k) (same (omega (arith, there)))

-- what a name's place is where more names follow
place_kept : (names more : List (List ℕ)) (name : List ℕ) → place_of names name < length names → place_of (names ++ more) name ≡ place_of names name
place_kept [] more name there = absurd (omega (arith, there))
place_kept (n ∷ ns) more name there =
    place_step (bytes_eq n name) (place_of (ns ++ more) name) (place_of ns name) (length ns) (place_kept ns more name) there

-- a task that is there stays there
wait_kept : (tasks : Tasks) (task : ℕ) (c change : TaskChange) → IsWaitThere tasks c → IsWaitThere (table_after tasks task change) c
wait_kept tasks task (Forks name) change there = tt
wait_kept tasks task Exits change there = tt
wait_kept tasks task (Awaits name) change there =
    rw (place_kept tasks.names (forked_name change) name there)
    (omega (arith, there, length-append tasks.names (forked_name change)))
wait_kept tasks task Keeps change there = tt

waits_kept : (tasks : Tasks) (task : ℕ) (change : TaskChange) (ls : List ScriptLine) → AllByRecursion (λ l. IsWaitThere tasks (change_of l)) ls
    → AllByRecursion (λ l. IsWaitThere (table_after tasks task change) (change_of l)) ls
waits_kept tasks task change [] are = tt
waits_kept tasks task change (l ∷ ls) are = (wait_kept tasks task (change_of l) change are.0, waits_kept tasks task change ls are.1)

all_more : {X : Type 0} (P : X → Type 0) (xs : List X) (x : X) → AllByRecursion P xs → P x → AllByRecursion P (xs ++ x ∷ [])
all_more P [] x are is = (is, tt)
all_more P (y ∷ ys) x are is = (are.0, all_more P ys x are.1 is)

-- which task a wait names is the same behind one more call
wait_same : (names : List (List ℕ)) (tasks : Tasks) (t : ℕ) (c change : TaskChange) → tasks.names ≡ names → IsWaitThere tasks c
    → is_wait_for (names ++ forked_name change) t c ≡ is_wait_for names t c
wait_same names tasks t (Forks name) change same there = refl
wait_same names tasks t Exits change same there = refl
wait_same names tasks t (Awaits name) change same there =
    ap (λ (p : ℕ). p == t) (place_kept names (forked_name change) name (rw same at there))
wait_same names tasks t Keeps change same there = refl

waits_same : (tasks : Tasks) (t : ℕ) (change : TaskChange) (ls : List ScriptLine) → AllByRecursion (λ l. IsWaitThere tasks (change_of l)) ls
    → list_any (λ l. is_wait_for (tasks.names ++ forked_name change) t (change_of l)) ls
    ≡ list_any (λ l. is_wait_for tasks.names t (change_of l)) ls
waits_same tasks t change [] are = refl
waits_same tasks t change (l ∷ ls) are =
    λ i. wait_same tasks.names tasks t (change_of l) change refl (are.0) i || waits_same tasks t change ls (are.1) i

own_wait : (names : List (List ℕ)) (t : ℕ) (c : TaskChange) → is_wait_for (names ++ forked_name c) t c ≡ is_wait_for names t c
own_wait names t (Forks name) = refl
own_wait names t Exits = refl
own_wait names t (Awaits name) = ap (λ (ns : List (List ℕ)). place_of ns name == t) (append-nil names)
own_wait names t Keeps = refl

parent_more : (b : Bool) (l : ScriptLine) (ps : List ℕ) → reverse (map (λ (k : ScriptLine). k.task) (cond b (l ∷ []) [])) ++ ps ≡ (if b then l.task ∷ ps else ps)
parent_more true l ps = refl
parent_more false l ps = refl

-- what calls say of tasks, behind one more
pub tasks_more : (above : List ScriptLine) (l : ScriptLine) → AllByRecursion (λ k. IsWaitThere (tasks_of above) (change_of k)) above
    → tasks_of (above ++ l ∷ []) ≡ table_after (tasks_of above) l.task (change_of l)
tasks_more above l waits =
    let forks : ScriptLine → List (List ℕ) = λ k. forked_name (change_of k) in
    let fork : ScriptLine → Bool = λ k. is_fork (change_of k) in
    let task : ScriptLine → ℕ = λ k. k.task in
    let names : task_names (above ++ l ∷ []) ≡ task_names above ++ forked_name (change_of l) =
    ap (λ (ns : List (List ℕ)). codes "init" ∷ ns)
    (flat_map-append forks above (l ∷ []) ∙ ap (λ (ns : List (List ℕ)). flat_map forks above ++ ns) (append-nil (forks l))) in
    says (tasks_of (above ++ l ∷ [])) (table_after (tasks_of above) l.task (change_of l)) names
    (ap (λ (ls : List ScriptLine). reverse (map task ls)) (filter-append fork above (l ∷ []))
    ∙ ap (λ (ps : List ℕ). reverse ps) (map-append task (filter fork above) (filter fork (l ∷ [])))
    ∙ reverse-append (map task (filter fork above)) (map task (filter fork (l ∷ []))) ∙ parent_more (fork l) l (parents_in above))
    (λ t. let p : ScriptLine → Bool = λ k. is_exit (change_of k) && (k.task == t) in
    list_any-append p above (l ∷ []) ∙ ap (λ (b : Bool). list_any p above || b) (or_false (p l)))
    (λ t. let q : List (List ℕ) → ScriptLine → Bool = λ ns k. is_wait_for ns t (change_of k) in
    ap (λ (ns : List (List ℕ)). list_any (q ns) (above ++ l ∷ [])) names
    ∙ list_any-append (q (task_names above ++ forked_name (change_of l))) above (l ∷ [])
    ∙ (λ i. waits_same (tasks_of above) t (change_of l) above waits i || (or_false (q (task_names above ++ forked_name (change_of l)) l) ∙ own_wait (task_names above) t (change_of l)) i))
    (λ t. let one : ScriptLine → ℕ = λ k. cond (k.task == t) 1 0 in
    let last : sum_by one above + (0 + one l) ≡ sum_by one above + one l = omega arith in
    sum_by-append one above (l ∷ []) ∙ last)

-- each task that is waited for is there, behind one more call
pub waits_more : (above : List ScriptLine) (l : ScriptLine) → AllByRecursion (λ k. IsWaitThere (tasks_of above) (change_of k)) above
    → IsWaitThere (tasks_of above) (change_of l) → AllByRecursion (λ k. IsWaitThere (tasks_of (above ++ l ∷ [])) (change_of k)) (above ++ l ∷ [])
waits_more above l waits there =
    let after = table_after (tasks_of above) l.task (change_of l) in
    let all : AllByRecursion (λ k. IsWaitThere after (change_of k)) (above ++ l ∷ []) =
    all_more (λ (k : ScriptLine). IsWaitThere after (change_of k)) above l (waits_kept (tasks_of above) l.task (change_of l) above waits)
    (wait_kept (tasks_of above) l.task (change_of l) (change_of l) there) in
    subst (λ (ts : Tasks). AllByRecursion (λ k. IsWaitThere ts (change_of k)) (above ++ l ∷ [])) (sym (tasks_more above l waits)) all

or_true : (b : Bool) → (b || true) ≡ true
or_true true = refl
or_true false = refl

-- a count or a flag that is set
count_set : (xs : List ℕ) (task t : ℕ) → task < length xs
    → count_in (set xs task (count_in xs task + 1)) t ≡ count_in xs t + (if task == t then 1 else 0)
count_set xs task t there =
    elim (cases_Bool (nat_eq task t)) [
      | inl e ↦ let same : t ≡ task = sym (eqb-true task t e) in
          rw e (get_or-set_at xs task t (count_in xs task + 1) 0 same there ∙ ap (λ (k : ℕ). count_in xs k + 1) (sym same))
      | inr e ↦ rw e
          (get_or-set_other xs task t (count_in xs task + 1) 0 (λ s. eqb-false task t e (sym s)) ∙ sym (add-zero (count_in xs t)))
    ]

flag_set : (xs : List Bool) (task t : ℕ) → task < length xs → flag_in (set xs task true) t ≡ (flag_in xs t || (task == t))
flag_set xs task t there =
    elim (cases_Bool (nat_eq task t)) [
      | inl e ↦ rw e (get_or-set_at xs task t true false (sym (eqb-true task t e)) there ∙ sym (or_true (flag_in xs t)))
      | inr e ↦ rw e (get_or-set_other xs task t true false (λ s. eqb-false task t e (sym s)) ∙ sym (or_false (flag_in xs t)))
    ]

-- a new task has no flag and no call
flag_more : (xs : List Bool) (t : ℕ) → flag_in (xs ++ false ∷ []) t ≡ flag_in xs t
flag_more [] zero = refl
flag_more [] (suc t) = refl
flag_more (x ∷ xs) zero = refl
flag_more (x ∷ xs) (suc t) = flag_more xs t

count_more : (xs : List ℕ) (t : ℕ) → count_in (xs ++ 0 ∷ []) t ≡ count_in xs t
count_more [] zero = refl
count_more [] (suc t) = refl
count_more (x ∷ xs) zero = refl
count_more (x ∷ xs) (suc t) = count_more xs t

-- a table whose lists are those of another, but for the number of calls of a task
counted_calls : (task : ℕ) (old mid : TaskTable) (t : ℕ) → IsTable old → task < length old.names.items → IsCounted task old mid
    → count_in mid.calls.items t ≡ count_in old.calls.items t + (if task == t then 1 else 0)
counted_calls task old mid t table there counted =
    ap (λ (xs : List ℕ). count_in xs t) counted.calls ∙ count_set old.calls.items task t (omega (arith, table.calls, there))

counted_table : (task : ℕ) (old mid : TaskTable) → IsTable old → IsCounted task old mid → IsTable mid
counted_table task old mid table counted = record {
  few = rw counted.names table.few;
  parents = rw (counted.names, counted.parents) table.parents;
  exited = rw (counted.names, counted.exited) table.exited;
  awaited = rw (counted.names, counted.awaited) table.awaited;
  calls = rw (counted.names, counted.calls) (length-set old.calls.items task (count_in old.calls.items task + 1) ∙ table.calls);
}

-- a call that leaves the tasks as they are
pub nothing_after : (task : ℕ) (old mid : TaskTable) → IsTable old → task < length old.names.items → IsCounted task old mid
    → IsTasksAfter task Keeps old mid
nothing_after task old mid table there counted = record {
  says =
      says (tasks_seen mid) (table_after (tasks_seen old) task Keeps)
      (rw counted.names (sym (append-nil (part_names old.names.items))))
      (ap reverse counted.parents)
      (λ t. rw counted.exited (sym (or_false (flag_in old.exited.items t))))
      (λ t. rw counted.awaited (sym (or_false (flag_in old.awaited.items t))))
      (λ t. counted_calls task old mid t table there counted);
  table = counted_table task old mid table counted;
}

-- the exit of a task
pub exit_after : (task : ℕ) (old mid new : TaskTable) → IsTable old → task < length old.names.items → IsCounted task old mid
    → IsFlagged task mid new → IsTasksAfter task Exits old new
exit_after task old mid new table there counted flagged =
    let kept = counted_table task old mid table counted in
    let flags : new.exited.items ≡ set old.exited.items task true =
    flagged.exited ∙ ap (λ (xs : List Bool). set xs task true) counted.exited in
    record {
      says =
          says (tasks_seen new) (table_after (tasks_seen old) task Exits)
          (ap part_names (flagged.names ∙ counted.names) ∙ sym (append-nil (part_names old.names.items)))
          (ap reverse (flagged.parents ∙ counted.parents))
          (λ t. ap (λ (xs : List Bool). flag_in xs t) flags ∙ flag_set old.exited.items task t (omega (arith, table.exited, there)))
          (λ t. ap (λ (xs : List Bool). flag_in xs t) (flagged.awaited ∙ counted.awaited) ∙ sym (or_false (flag_in old.awaited.items t)))
          (λ t. ap (λ (xs : List ℕ). count_in xs t) flagged.calls ∙ counted_calls task old mid t table there counted);
      table = record {
        few = rw flagged.names kept.few;
        parents = rw (flagged.names, flagged.parents) kept.parents;
        exited = rw (flagged.names, flagged.exited) (length-set mid.exited.items task true ∙ kept.exited);
        awaited = rw (flagged.names, flagged.awaited) kept.awaited;
        calls = rw (flagged.names, flagged.calls) kept.calls;
      };
    }

-- a wait for a task
pub wait_after : (task child : ℕ) (name : List ℕ) (old mid new : TaskTable) → IsTable old → task < length old.names.items
    → IsCounted task old mid → child ≡ place_of (part_names mid.names.items) name → place_of (part_names old.names.items) name < length (part_names old.names.items)
    → IsTaskAwaited child mid new → IsTasksAfter task (Awaits name) old new
wait_after task child name old mid new table there counted is child_there awaited =
    let kept = counted_table task old mid table counted in
    let same : child ≡ place_of (part_names old.names.items) name =
    is ∙ ap (λ (ns : List Part). place_of (part_names ns) name) counted.names in
    let within : child < length old.awaited.items =
    omega (arith, same, child_there, length-map old.names.items (λ (p : Part). p.bytes.now), table.awaited) in
    let flags : new.awaited.items ≡ set old.awaited.items child true =
    awaited.awaited ∙ ap (λ (xs : List Bool). set xs child true) counted.awaited in
    record {
      says =
          says (tasks_seen new) (table_after (tasks_seen old) task (Awaits name))
          (ap part_names (awaited.names ∙ counted.names) ∙ sym (append-nil (part_names old.names.items)))
          (ap reverse (awaited.parents ∙ counted.parents))
          (λ t. ap (λ (xs : List Bool). flag_in xs t) (awaited.exited ∙ counted.exited) ∙ sym (or_false (flag_in old.exited.items t)))
          (λ t. ap (λ (xs : List Bool). flag_in xs t) flags ∙ flag_set old.awaited.items child t within
          ∙ ap (λ (c : ℕ). flag_in old.awaited.items t || (c == t)) same)
          (λ t. ap (λ (xs : List ℕ). count_in xs t) awaited.calls ∙ counted_calls task old mid t table there counted);
      table = record {
        few = rw awaited.names kept.few;
        parents = rw (awaited.names, awaited.parents) kept.parents;
        exited = rw (awaited.names, awaited.exited) kept.exited;
        awaited = rw (awaited.names, awaited.awaited) (length-set mid.awaited.items child true ∙ kept.awaited);
        calls = rw (awaited.names, awaited.calls) kept.calls;
      };
    }

-- a new task
pub fork_after : (task : ℕ) (name : List ℕ) (old mid new : TaskTable) → IsTable old → task < length old.names.items
    → length (part_names old.names.items) + 1 ≤ most_script_tasks → IsCounted task old mid → IsTaskForked task name mid new → IsTasksAfter task (Forks name) old new
fork_after task name old mid new table there room counted forked =
    let kept = counted_table task old mid table counted in
    let names : part_names new.names.items ≡ part_names old.names.items ++ name ∷ [] =
    forked.names ∙ ap (λ (ns : List Part). part_names ns ++ name ∷ []) counted.names in
    let long : length new.names.items ≡ length old.names.items + 1 =
    omega (
      arith,
      ap (λ (ns : List (List ℕ)). length ns) names,
      length-map new.names.items (λ (p : Part). p.bytes.now),
      length-map old.names.items (λ (p : Part). p.bytes.now),
      length-append (part_names old.names.items) (name ∷ []),
    ) in
    let same : length mid.names.items ≡ length old.names.items = ap (λ (ns : List Part). length ns) counted.names in
    record {
      says =
          says (tasks_seen new) (table_after (tasks_seen old) task (Forks name)) names
          (ap reverse forked.parents ∙ reverse-append mid.parents.items (task ∷ []) ∙ ap (λ (ps : List ℕ). task ∷ reverse ps) counted.parents)
          (λ t. ap (λ (xs : List Bool). flag_in xs t) forked.exited ∙ flag_more mid.exited.items t
          ∙ ap (λ (xs : List Bool). flag_in xs t) counted.exited ∙ sym (or_false (flag_in old.exited.items t)))
          (λ t. ap (λ (xs : List Bool). flag_in xs t) forked.awaited ∙ flag_more mid.awaited.items t
          ∙ ap (λ (xs : List Bool). flag_in xs t) counted.awaited ∙ sym (or_false (flag_in old.awaited.items t)))
          (λ t. ap (λ (xs : List ℕ). count_in xs t) forked.calls ∙ count_more mid.calls.items t ∙ counted_calls task old mid t table there counted);
      table = record {
        few = omega (arith, long, room, length-map old.names.items (λ (p : Part). p.bytes.now));
        parents = omega (arith, long, same, kept.parents, ap (λ (xs : List ℕ). length xs) forked.parents, length-append mid.parents.items (task ∷ []));
        exited = omega (arith, long, same, kept.exited, ap (λ (xs : List Bool). length xs) forked.exited, length-append mid.exited.items (false ∷ []));
        awaited = omega (arith, long, same, kept.awaited, ap (λ (xs : List Bool). length xs) forked.awaited, length-append mid.awaited.items (false ∷ []));
        calls = omega (arith, long, same, kept.calls, ap (λ (xs : List ℕ). length xs) forked.calls, length-append mid.calls.items (0 ∷ []));
      };
    }

-- the first task alone is what no calls say
pub tasks_first : (t : TaskTable) → IsFirst t → tasks_seen t ≡ tasks_of []
tasks_first t first =
    says (tasks_seen t) (tasks_of []) first.names (ap reverse first.parents)
    (λ k. ap (λ (xs : List Bool). flag_in xs k) first.exited ∙ flag_more [] k)
    (λ k. ap (λ (xs : List Bool). flag_in xs k) first.awaited ∙ flag_more [] k)
    (λ k. ap (λ (xs : List ℕ). count_in xs k) first.calls ∙ count_more [] k)

pub table_first : (t : TaskTable) → IsFirst t → IsTable t
table_first t first =
    let one : length t.names.items ≡ 1 = sym (length-map t.names.items (λ (p : Part). p.bytes.now)) ∙ ap (λ (ns : List (List ℕ)). length ns) first.names in
    record {
      few = omega (arith, one);
      parents = omega (arith, one, ap (λ (xs : List ℕ). length xs) first.parents);
      exited = ap (λ (xs : List Bool). length xs) first.exited ∙ sym one;
      awaited = ap (λ (xs : List Bool). length xs) first.awaited ∙ sym one;
      calls = ap (λ (xs : List ℕ). length xs) first.calls ∙ sym one;
    }
