use Rattle.std.proofs.Common.{◌≡◌, ◌≤◌, ◌<◌, ℕ, ◌+◌, Bool, true, false, ◌&&◌, ◌||◌, ◌==◌, not, if◌then◌else◌, List, [], ◌∷◌, length, refl, sym, ap, ◌∙◌, arith, Option, Some, None}
use Rattle.std.specs.List.{list_any}
use Rattle.std.proofs.lemmas.Bool.{eqb-true, eqb-false, eq-eqb, ne_eqb, and_parts}
use Rattle.script_spec.specs.Tasks.{lineage, latest_child, is_pid}

-- the task that made a task, by the parents of the youngest task and of all older ones
abbrev pub parent_of : List ℕ → ℕ → Option ℕ
parent_of [] task = None
parent_of (parent ∷ older) task = if task == length (parent ∷ older) then Some parent else parent_of older task

-- each parent is older than its child
abbrev pub AreOlder : List ℕ → Type 0
AreOlder [] = Unit {0}
AreOlder (parent ∷ older) = (parent ≤ length older) × AreOlder older

same_number : (a b : ℕ) → ◌≡◌ {A = Option ℕ} (Some a) (Some b) → a ≡ b
same_number a b is = cc

-- a parent is younger than nobody: it is below its child, which is one of the tasks
pub parent_within : (parents : List ℕ) (task parent : ℕ) → AreOlder parents → parent_of parents task ≡ Some parent
    → (1 ≤ task) × (task ≤ length parents) × (parent < task)
parent_within [] task parent older is = cc
parent_within (p ∷ ps) task parent older is =
    by (task == length (p ∷ ps)) refl (parent_within ps task parent older.1) is
  where
    by : (here : Bool) → (task == length (p ∷ ps)) ≡ here
        → (parent_of ps task ≡ Some parent → (1 ≤ task) × (task ≤ length ps) × (parent < task))
        → (if here then Some p else parent_of ps task) ≡ Some parent → (1 ≤ task) × (task ≤ length (p ∷ ps)) × (parent < task)
    by true here rest is =
        let at : task ≡ length (p ∷ ps) = eqb-true task (length (p ∷ ps)) here in
        let same : p ≡ parent = same_number p parent is in
        (omega (arith, at), omega (arith, at), omega (arith, at, same, older.0))
    by false here rest is = let r = rest is in (r.0, omega (arith, r.1), r.2)

pub parent_below : (parents : List ℕ) (task parent : ℕ) → parent_of parents task ≡ Some parent → task ≤ length parents
parent_below [] task parent is = cc
parent_below (p ∷ ps) task parent is = by (task == length (p ∷ ps)) refl (parent_below ps task parent) is
  where
    by : (here : Bool) → (task == length (p ∷ ps)) ≡ here → (parent_of ps task ≡ Some parent → task ≤ length ps)
        → (if here then Some p else parent_of ps task) ≡ Some parent → task ≤ length (p ∷ ps)
    by true here rest is = omega (arith, eqb-true task (length (p ∷ ps)) here)
    by false here rest is = omega (arith, rest is)

-- each task but the first has a parent
pub parent_there : (parents : List ℕ) (task : ℕ) → 1 ≤ task → task ≤ length parents → (parent : ℕ) × (parent_of parents task ≡ Some parent)
parent_there [] task from to = absurd (omega (arith, from, to))
parent_there (p ∷ ps) task from to =
    by (task == length (p ∷ ps)) refl (parent_there ps task from)
  where
    by : (here : Bool) → (task == length (p ∷ ps)) ≡ here → (task ≤ length ps → (parent : ℕ) × (parent_of ps task ≡ Some parent))
        → (parent : ℕ) × ((if here then Some p else parent_of ps task) ≡ Some parent)
    by true here rest = (p, refl)
    by false here rest = rest (omega (arith, to, eqb-false task (length (p ∷ ps)) here))

-- a younger task changes nothing for the older ones
pub parent_kept : (p : ℕ) (parents : List ℕ) (task : ℕ) → task ≤ length parents → parent_of (p ∷ parents) task ≡ parent_of parents task
parent_kept p parents task older =
    ap (λ b. if b then Some p else parent_of parents task) (ne_eqb task (length (p ∷ parents)) (λ same. omega (arith, same, older)))

pub lineage_kept : (p : ℕ) (parents : List ℕ) (task : ℕ) → task ≤ length parents → lineage (p ∷ parents) task ≡ lineage parents task
lineage_kept p parents task older =
    ap (λ b. if b then task ∷ lineage parents p else lineage parents task) (ne_eqb task (length (p ∷ parents)) (λ same. omega (arith, same, older)))

pub newest_parent : (p : ℕ) (parents : List ℕ) → parent_of (p ∷ parents) (length parents + 1) ≡ Some p
newest_parent p parents =
    ap (λ b. if b then Some p else parent_of parents (length parents + 1)) (eq-eqb (length parents + 1) (length (p ∷ parents)) (omega arith))

or_true : (a b : Bool) → b ≡ true → (a || b) ≡ true
or_true true b is = refl
or_true false b is = is

-- what passes for a task passes for its lineage
pub lineage_own : (test : ℕ → Bool) (parents : List ℕ) (task : ℕ) → test task ≡ true → list_any test (lineage parents task) ≡ true
lineage_own test [] task is = rw is refl
lineage_own test (p ∷ ps) task is = by (task == length (p ∷ ps)) (lineage_own test ps task is)
  where
    by : (here : Bool) → list_any test (lineage ps task) ≡ true
        → list_any test (if here then task ∷ lineage ps p else lineage ps task) ≡ true
    by true rest = rw is refl
    by false rest = rest

-- and what passes for the lineage of a parent passes for that of its child
pub lineage_child : (test : ℕ → Bool) (parents : List ℕ) (task parent : ℕ) → AreOlder parents → parent_of parents task ≡ Some parent
    → list_any test (lineage parents parent) ≡ true → list_any test (lineage parents task) ≡ true
lineage_child test [] task parent older is passes = cc
lineage_child test (p ∷ ps) task parent older is passes =
    by (task == length (p ∷ ps)) refl (lineage_child test ps task parent older.1) is
  where
    by : (here : Bool) → (task == length (p ∷ ps)) ≡ here
        → (parent_of ps task ≡ Some parent → list_any test (lineage ps parent) ≡ true → list_any test (lineage ps task) ≡ true)
        → (if here then Some p else parent_of ps task) ≡ Some parent
        → list_any test (if here then task ∷ lineage ps p else lineage ps task) ≡ true
    by true here rest is =
        let same : p ≡ parent = same_number p parent is in
        let kept = lineage_kept p ps parent (omega (arith, same, older.0)) in
        or_true (test task) (list_any test (lineage ps p)) (ap (λ k. list_any test (lineage ps k)) same ∙ ap (list_any test) (sym kept) ∙ passes)
    by false here rest is =
        let within = parent_within ps task parent older.1 is in
        let kept = lineage_kept p ps parent (omega (arith, within.1, within.2)) in
        rest is (ap (list_any test) (sym kept) ∙ passes)

-- the latest child of a task is its child, and was not waited for
pub latest_is_child : (awaited : ℕ → Bool) (parents : List ℕ) (task pid : ℕ) → is_pid (latest_child awaited parents task) pid ≡ true
    → parent_of parents pid ≡ Some task
latest_is_child awaited [] task pid is = cc
latest_is_child awaited (p ∷ ps) task pid is =
    by ((p == task) && not (awaited (length (p ∷ ps)))) refl (latest_is_child awaited ps task pid) is
  where
    by : (here : Bool) → ((p == task) && not (awaited (length (p ∷ ps)))) ≡ here
        → (is_pid (latest_child awaited ps task) pid ≡ true → parent_of ps pid ≡ Some task)
        → is_pid (if here then Some (length (p ∷ ps)) else latest_child awaited ps task) pid ≡ true
        → parent_of (p ∷ ps) pid ≡ Some task
    by true here rest is =
        let own : p ≡ task = eqb-true p task (and_parts (p == task) (not (awaited (length (p ∷ ps)))) here).0 in
        let at : length (p ∷ ps) ≡ pid = eqb-true (length (p ∷ ps)) pid is in
        ap (λ b. if b then Some p else parent_of ps pid) (eq-eqb pid (length (p ∷ ps)) (sym at)) ∙ ap (λ k. Some k) own
    by false here rest is = let found = rest is in parent_kept p ps pid (parent_below ps pid task found) ∙ found
