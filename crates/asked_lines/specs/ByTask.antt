use Rattle.std.specs.Prelude.{◌≡◌, ◌+◌, ℕ, List, [], ◌∷◌}
use Rattle.std.specs.List.{flat_map, AllByRecursion}
use Rattle.record_spec.specs.declared.AskedLine.{AskedLine}

-- there are at least so many lists: one for each task that a run can have, and one more
abbrev pub list_count : ℕ
list_count = 65

-- the lines of all lists, one list after another
abbrev pub all_lines : List (List AskedLine) → List AskedLine
all_lines lists = flat_map (λ l. l) lists

-- each list has lines of one task alone, the first of them of this task
abbrev pub AreByTask : ℕ → List (List AskedLine) → Type 0
AreByTask task [] = Unit {0}
AreByTask task (l ∷ ls) = AllByRecursion (λ a. a.task ≡ task) l × AreByTask (task + 1) ls
