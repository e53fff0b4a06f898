use Rattle.std.proofs.Common.{◌≡◌, ◌<◌, ℕ, zero, suc, Bool, true, false, if◌then◌else◌, List, [], ◌∷◌, length, take, drop, Option, Some, None}
use Rattle.std.specs.Prelude.{find, fold}
use Rattle.std.specs.List.{AllByRecursion, position_or_len}
use Rattle.std.specs.Option.{option_map, IfSome}
use Rattle.std.specs.BTreeSet.{insert_key}
use Rattle.std.specs.Ordering.{nat_cmp}
use Rattle.std.specs.Cmp.Lexicographic.{slice_cmp}
use Rattle.std.proofs.lemmas.List.Elements.{All-from_recursion, recursion_from_All}
use Rattle.std.proofs.lemmas.Map.Views.{All-insert_key}
use Rattle.world_spec.specs.declared.FileRow.{FileRow}
use Rattle.world_spec.specs.Worlds.{World, TaskRow, world_first, creds_in, creds_or_first, creds_of, changed_at, is_named, label_of, with_file, without_file, file_names, in_byte_order}
use Rattle.world_spec.specs.TaskCalls.{TaskEffect, NoChange, NewCreds, LifeEnds, NewChild, NewSignal, SignalTaken, signalled, tasks_after}
use Rattle.world_spec.specs.TreeCalls.{most_names}
use Rattle.log_spec.specs.Audits.{is_word}
use Rattle.replay_spec.specs.Plain.{HasId}
use Rattle.plain_laws.proofs.Lists.{all_append, all_take, all_drop, all_map}
use Rattle.plain_laws.proofs.PathWords.{AreWords}

-- a task whose label is known
abbrev pub IsPlainTask : List (List ℕ) → TaskRow → Type 0
IsPlainTask table r = HasId table r.creds.label

-- a file whose name is a word and whose label is known
pub record IsPlainFile (table : List (List ℕ)) (f : FileRow) : Type 0 where
  pub name : is_word f.name ≡ true
  pub label : HasId table f.label

-- a world whose labels are known and whose files are plain
pub record IsPlainWorld (table : List (List ℕ)) (w : World) : Type 0 where
  pub tasks : AllByRecursion (IsPlainTask table) w.tasks
  pub root : HasId table w.root
  pub files : AllByRecursion (IsPlainFile table) w.files

-- the first world is plain where the table has a label
pub first_world_is_plain : (table : List (List ℕ)) → 0 < length table → IsPlainWorld table world_first
first_world_is_plain table first = record { tasks = (first, tt); root = first; files = tt }

-- the label of a task is known, and that of none is the first
creds_are_known : (table : List (List ℕ)) → 0 < length table → (tasks : List TaskRow) (task : ℕ) → AllByRecursion (IsPlainTask table) tasks
    → HasId table (creds_or_first (creds_in tasks task)).label
creds_are_known table first [] task plain = first
creds_are_known table first (r ∷ rs) zero plain = plain.0
creds_are_known table first (r ∷ rs) (suc n) plain = creds_are_known table first rs n plain.1

pub task_label_is_known : (table : List (List ℕ)) → 0 < length table → (w : World) → IsPlainWorld table w → (task : ℕ)
    → HasId table (creds_of w task).label
task_label_is_known table first w plain task = creds_are_known table first w.tasks task plain.tasks

-- tasks stay plain where a change keeps each plain
pub changed_are_plain : (table : List (List ℕ)) (tasks : List TaskRow) (task : ℕ) (change : TaskRow → TaskRow) → AllByRecursion (IsPlainTask table) tasks
    → ((r : TaskRow) → IsPlainTask table r → IsPlainTask table (change r)) → AllByRecursion (IsPlainTask table) (changed_at tasks task change)
changed_are_plain table [] task change plain keeps = tt
changed_are_plain table (r ∷ rs) zero change plain keeps = (keeps r plain.0, plain.1)
changed_are_plain table (r ∷ rs) (suc n) change plain keeps = (plain.0, changed_are_plain table rs n change plain.1 keeps)

-- a change of the tasks to a known label
abbrev pub IsPlainChange : List (List ℕ) → TaskEffect → Type 0
IsPlainChange table (NewCreds creds) = HasId table creds.label
IsPlainChange table change = Unit {0}

pub signalled_is_plain : (table : List (List ℕ)) (n : Option ℕ) (sig : ℕ) → IsPlainChange table (signalled n sig)
signalled_is_plain table None sig = tt
signalled_is_plain table (Some n) sig = tt

-- it leaves plain tasks plain
pub tasks_after_are_plain : (table : List (List ℕ)) → 0 < length table → (tasks : List TaskRow) (task : ℕ) (change : TaskEffect)
    → AllByRecursion (IsPlainTask table) tasks → IsPlainChange table change → AllByRecursion (IsPlainTask table) (tasks_after tasks task change)
tasks_after_are_plain table first tasks task NoChange plain known = plain
tasks_after_are_plain table first tasks task (NewCreds creds) plain known = changed_are_plain table tasks task _ plain (λ r was. known)
tasks_after_are_plain table first tasks task LifeEnds plain known = changed_are_plain table tasks task _ plain (λ r was. was)
tasks_after_are_plain table first tasks task (NewChild pid) plain known =
    all_append (IsPlainTask table) tasks _ plain (creds_are_known table first tasks task plain, tt)
tasks_after_are_plain table first tasks task (NewSignal n sig) plain known = changed_are_plain table tasks n _ plain (λ r was. was)
tasks_after_are_plain table first tasks task SignalTaken plain known = changed_are_plain table tasks task _ plain (λ r was. was)

-- the label of a file is known
pub file_label_is_known : (table : List (List ℕ)) (files : List FileRow) (name : List ℕ) → AllByRecursion (IsPlainFile table) files
    → IfSome (label_of files name) (HasId table)
file_label_is_known table [] name plain = tt
file_label_is_known table (f ∷ fs) name plain = by (is_named name f) (file_label_is_known table fs name plain.1)
  where
    by : (here : Bool) → IfSome (label_of fs name) (HasId table)
        → IfSome (option_map (λ (r : FileRow). r.label) (if here then Some f else find (is_named name) fs)) (HasId table)
    by true rest = plain.0.label
    by false rest = rest

-- files stay plain with one more that is
pub files_with_one : (table : List (List ℕ)) (files : List FileRow) (f : FileRow) → AllByRecursion (IsPlainFile table) files → IsPlainFile table f
    → AllByRecursion (IsPlainFile table) (with_file files f)
files_with_one table files f plain one = all_append (IsPlainFile table) files (f ∷ []) plain (one, tt)

-- and with one less
pub files_without_one : (table : List (List ℕ)) (files : List FileRow) (name : List ℕ) → AllByRecursion (IsPlainFile table) files
    → AllByRecursion (IsPlainFile table) (without_file files name)
files_without_one table files name plain =
    let at = position_or_len (is_named name) files in
    all_append
    (IsPlainFile table)
    (take at files)
    (drop (suc at) files)
    (all_take (IsPlainFile table) at files plain)
    (all_drop (IsPlainFile table) (suc at) files plain)

-- names that are put in byte order are the same names
all_inserted : (P : List ℕ → Type 0) (names : List (List ℕ)) (name : List ℕ) → AllByRecursion P names → P name
    → AllByRecursion P (insert_key (slice_cmp nat_cmp) names name)
all_inserted P names name all one = recursion_from_All P (insert_key (slice_cmp nat_cmp) names name) (All-insert_key (slice_cmp nat_cmp) name P names (All-from_recursion P names all) one)

all_in_order : (P : List ℕ → Type 0) (names more : List (List ℕ)) → AllByRecursion P names → AllByRecursion P more
    → AllByRecursion P (fold (insert_key (slice_cmp nat_cmp)) names more)
all_in_order P names [] all more = all
all_in_order P names (n ∷ ns) all more =
    all_in_order P (insert_key (slice_cmp nat_cmp) names n) ns (all_inserted P names n all more.0) more.1

-- the names of a listing are words
pub listed_are_words : (table : List (List ℕ)) (files : List FileRow) (at : ℕ) → AllByRecursion (IsPlainFile table) files
    → AreWords (take most_names (drop at (in_byte_order (file_names files))))
listed_are_words table files at plain =
    let P = λ (name : List ℕ). is_word name ≡ true in
    all_take
    P
    most_names
    (drop at (in_byte_order (file_names files)))
    (all_drop P at (in_byte_order (file_names files))
    (all_in_order P [] (file_names files) tt (all_map (IsPlainFile table) P (λ f. f.name) (λ f is. is.name) files plain)))
