use Rattle.std.specs.Prelude.{ℕ, zero, suc, ◌+◌, Bool, true, false, not, ◌&&◌, ◌||◌, ◌==◌, if◌then◌else◌, List, [], ◌∷◌, Option, Some, None, length, take, is_some, nat_lt, nat_le}
use Rattle.std.specs.List.{list_all, list_any}
use Rattle.smack_base.specs.declared.ids.Pid.{Pid}
use Rattle.smack_base.specs.declared.cap.Cap.TheVariants as Cap
use Rattle.rules_spec.specs.declared.Batch.{Batch}
use Rattle.rules_spec.specs.Cases.{verdict_of_cases}
use Rattle.rules_spec.specs.Creds.{is_effective}
use Rattle.file_spec.specs.declared.Refusal.{Refusal}
use Rattle.file_spec.specs.Writes.{rule_file}
use Rattle.text_spec.specs.Names.{place_of}
use Rattle.verb_spec.specs.Words.{is_task_name}
use Rattle.world_spec.specs.declared.Entry.{Entry}
use Rattle.world_spec.specs.Worlds.{World, world_first}
use Rattle.world_spec.specs.Replays.{version_of, step_of, after_entry, cred_at}
use Rattle.record_spec.specs.declared.AskedLine.{AskedLine}
use Rattle.record_spec.specs.declared.AskedWhat.{AskedWhat}
use Rattle.record_spec.specs.declared.RunRecord.{RunRecord}
use Rattle.legal_spec.specs.Legal.{rows_taken}
use Rattle.legal_forms.specs.Same.{same_verdict, same_checks, same_reply}
use Rattle.legal_forms.specs.MadeCalls.{MadeCall, made_calls, count_of, call_at, greatest_reached, MadeFork, forks_of, has_task, task_numbers, version_told, descendants}

-- a test of each element with its place, from this place on
abbrev pub all_from : {X : Type 0} → (ℕ → X → Bool) → ℕ → List X → Bool
all_from test i [] = true
all_from test i (x ∷ xs) = test i x && all_from test (i + 1) xs

-- a test of each element with those behind it
abbrev pub all_behind : {X : Type 0} → (X → List X → Bool) → List X → Bool
all_behind test [] = true
all_behind test (x ∷ xs) = test x xs && all_behind test xs

-- the names are names of tasks, and distinct
abbrev pub are_names : List (List ℕ) → Bool
are_names names = list_all is_task_name names && (all_from (λ pid name. place_of names name == pid) 0 names && nat_lt 0 (length names))

-- so many numbers from this one on have a call each
abbrev pub has_each : (ℕ → Option MadeCall) → ℕ → ℕ → Bool
has_each call seq zero = true
has_each call seq (suc n) = is_some (call seq) && has_each call (seq + 1) n

-- each task has a call of each number from 1 to how many calls it has, and so just one of each
abbrev pub are_numbered : RunRecord → Bool
are_numbered r =
    list_all (λ task. has_each (call_at (made_calls r) task) 1 (count_of (made_calls r) task)) (task_numbers r.history)

-- the number of each task's last object call, with one more
abbrev pub with_last : (ℕ → ℕ) → Entry → ℕ → ℕ
with_last last e task = if e.task == task then e.seq else last task

-- each object call has a greater number than the last of its task
abbrev pub rises_from : (ℕ → ℕ) → List Entry → Bool
rises_from last [] = true
rises_from last (e ∷ es) = nat_lt (last e.task) e.seq && rises_from (with_last last e) es

-- by the number of the task, and then by that of the call
abbrev pub comes_before : AskedLine → AskedLine → Bool
comes_before a b = nat_lt a.task b.task || ((a.task == b.task) && nat_lt a.seq b.seq)

-- each line stands before the next
abbrev pub are_listed : List AskedLine → Bool
are_listed [] = true
are_listed (a ∷ []) = true
are_listed (a ∷ b ∷ rest) = comes_before a b && are_listed (b ∷ rest)

-- only tasks make calls
abbrev pub are_of_tasks : RunRecord → Bool
are_of_tasks r = list_all (λ c. has_task (task_numbers r.history) c.task) (made_calls r)

-- neither an entry nor one behind it made the task of the entry
abbrev pub was_forked_before : Entry → List Entry → Bool
was_forked_before e es = not (list_any (λ f. f.number == e.task) (forks_of (e ∷ es)))

-- each call once and in order
abbrev pub is_each_call_once : RunRecord → Bool
is_each_call_once r = are_of_tasks r && (are_numbered r && (rises_from (λ task. 0) r.history
    && (are_listed r.asked && all_behind was_forked_before r.history)))

-- an entry in the world that those before it leave, behind one with this version
abbrev pub is_entry : List Batch → World → ℕ → Entry → Bool
is_entry journal w version e = same_checks e.checks (step_of journal w e).checks && (same_reply e.reply (step_of journal w e).reply
    && (nat_le version e.version && nat_le e.version (length journal)))

-- entries in this world, one after another, behind one with this version
abbrev pub are_entries : List Batch → World → ℕ → List Entry → Bool
are_entries journal w version [] = true
are_entries journal w version (e ∷ es) = is_entry journal w version e && are_entries journal (after_entry journal w e) e.version es

-- the object calls
abbrev pub are_judged : RunRecord → Bool
are_judged r = are_entries r.journal world_first 0 r.history

-- the place of the first entry that is not judged, where there is one, with the places from this one on
abbrev pub first_wrong : List Batch → World → ℕ → ℕ → List Entry → Option ℕ
first_wrong journal w version place [] = None
first_wrong journal w version place (e ∷ es) =
    if is_entry journal w version e then first_wrong journal (after_entry journal w e) e.version (place + 1) es else Some place

-- the same of a whole record
abbrev pub wrong_place : RunRecord → Option ℕ
wrong_place r = first_wrong r.journal world_first 0 0 r.history

-- the batches
abbrev pub are_privileged : RunRecord → Bool
are_privileged r =
    all_from (λ i b. is_effective (cred_at r.journal r.history b.task b.seq) Cap.MacAdmin (version_of r.journal i)) 0 r.journal

-- whether a text is refused so
abbrev pub is_refused : RunRecord → AskedLine → List ℕ → Refusal → Bool
is_refused r a file Refusal.NoSuchFile = true
is_refused r a file Refusal.TooLong = true
is_refused r a file (Refusal.BadLine bad) = true
is_refused r a file (Refusal.UnknownLabel line) = true
is_refused r a file Refusal.NotPrivileged =
    is_some (rule_file file) && not (is_effective (cred_at r.journal r.history a.task a.seq) Cap.MacAdmin (version_of r.journal a.version))
is_refused r a file (Refusal.JournalFull rows) = is_some (rule_file file) && (rows == rows_taken (take a.version r.journal))

-- whether a line is so in its version
abbrev pub is_so : RunRecord → AskedLine → AskedWhat → Bool
is_so r a (AskedWhat.Ask v) = same_verdict v (verdict_of_cases (version_of r.journal a.version) v.subject v.object v.modes)
is_so r a (AskedWhat.Refused file fault) = is_refused r a file fault
is_so r a (AskedWhat.Wait pid) = true

-- the asked, refused and waited lines
abbrev pub are_answered : RunRecord → Bool
are_answered r = list_all (λ a. nat_le a.version (length r.journal) && is_so r a a.what) r.asked

-- a call, where there is one, is not older than what its task had seen or been told of
abbrev pub is_fresh_call : ℕ → Option MadeCall → Bool
is_fresh_call told None = false
is_fresh_call told (Some c) = nat_le told c.needs

abbrev pub version_reached : ℕ → Option MadeCall → ℕ
version_reached told None = told
version_reached told (Some c) = c.reaches

-- the walk over so many numbers from this one on, with the version that the task has seen or been told of
abbrev pub are_fresh_calls : (ℕ → Option MadeCall) → ℕ → ℕ → ℕ → Bool
are_fresh_calls call told seq zero = true
are_fresh_calls call told seq (suc n) = is_fresh_call told (call seq) && are_fresh_calls call (version_reached told (call seq)) (seq + 1) n

-- the walk over all calls of a task
abbrev pub has_fresh_calls : RunRecord → ℕ → Bool
has_fresh_calls r task =
    are_fresh_calls (call_at (made_calls r) task) (version_told (forks_of r.history) task) 1 (count_of (made_calls r) task)

-- an object call that the waiter makes after its wait
abbrev pub is_after : AskedLine → Entry → Bool
is_after a e = (e.task == a.task) && nat_lt a.seq e.seq

-- from the first such call on, no entry is of a task among these
abbrev pub none_late : AskedLine → List ℕ → List Entry → Bool
none_late a below [] = true
none_late a below (e ∷ es) = if is_after a e then list_all (λ x. not (has_task below x.task)) (e ∷ es) else none_late a below es

-- a wait tells of all that these tasks did: none reached more, and none enters later than the waiter
abbrev pub is_told : RunRecord → AskedLine → List ℕ → Bool
is_told r a below =
    list_all (λ task. nat_le (greatest_reached (made_calls r) task) a.version) below && none_late a below r.history

-- the fork made the awaited task, by an earlier call of the waiter
abbrev pub is_awaited : AskedLine → Pid → MadeFork → Bool
is_awaited a pid f = (f.pid.0 == pid.0) && ((f.parent == a.task) && nat_lt f.seq a.seq)

-- a line that waits has such a fork, and tells of all who descend from the task that it made
abbrev pub has_waited : RunRecord → AskedLine → AskedWhat → Bool
has_waited r a (AskedWhat.Ask v) = true
has_waited r a (AskedWhat.Refused file fault) = true
has_waited r a (AskedWhat.Wait pid) =
    list_any (λ f. is_awaited a pid f && is_told r a (descendants (forks_of r.history) f.number)) (forks_of r.history)

-- no call is judged in a version older than its task had seen or been told of
abbrev pub is_fresh : RunRecord → Bool
is_fresh r = list_all (has_fresh_calls r) (task_numbers r.history) && list_all (λ a. has_waited r a a.what) r.asked

-- the record is legal
abbrev pub is_legal : RunRecord → Bool
is_legal r = are_names r.names && (is_each_call_once r && (are_judged r && (are_privileged r && (are_answered r && is_fresh r))))
