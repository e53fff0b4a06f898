use Rattle.std.proofs.Common.{◌≡◌, ◌<◌, ◌≤◌, ◌+◌, ℕ, zero, suc, true, false, List, [], ◌∷◌, ◌++◌, length, get_or, set, refl, sym, ap, ◌∙◌, subst, arith, append_assoc, nat_lt, fold, Result, Ok, Err, OnOk, OnErr}
use Rattle.std.specs.List.{AllByRecursion}
use Rattle.std.proofs.lemmas.Bool.{lt-ltb, le-ltb}
use Rattle.std.proofs.lemmas.List.{append-nil, set-set, get_or-set_same}
use Rattle.record_spec.specs.declared.AskedLine.{AskedLine}
use Rattle.replay_spec.specs.Replays.{with_asked}
use Rattle.asked_lines.specs.Blocks.{AreOf}
use Rattle.asked_lines.specs.ByTask.{all_lines, AreByTask}

low_of : (xs : List AskedLine) (task : ℕ) (a : AskedLine) → AllByRecursion (λ b. b.task ≡ task) xs → task ≤ a.task
    → AllByRecursion (λ b. b.task ≤ a.task) xs
low_of [] task a are low = tt
low_of (x ∷ xs) task a are low = (rw are.0 low, low_of xs task a are.1 low)

-- a line goes behind those of its own task and of lower ones
behind : (xs rest : List AskedLine) (a : AskedLine) → AllByRecursion (λ b. b.task ≤ a.task) xs
    → with_asked (xs ++ rest) a ≡ xs ++ with_asked rest a
behind [] rest a low = refl
behind (x ∷ xs) rest a low =
    let not_before : nat_lt a.task x.task ≡ false = le-ltb a.task x.task low.0 in
    rw not_before (ap (λ t. x ∷ t) (behind xs rest a low.1))

-- and before those of higher ones
before : (lists : List (List AskedLine)) (task : ℕ) (a : AskedLine) → AreByTask task lists → a.task < task
    → with_asked (all_lines lists) a ≡ a ∷ all_lines lists
before [] task a are low = refl
before ([] ∷ ls) task a are low = before ls (task + 1) a are.1 (omega (arith, low))
before ((b ∷ bs) ∷ ls) task a are low =
    let first : b.task ≡ task = are.0.0 in
    let lower : a.task < b.task = rw first low in
    let is : nat_lt a.task b.task ≡ true = lt-ltb a.task b.task lower in
    rw is refl

-- a line that is put last into the list of its task is put behind the earlier ones of its task
put_in : (lists : List (List AskedLine)) (task at : ℕ) (a : AskedLine) (none : List AskedLine) → AreByTask task lists → at < length lists → a.task ≡ task + at
    → all_lines (set lists at (get_or lists at none ++ a ∷ [])) ≡ with_asked (all_lines lists) a
put_in [] task at a none are within is = absurd (omega (arith, within))
put_in (l ∷ ls) task zero a none are within is =
    let same : a.task ≡ task = omega (arith, is) in
    append_assoc l (a ∷ []) (all_lines ls)
    ∙ sym (ap (λ t. l ++ t) (before ls (task + 1) a are.1 (omega (arith, same))))
    ∙ sym (behind l (all_lines ls) a (low_of l task a are.0 (omega (arith, same))))
put_in (l ∷ ls) task (suc n) a none are within is =
    ap (λ t. l ++ t) (put_in ls (task + 1) n a none are.1 (omega (arith, within)) (omega (arith, is)))
    ∙ sym (behind l (all_lines ls) a (low_of l task a are.0 (omega (arith, is))))

-- and the lists are still those of the tasks
lines_push : (xs : List AskedLine) (task : ℕ) (a : AskedLine) → AllByRecursion (λ b. b.task ≡ task) xs → a.task ≡ task
    → AllByRecursion (λ b. b.task ≡ task) (xs ++ a ∷ [])
lines_push [] task a are is = (is, tt)
lines_push (x ∷ xs) task a are is = (are.0, lines_push xs task a are.1 is)

are_put : (lists : List (List AskedLine)) (task at : ℕ) (a : AskedLine) (none : List AskedLine) → AreByTask task lists → at < length lists → a.task ≡ task + at
    → AreByTask task (set lists at (get_or lists at none ++ a ∷ []))
are_put [] task at a none are within is = absurd (omega (arith, within))
are_put (l ∷ ls) task zero a none are within is = (lines_push l task a are.0 (omega (arith, is)), are.1)
are_put (l ∷ ls) task (suc n) a none are within is =
    (are.0, are_put ls (task + 1) n a none are.1 (omega (arith, within)) (omega (arith, is)))

set_same : (lists : List (List AskedLine)) (at : ℕ) (none : List AskedLine) → at < length lists → set lists at (get_or lists at none) ≡ lists
set_same [] at none within = absurd (omega (arith, within))
set_same (l ∷ ls) zero none within = refl
set_same (l ∷ ls) (suc n) none within = ap (λ t. l ∷ t) (set_same ls n none (omega (arith, within)))

set_length : (lists : List (List AskedLine)) (at : ℕ) (l : List AskedLine) → length (set lists at l) ≡ length lists
set_length [] at l = refl
set_length (x ∷ ls) zero l = refl
set_length (x ∷ ls) (suc n) l = ap suc (set_length ls n l)

-- the same of the list of a task as it is after a line was put in, or was not
pub lines_after : {E : Type 0} (r : Result Unit E) (lists : List (List AskedLine)) (a : AskedLine) (old new : List AskedLine)
    → AreByTask 0 lists → a.task < length lists → old ≡ get_or lists a.task old → OnOk r (new ≡ old ++ a ∷ [])
    → OnOk r (all_lines (set lists a.task new) ≡ with_asked (all_lines lists) a)
lines_after (Ok u) lists a old new are within is put =
    subst (λ t. all_lines (set lists a.task t) ≡ with_asked (all_lines lists) a) (sym (put ∙ ap (λ t. t ++ a ∷ []) is))
    (put_in lists 0 a.task a old are within (omega arith))
lines_after (Err e) lists a old new are within is put = tt

pub lists_after : {E : Type 0} (r : Result Unit E) (lists : List (List AskedLine)) (a : AskedLine) (old new : List AskedLine)
    → AreByTask 0 lists → a.task < length lists → old ≡ get_or lists a.task old → OnOk r (new ≡ old ++ a ∷ []) → OnErr r (new ≡ old)
    → AreByTask 0 (set lists a.task new)
lists_after (Ok u) lists a old new are within is put kept =
    subst (λ t. AreByTask 0 (set lists a.task t)) (sym (put ∙ ap (λ t. t ++ a ∷ []) is)) (are_put lists 0 a.task a old are within (omega arith))
lists_after (Err e) lists a old new are within is put kept =
    subst (λ t. AreByTask 0 t) (sym (ap (λ t. set lists a.task t) (kept ∙ is) ∙ set_same lists a.task old within)) are

pub count_after : (lists : List (List AskedLine)) (at : ℕ) (l : List AskedLine) (n : ℕ) → n ≤ length lists → n ≤ length (set lists at l)
count_after lists at l n low = subst (λ (m : ℕ). n ≤ m) (sym (set_length lists at l)) low

-- one more list, without a line
pub none_more : (lists : List (List AskedLine)) (task : ℕ) → AreByTask task lists → AreByTask task (lists ++ [] ∷ [])
none_more [] task are = (tt, tt)
none_more (l ∷ ls) task are = (are.0, none_more ls (task + 1) are.1)

pub same_lines : (lists : List (List AskedLine)) → all_lines (lists ++ [] ∷ []) ≡ all_lines lists
same_lines [] = refl
same_lines (l ∷ ls) = ap (λ t. l ++ t) (same_lines ls)

-- lists without a line
pub are_empty : (lists : List (List AskedLine)) (task : ℕ) → AllByRecursion (λ l. l ≡ []) lists → AreByTask task lists
are_empty [] task are = tt
are_empty (l ∷ ls) task are = (subst (λ t. AllByRecursion (λ b. b.task ≡ task) t) (sym are.0) tt, are_empty ls (task + 1) are.1)

pub no_lines : (lists : List (List AskedLine)) → AllByRecursion (λ l. l ≡ []) lists → all_lines lists ≡ []
no_lines [] are = refl
no_lines (l ∷ ls) are = rw are.0 (no_lines ls are.1)

pub empty_push : (lists : List (List AskedLine)) → AllByRecursion (λ l. l ≡ []) lists → AllByRecursion (λ l. l ≡ []) (lists ++ [] ∷ [])
empty_push [] are = (refl, tt)
empty_push (l ∷ ls) are = (are.0, empty_push ls are.1)

-- the same where all lines of one task are put in, one after another
put_in_all : (xs : List AskedLine) (lists : List (List AskedLine)) (task : ℕ) (none : List AskedLine) → AreByTask 0 lists
    → task < length lists → AreOf task xs
    → all_lines (set lists task (get_or lists task none ++ xs)) ≡ fold with_asked (all_lines lists) xs
put_in_all [] lists task none are within of =
    ap all_lines (ap (λ t. set lists task t) (append-nil (get_or lists task none)) ∙ set_same lists task none within)
put_in_all (x ∷ xs) lists task none are within of =
    let own = get_or lists task none in
    let more : List (List AskedLine) = set lists task (own ++ x ∷ []) in
    let low : task < length more = subst (λ (n : ℕ). task < n) (sym (set_length lists task (own ++ x ∷ []))) within in
    let is : x.task ≡ 0 + task = omega (arith, of.0) in
    ap all_lines (sym (set-set lists task (own ++ x ∷ []) (own ++ x ∷ xs)))
    ∙ (ap (λ t. all_lines (set more task t)) (sym (append_assoc own (x ∷ []) xs) ∙ ap (λ t. t ++ xs) (sym (get_or-set_same lists task (own ++ x ∷ []) none within)))
    ∙ (put_in_all xs more task none (are_put lists 0 task x none are within is) low of.1
    ∙ ap (λ t. fold with_asked t xs) (put_in lists 0 task x none are within is)))

are_put_all : (xs : List AskedLine) (lists : List (List AskedLine)) (task : ℕ) (none : List AskedLine) → AreByTask 0 lists
    → task < length lists → AreOf task xs → AreByTask 0 (set lists task (get_or lists task none ++ xs))
are_put_all [] lists task none are within of =
    subst (AreByTask 0) (sym (ap (λ t. set lists task t) (append-nil (get_or lists task none)) ∙ set_same lists task none within)) are
are_put_all (x ∷ xs) lists task none are within of =
    let own = get_or lists task none in
    let more : List (List AskedLine) = set lists task (own ++ x ∷ []) in
    let low : task < length more = subst (λ (n : ℕ). task < n) (sym (set_length lists task (own ++ x ∷ []))) within in
    let is : x.task ≡ 0 + task = omega (arith, of.0) in
    subst (AreByTask 0)
    (sym (ap (λ t. set more task t) (sym (append_assoc own (x ∷ []) xs) ∙ ap (λ t. t ++ xs) (sym (get_or-set_same lists task (own ++ x ∷ []) none within))))
    ∙ set-set lists task (own ++ x ∷ []) (own ++ x ∷ xs))
    (are_put_all xs more task none (are_put lists 0 task x none are within is) low of.1)

pub block_after : {E : Type 0} (r : Result Unit E) (lists : List (List AskedLine)) (task : ℕ) (xs old new : List AskedLine)
    → AreByTask 0 lists → task < length lists → AreOf task xs → old ≡ get_or lists task old → OnOk r (new ≡ old ++ xs)
    → OnOk r (all_lines (set lists task new) ≡ fold with_asked (all_lines lists) xs)
block_after (Ok u) lists task xs old new are within of is put =
    subst (λ t. all_lines (set lists task t) ≡ fold with_asked (all_lines lists) xs) (sym (put ∙ ap (λ t. t ++ xs) is))
    (put_in_all xs lists task old are within of)
block_after (Err e) lists task xs old new are within of is put = tt

pub blocks_after : {E : Type 0} (r : Result Unit E) (lists : List (List AskedLine)) (task : ℕ) (xs old new : List AskedLine)
    → AreByTask 0 lists → task < length lists → AreOf task xs → old ≡ get_or lists task old → OnOk r (new ≡ old ++ xs)
    → OnErr r (new ≡ old) → AreByTask 0 (set lists task new)
blocks_after (Ok u) lists task xs old new are within of is put kept =
    subst (λ t. AreByTask 0 (set lists task t)) (sym (put ∙ ap (λ t. t ++ xs) is)) (are_put_all xs lists task old are within of)
blocks_after (Err e) lists task xs old new are within of is put kept =
    subst (λ t. AreByTask 0 t) (sym (ap (λ t. set lists task t) (kept ∙ is) ∙ set_same lists task old within)) are
