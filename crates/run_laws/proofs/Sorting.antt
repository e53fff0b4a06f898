-- The asked lines of a record: those of each task in their order.
use Rattle.std.proofs.Common.{◌≡◌, ◌≢◌, ℕ, zero, suc, ◌≤◌, ◌<◌, List, [], ◌∷◌, ◌++◌, Bool, true, false, if◌then◌else◌, fold, sym, refl, ap, ◌∙◌, subst, arith, append_assoc, append-nil, nat_lt}
use Rattle.std.specs.List.{AllByRecursion}
use Rattle.std.proofs.lemmas.Bool.{ltb-true, ltb-false}
use mathlib.Core.Logic.{dite}
use native.Mathlib.Decide.{ℕ_discrete}
use Rattle.record_spec.specs.declared.AskedLine.{AskedLine}
use Rattle.replay_spec.specs.Replays.{with_asked}
use Rattle.live_table.specs.Lists.{Has, here, there}
use Rattle.live_table.proofs.Lists.{those-append, those_none}
use Rattle.legal_spec.specs.Calls.{Stands}
use Rattle.run_laws.proofs.Lists.{same_some, stands_has, has_those, those_has}
use Rattle.run_laws.proofs.Lives.{asked_by}

task_in : AskedLine → ℕ
task_in l = l.task

-- the asked lines in the order of a record
abbrev pub in_order : List AskedLine → List AskedLine
in_order ls = fold with_asked [] ls

abbrev pub AllFrom : ℕ → List AskedLine → Type 0
AllFrom n xs = AllByRecursion (λ b. n ≤ b.task) xs

abbrev pub AreSorted : List AskedLine → Type 0
AreSorted [] = Unit {0}
AreSorted (a ∷ bs) = AllFrom a.task bs × AreSorted bs

from_lower : (n m : ℕ) (xs : List AskedLine) → m ≤ n → AllFrom n xs → AllFrom m xs
from_lower n m [] l a = tt
from_lower n m (x ∷ xs) l a = let y = a.0 in (omega arith, from_lower n m xs l a.1)

from_with : (n : ℕ) (xs : List AskedLine) (a : AskedLine) → n ≤ a.task → AllFrom n xs → AllFrom n (with_asked xs a)
from_with n [] a l all = (l, tt)
from_with n (b ∷ bs) a l all = by (nat_lt a.task b.task) (from_with n bs a l all.1)
  where
    by : (before : Bool) → AllFrom n (with_asked bs a) → AllFrom n (if before then a ∷ b ∷ bs else b ∷ with_asked bs a)
    by true rest = (l, (all.0, all.1))
    by false rest = (all.0, rest)

sorted_with : (xs : List AskedLine) (a : AskedLine) → AreSorted xs → AreSorted (with_asked xs a)
sorted_with [] a s = (tt, tt)
sorted_with (b ∷ bs) a s = by (nat_lt a.task b.task) refl (sorted_with bs a s.1)
  where
    by : (before : Bool) → nat_lt a.task b.task ≡ before → AreSorted (with_asked bs a)
        → AreSorted (if before then a ∷ b ∷ bs else b ∷ with_asked bs a)
    by true is rest =
        let lt = ltb-true a.task b.task is in
        let le : a.task ≤ b.task = omega arith in ((le, from_lower b.task a.task bs le s.0), s)
    by false is rest = let le = ltb-false a.task b.task is in (from_with b.task bs a le s.0, rest)

-- none of these lines is of a lower task
none_lower : (k n : ℕ) (xs : List AskedLine) → k < n → AllFrom n xs → asked_by k xs ≡ []
none_lower k n xs l all = those_none (λ (x : AskedLine). x.task) k xs (other xs all)
  where
    other : (ys : List AskedLine) → AllFrom n ys → (x : AskedLine) → Has x ys → x.task ≢ k
    other [] a x h e = elim h [ ]
    other (y ∷ ys) a x here e = let z = a.0 in absurd (omega arith)
    other (y ∷ ys) a x (there h) e = other ys a.1 x h e

only_one : (a x : AskedLine) → Has x (a ∷ []) → x ≡ a
only_one a x here = refl
only_one a x (there g) = elim g [ ]

one_more : (k : ℕ) (xs : List AskedLine) (a : AskedLine) → AreSorted xs → asked_by k (with_asked xs a) ≡ asked_by k xs ++ asked_by k (a ∷ [])
one_more k [] a s = refl
one_more k (b ∷ bs) a s = by (nat_lt a.task b.task) refl (one_more k bs a s.1)
  where
    by : (before : Bool) → nat_lt a.task b.task ≡ before → asked_by k (with_asked bs a) ≡ asked_by k bs ++ asked_by k (a ∷ [])
        → asked_by k (if before then a ∷ b ∷ bs else b ∷ with_asked bs a) ≡ asked_by k (b ∷ bs) ++ asked_by k (a ∷ [])
    by true is rest = dite (ℕ_discrete a.task k)
        (λ e.
        let lt = ltb-true a.task b.task is in
        let none : asked_by k (b ∷ bs) ≡ [] = none_lower k b.task (b ∷ bs) (omega arith) (omega arith, s.0) in
        those-append (λ (x : AskedLine). x.task) k (a ∷ []) (b ∷ bs)
        ∙ (ap (λ t. asked_by k (a ∷ []) ++ t) none ∙ (append-nil (asked_by k (a ∷ [])) ∙ ap (λ t. t ++ asked_by k (a ∷ [])) (sym none))))
        (λ ne.
        let none : asked_by k (a ∷ []) ≡ [] = those_none (λ (x : AskedLine). x.task) k (a ∷ []) (λ x h e. ne (ap (λ (y : AskedLine). y.task) (sym (only_one a x h)) ∙ e)) in
        those-append (λ (x : AskedLine). x.task) k (a ∷ []) (b ∷ bs)
        ∙ (ap (λ t. t ++ asked_by k (b ∷ bs)) none ∙ (sym (append-nil (asked_by k (b ∷ bs))) ∙ ap (λ t. asked_by k (b ∷ bs) ++ t) (sym none))))
    by false is rest =
        those-append (λ (x : AskedLine). x.task) k (b ∷ []) (with_asked bs a)
        ∙ (ap (λ t. asked_by k (b ∷ []) ++ t) rest
        ∙ (sym (append_assoc (asked_by k (b ∷ [])) (asked_by k bs) (asked_by k (a ∷ [])))
        ∙ ap (λ t. t ++ asked_by k (a ∷ [])) (sym (those-append (λ (x : AskedLine). x.task) k (b ∷ []) bs))))

more_of : (k : ℕ) (ls xs : List AskedLine) → AreSorted xs → asked_by k (fold with_asked xs ls) ≡ asked_by k xs ++ asked_by k ls
more_of k [] xs s = sym (append-nil (asked_by k xs))
more_of k (a ∷ ls) xs s =
    more_of k ls (with_asked xs a) (sorted_with xs a s)
    ∙ (ap (λ t. t ++ asked_by k ls) (one_more k xs a s)
    ∙ (append_assoc (asked_by k xs) (asked_by k (a ∷ [])) (asked_by k ls)
    ∙ ap (λ t. asked_by k xs ++ t) (sym (those-append (λ (x : AskedLine). x.task) k (a ∷ []) ls))))

-- the lines of each task stand in the order in which they came
pub order_keeps : (k : ℕ) (ls : List AskedLine) → asked_by k (in_order ls) ≡ asked_by k ls
order_keeps k ls = more_of k ls [] tt

pub order_has : (ls : List AskedLine) (l : AskedLine) → Has l (in_order ls) → Has l ls
order_has ls l h =
    (those_has (λ (x : AskedLine). x.task) l.task ls l
    (subst (Has l) (order_keeps l.task ls) (has_those (λ (x : AskedLine). x.task) l.task (in_order ls) l refl h))).1

-- no line stands before one of a lower task
sorted_pairs : (xs : List AskedLine) → AreSorted xs → (n m : ℕ) (a b : AskedLine) → Stands xs n a → Stands xs m b → n < m → a.task ≤ b.task
sorted_pairs [] s n m a b sa sb lt = cc
sorted_pairs (x ∷ xs) s n zero a b sa sb lt = absurd (omega arith)
sorted_pairs (x ∷ xs) s zero (suc m) a b sa sb lt =
    let same = same_some x a sa in
    let low = from_has x.task xs s.0 b (stands_has xs m b sb) in
    let e = ap (λ (y : AskedLine). y.task) same in omega arith
  where
    from_has : (k : ℕ) (ys : List AskedLine) → AllFrom k ys → (y : AskedLine) → Has y ys → k ≤ y.task
    from_has k [] all y h = elim h [ ]
    from_has k (z ∷ ys) all y here = all.0
    from_has k (z ∷ ys) all y (there h) = from_has k ys all.1 y h
sorted_pairs (x ∷ xs) s (suc n) (suc m) a b sa sb lt = sorted_pairs xs s.1 n m a b sa sb (omega arith)

sorted_fold : (ls xs : List AskedLine) → AreSorted xs → AreSorted (fold with_asked xs ls)
sorted_fold [] xs s = s
sorted_fold (a ∷ ls) xs s = sorted_fold ls (with_asked xs a) (sorted_with xs a s)

-- the lines stand by rising task
pub tasks_rise : (ls : List AskedLine) (n m : ℕ) (a b : AskedLine) → Stands (in_order ls) n a → Stands (in_order ls) m b → n < m
    → a.task ≤ b.task
tasks_rise ls = sorted_pairs (in_order ls) (sorted_fold ls [] tt)
