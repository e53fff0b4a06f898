use Rattle.std.proofs.Common.{◌≡◌, ℕ, Bool, true, List, [], ◌∷◌, ◌++◌, ◌+◌, length, take, drop, ap, length-append}
use Rattle.std.specs.Prelude.{map}
use Rattle.std.specs.List.{AllByRecursion, flat_map, list_all}
use Rattle.std.proofs.lemmas.Bool.{and_parts}
use Rattle.std.proofs.lemmas.List.{take-append-drop}
use Rattle.std.proofs.lemmas.List.Elements.{All-from_recursion, recursion_from_All, All-take, All-drop}

-- what the elements of two lists have, those of both in a row have
pub all_append : {X : Type 0} (P : X → Type 0) (xs ys : List X) → AllByRecursion P xs → AllByRecursion P ys → AllByRecursion P (xs ++ ys)
all_append P [] ys front behind = behind
all_append P (x ∷ xs) ys front behind = (front.0, all_append P xs ys front.1 behind)

pub all_push : {X : Type 0} (P : X → Type 0) (xs : List X) (x : X) → AllByRecursion P xs → P x → AllByRecursion P (xs ++ x ∷ [])
all_push P xs x front last = all_append P xs (x ∷ []) front (last, tt)

pub all_take : {X : Type 0} (P : X → Type 0) (n : ℕ) (xs : List X) → AllByRecursion P xs → AllByRecursion P (take n xs)
all_take P n xs all = recursion_from_All P (take n xs) (All-take P n xs (All-from_recursion P xs all))

pub all_drop : {X : Type 0} (P : X → Type 0) (n : ℕ) (xs : List X) → AllByRecursion P xs → AllByRecursion P (drop n xs)
all_drop P n xs all = recursion_from_All P (drop n xs) (All-drop P n xs (All-from_recursion P xs all))

-- what holds of each element gives what holds of each image
pub all_map : {X Y : Type 0} (P : X → Type 0) (Q : Y → Type 0) (f : X → Y) → ((x : X) → P x → Q (f x)) → (xs : List X) → AllByRecursion P xs
    → AllByRecursion Q (map f xs)
all_map P Q f gives [] all = tt
all_map P Q f gives (x ∷ xs) all = (gives x all.0, all_map P Q f gives xs all.1)

-- what follows at each element follows at all
pub all_follow : {X : Type 0} (P Q : X → Type 0) → ((x : X) → P x → Q x) → (xs : List X) → AllByRecursion P xs → AllByRecursion Q xs
all_follow P Q follows [] all = tt
all_follow P Q follows (x ∷ xs) all = (follows x all.0, all_follow P Q follows xs all.1)

-- what the elements of each list have, those of the lists in a row have
pub all_flat_map : {X Y : Type 0} (P : X → Type 0) (Q : Y → Type 0) (f : X → List Y) → ((x : X) → P x → AllByRecursion Q (f x))
    → (xs : List X) → AllByRecursion P xs → AllByRecursion Q (flat_map f xs)
all_flat_map P Q f each [] all = tt
all_flat_map P Q f each (x ∷ xs) all = all_append Q (f x) (flat_map f xs) (each x all.0) (all_flat_map P Q f each xs all.1)

-- where a test passes at all elements, each passes it
pub all_pass : {X : Type 0} (test : X → Bool) (xs : List X) → list_all test xs ≡ true → AllByRecursion (λ x. test x ≡ true) xs
all_pass test [] passes = tt
all_pass test (x ∷ xs) passes = let parts = and_parts (test x) (list_all test xs) passes in (parts.0, all_pass test xs parts.1)

-- a list is as long as what stands before a place and what stands from it on
pub parts_length : {X : Type 0} (n : ℕ) (xs : List X) → length (take n xs) + length (drop n xs) ≡ length xs
parts_length n xs = rw (← length-append (take n xs) (drop n xs)) (ap length (take-append-drop n xs))
