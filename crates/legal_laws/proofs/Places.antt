use Rattle.std.proofs.Common.{◌≡◌, ◌⊎◌, ℕ, zero, suc, Bool, true, false, if◌then◌else◌, inl, inr, List, [], ◌∷◌, ◌++◌, length, refl, sym, ap}
use Rattle.record_spec.specs.declared.AskedLine.{AskedLine}
use Rattle.replay_spec.specs.Replays.{is_before, with_asked}
use Rattle.legal_spec.specs.Calls.{Stands}
use Rattle.legal_forms_laws.proofs.Members.{same_some}

-- what stands in a list with one more stands in the list, or is the last
pub stands_more : {X : Type 0} (xs : List X) (y : X) (i : ℕ) (x : X) → Stands (xs ++ y ∷ []) i x → Stands xs i x ⊎ ((i ≡ length xs) × (x ≡ y))
stands_more [] y zero x at = inr (refl, same_some x y (sym at))
stands_more [] y (suc i) x at = cc
stands_more (z ∷ zs) y zero x at = inl at
stands_more (z ∷ zs) y (suc i) x at =
    elim (stands_more zs y i x at) [
      | inl old ↦ inl old
      | inr last ↦ inr (ap (λ n. suc n) last.0, last.1)
    ]

pub stands_front : {X : Type 0} (xs ys : List X) (i : ℕ) (x : X) → Stands xs i x → Stands (xs ++ ys) i x
stands_front [] ys i x at = cc
stands_front (z ∷ zs) ys zero x at = at
stands_front (z ∷ zs) ys (suc i) x at = stands_front zs ys i x at

pub stands_last : {X : Type 0} (xs : List X) (y : X) → Stands (xs ++ y ∷ []) (length xs) y
stands_last [] y = refl
stands_last (z ∷ zs) y = stands_last zs y

-- x stood among the asked lines, or is the new one
abbrev pub IsOldOr : List AskedLine → AskedLine → AskedLine → Type 0
IsOldOr asked a x = ((j : ℕ) × Stands asked j x) ⊎ (x ≡ a)

old_behind : (b : AskedLine) (bs : List AskedLine) (a x : AskedLine) → IsOldOr bs a x → IsOldOr (b ∷ bs) a x
old_behind b bs a x (inl old) = inl (suc old.0, old.1)
old_behind b bs a x (inr new) = inr new

-- what stands in the asked lines with one more stood there, or is the new one
pub asked_more : (asked : List AskedLine) (a : AskedLine) (i : ℕ) (x : AskedLine) → Stands (with_asked asked a) i x → IsOldOr asked a x
asked_more [] a zero x at = inr (same_some x a (sym at))
asked_more [] a (suc i) x at = cc
asked_more (b ∷ bs) a i x at = by (is_before a b) i (λ k. asked_more bs a k x) at
  where
    by : (before : Bool) (i : ℕ) → ((k : ℕ) → Stands (with_asked bs a) k x → IsOldOr bs a x)
        → Stands (if before then a ∷ b ∷ bs else b ∷ with_asked bs a) i x → IsOldOr (b ∷ bs) a x
    by true zero rest at = inr (same_some x a (sym at))
    by true (suc i) rest at = inl (i, at)
    by false zero rest at = inl (zero, at)
    by false (suc i) rest at = old_behind b bs a x (rest i at)

-- the old ones stay, and the new one is there
pub asked_kept : (asked : List AskedLine) (a : AskedLine) (i : ℕ) (x : AskedLine) → Stands asked i x → (j : ℕ) × Stands (with_asked asked a) j x
asked_kept [] a i x at = cc
asked_kept (b ∷ bs) a i x at = by (is_before a b) i (λ k. asked_kept bs a k x) at
  where
    by : (before : Bool) (i : ℕ) → ((k : ℕ) → Stands bs k x → (j : ℕ) × Stands (with_asked bs a) j x) → Stands (b ∷ bs) i x
        → (j : ℕ) × Stands (if before then a ∷ b ∷ bs else b ∷ with_asked bs a) j x
    by true i rest at = (suc i, at)
    by false zero rest at = (zero, at)
    by false (suc i) rest at = let later = rest i at in (suc later.0, later.1)

pub asked_there : (asked : List AskedLine) (a : AskedLine) → (j : ℕ) × Stands (with_asked asked a) j a
asked_there [] a = (zero, refl)
asked_there (b ∷ bs) a = by (is_before a b) (asked_there bs a)
  where
    by : (before : Bool) → (j : ℕ) × Stands (with_asked bs a) j a → (j : ℕ) × Stands (if before then a ∷ b ∷ bs else b ∷ with_asked bs a) j a
    by true rest = (zero, refl)
    by false rest = (suc rest.0, rest.1)
