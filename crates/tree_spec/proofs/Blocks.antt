use Rattle.std.proofs.Common.{inl, inr, false, subst, ◌≡◌, ◌≤◌, ◌<◌, ◌+◌, ◌*◌, ℕ, suc, List, [], ◌∷◌, ◌++◌, length, refl, sym, ap, ◌∙◌, arith, append_assoc}
use Rattle.std.specs.Prelude.{◌/◌, ◌%◌, ◌==◌, zero, replicate}
use Rattle.std.proofs.Math.Nat.{mod-lt}
use Rattle.std.proofs.lemmas.Nat.{div-add-mod'}
use Rattle.std.proofs.lemmas.Bool.{cases_Bool, ne_eqb}
use Rattle.std.proofs.lemmas.Grind.{flat_map-append}
use Rattle.std.proofs.Math.Seq.{take-append_seam, drop-append_seam}
use Rattle.std.proofs.lemmas.List.{length-append, append-nil}
use Rattle.tree_spec.specs.Listings.{name_bytes, listing_bytes, told_length, behind_length, first_listed, behind_first, names_within, names_in}

told_of : (q r : ℕ) (bs : List ℕ) → r < 255 → told_length (replicate q 255 ++ r ∷ bs) ≡ q * 255 + r
told_of zero r bs small = simp (ne_eqb r 255 (λ e. omega (arith, e, small))) (omega arith)
told_of (suc q) r bs small = omega (arith, told_of q r bs small)

behind_of : (q r : ℕ) (bs : List ℕ) → r < 255 → behind_length (replicate q 255 ++ r ∷ bs) ≡ bs
behind_of zero r bs small = simp (ne_eqb r 255 (λ e. omega (arith, e, small))) refl
behind_of (suc q) r bs small = behind_of q r bs small

-- a name in front of more of a block
in_front : (name more : List ℕ) → name_bytes name ++ more ≡ replicate (length name / 255) 255 ++ length name % 255 ∷ (name ++ more)
in_front name more = grind (arith, append_assoc)

told_name : (name more : List ℕ) → told_length (name_bytes name ++ more) ≡ length name
told_name name more =
    ap told_length (in_front name more) ∙ told_of (length name / 255) (length name % 255) (name ++ more) (mod-lt (length name) (omega arith)) ∙ div-add-mod' (length name) 255

behind_name : (name more : List ℕ) → behind_length (name_bytes name ++ more) ≡ name ++ more
behind_name name more =
    ap behind_length (in_front name more) ∙ behind_of (length name / 255) (length name % 255) (name ++ more) (mod-lt (length name) (omega arith))

first_name : (name more : List ℕ) → first_listed (name_bytes name ++ more) ≡ name
first_name name more = rw (told_name name more, behind_name name more) (take-append_seam name more)

behind_first_name : (name more : List ℕ) → behind_first (name_bytes name ++ more) ≡ more
behind_first_name name more = rw (told_name name more, behind_name name more) (drop-append_seam name more)

-- a block of a name has a byte
some_bytes : (name more : List ℕ) → 1 + length more ≤ length (name_bytes name ++ more)
some_bytes name more = rw (in_front name more) (grind (arith, length-append))

all_within : (n : ℕ) (names : List (List ℕ)) → length (listing_bytes names) ≤ n → names_within n (listing_bytes names) ≡ names
all_within zero [] few = refl
all_within (suc n) [] few = refl
all_within zero (x ∷ xs) few = absurd (omega (arith, few, some_bytes x (listing_bytes xs)))
all_within (suc n) (x ∷ xs) few =
    let some : (length (name_bytes x ++ listing_bytes xs) == 0) ≡ false = ne_eqb _ 0 (λ e. omega (arith, e, some_bytes x (listing_bytes xs))) in
    simp (some, first_name x (listing_bytes xs), behind_first_name x (listing_bytes xs), all_within n xs (omega (arith, few, some_bytes x (listing_bytes xs)))) refl

few_within : (n : ℕ) (bytes : List ℕ) → length (names_within n bytes) ≤ n
few_within zero bytes = omega arith
few_within (suc n) bytes =
    elim (cases_Bool (length bytes == 0)) [
      | inl e ↦ simp e (omega arith)
      | inr e ↦ simp e (omega (arith, few_within n (behind_first bytes)))
    ]

-- a block has no more names than bytes
pub few_names : (bytes : List ℕ) → length (names_in bytes) ≤ length bytes
few_names bytes = few_within (length bytes) bytes

-- the names of a block are those that it was made of
same_names : (names : List (List ℕ)) → names_in (listing_bytes names) ≡ names
same_names names = all_within (length (listing_bytes names)) names (omega arith)

one_more : (names : List (List ℕ)) (name : List ℕ) → listing_bytes names ++ name_bytes name ≡ listing_bytes (names ++ name ∷ [])
one_more names name = sym (flat_map-append name_bytes names (name ∷ []) ∙ ap (λ bs. listing_bytes names ++ bs) (append-nil (name_bytes name)))

pub one_more_name : (old new name : List ℕ) → listing_bytes (names_in old) ≡ old → new ≡ old ++ name_bytes name → names_in new ≡ names_in old ++ name ∷ []
one_more_name old new name kept is =
    ap names_in (is ∙ ap (λ bs. bs ++ name_bytes name) (sym kept) ∙ one_more (names_in old) name) ∙ same_names (names_in old ++ name ∷ [])

pub one_more_kept : (old new name : List ℕ) → listing_bytes (names_in old) ≡ old → new ≡ old ++ name_bytes name → listing_bytes (names_in new) ≡ new
one_more_kept old new name kept is =
    ap listing_bytes (one_more_name old new name kept is) ∙ sym (one_more (names_in old) name) ∙ ap (λ bs. bs ++ name_bytes name) kept ∙ sym is

whole_of : (names : List (List ℕ)) → told_length (listing_bytes names) ≤ length (behind_length (listing_bytes names))
whole_of [] = omega arith
whole_of (x ∷ xs) = rw (told_name x (listing_bytes xs), behind_name x (listing_bytes xs)) (grind (arith, length-append))

short_of : (names : List (List ℕ)) → told_length (listing_bytes names) ≤ length (listing_bytes names)
short_of [] = omega arith
short_of (x ∷ xs) = rw (told_name x (listing_bytes xs), in_front x (listing_bytes xs)) (grind (arith, length-append))

next_of : (names : List (List ℕ)) → (length (listing_bytes names) ≡ 0 → ⊥) → names ≡ first_listed (listing_bytes names) ∷ names_in (behind_first (listing_bytes names))
next_of [] some = absurd (some refl)
next_of (x ∷ xs) some = rw (first_name x (listing_bytes xs), behind_first_name x (listing_bytes xs), same_names xs) refl

kept_of : (names : List (List ℕ)) → listing_bytes (names_in (behind_first (listing_bytes names))) ≡ behind_first (listing_bytes names)
kept_of [] = refl
kept_of (x ∷ xs) = rw (behind_first_name x (listing_bytes xs), same_names xs) refl

pub is_whole : (rest : List ℕ) → listing_bytes (names_in rest) ≡ rest → told_length rest ≤ length (behind_length rest)
is_whole rest kept = subst (λ bs. told_length bs ≤ length (behind_length bs)) kept (whole_of (names_in rest))

pub is_short : (rest : List ℕ) → listing_bytes (names_in rest) ≡ rest → told_length rest ≤ length rest
is_short rest kept = subst (λ bs. told_length bs ≤ length bs) kept (short_of (names_in rest))

pub next_name : (rest : List ℕ) → listing_bytes (names_in rest) ≡ rest → (length rest ≡ 0 → ⊥) → names_in rest ≡ first_listed rest ∷ names_in (behind_first rest)
next_name rest kept some = subst (λ bs. (length bs ≡ 0 → ⊥) → names_in rest ≡ first_listed bs ∷ names_in (behind_first bs)) kept (next_of (names_in rest)) some

pub next_kept : (rest : List ℕ) → listing_bytes (names_in rest) ≡ rest → listing_bytes (names_in (behind_first rest)) ≡ behind_first rest
next_kept rest kept = subst (λ bs. listing_bytes (names_in (behind_first bs)) ≡ behind_first bs) kept (kept_of (names_in rest))
