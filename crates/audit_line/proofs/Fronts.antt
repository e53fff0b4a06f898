use Rattle.std.proofs.Common.{◌≡◌, ◌+◌, ℕ, true, false, List, [], ◌∷◌, ◌++◌, Option, Some, None, Bor, length, take, drop, refl, sym, inl, inr}
use Rattle.std.specs.Prelude.{◌==◌, MatchOption, nat_eq}
use Rattle.std.specs.Option.{option_map}
use Rattle.std.specs.Cmp.Lexicographic.{pointwise}
use Rattle.std.proofs.lemmas.Bool.{cases_Bool, eqb-true, eq-eqb}
use Rattle.std.proofs.lemmas.Bool.Decides.{Decides-eqb}
use Rattle.std.proofs.lemmas.Option.{none-some, same_Some}
use Rattle.std.proofs.lemmas.Slice.Eq.{strip_prefix_is}
use Rattle.audit_line.specs.Values.{rest_behind}

-- behind a front stands what was put there
pub behind_front : (front rest : List ℕ) → rest_behind front (front ++ rest) ≡ Some rest
behind_front [] rest = refl
behind_front (f ∷ fs) rest = simp (eq-eqb f f refl) (behind_front fs rest)

-- a text is the front and what stands behind it
pub behind_is : (front text rest : List ℕ) → rest_behind front text ≡ Some rest → text ≡ front ++ rest
behind_is [] text rest e = same_Some text rest e
behind_is (f ∷ fs) [] rest e = absurd (none-some rest e)
behind_is (f ∷ fs) (b ∷ bs) rest e =
    elim (cases_Bool (b == f)) [
      | inl same ↦
          let head : b ≡ f = eqb-true b f same in
          let tail : bs ≡ fs ++ rest = behind_is fs bs rest (simp same at e) in
          cc
      | inr other ↦ absurd (none-some rest (simp other at e))
    ]

-- nothing stands behind a front that a text does not begin with
not_behind : (front text : List ℕ) → ((rest : List ℕ) → text ≡ front ++ rest → ⊥) → rest_behind front text ≡ None
not_behind [] text none = absurd (none text refl)
not_behind (f ∷ fs) [] none = refl
not_behind (f ∷ fs) (b ∷ bs) none =
    elim (cases_Bool (b == f)) [
      | inl same ↦
          let head : b ≡ f = eqb-true b f same in
          simp same (not_behind fs bs (λ rest tail. none rest cc))
      | inr other ↦ simp other refl
    ]

behind_cut : (front text : List ℕ) (r : Option (Bor (List ℕ)))
    → MatchOption r ((rest : List ℕ) → text ≡ front ++ rest → ⊥) (λ rest. text ≡ front ++ rest.now)
    → option_map (λ rest. rest.now) r ≡ rest_behind front text
behind_cut front text None none = sym (not_behind front text none)
behind_cut front text (Some rest) is = rw is (sym (behind_front front rest.now))

-- what the library cuts off is what stands behind a front
pub stripped : (front text : List ℕ) (r : Option (Bor (List ℕ)))
    → MatchOption r (pointwise nat_eq (take (length front) text) front ≡ false)
    (λ rest. (pointwise nat_eq (take (length front) text) front ≡ true) × (rest.now ≡ drop (length front) text) × (length rest.now + length front ≡ length text))
    → option_map (λ rest. rest.now) r ≡ rest_behind front text
stripped front text r cut = behind_cut front text r (strip_prefix_is Decides-eqb text front r cut)
