use Rattle.std.proofs.Common.{◌≡◌, List, [], ◌∷◌, ◌++◌, length, refl, sym, ◌∙◌, arith, append-nil, drop, Some, None}
use Rattle.std.specs.Prelude.{Option}
use Rattle.std.specs.Vec.Iter.{into_iter_items, into_iter_len, into_iter_steps}
use Rattle.std.specs.declared.vec.IntoIter.{IntoIter}

no_item : {X : Type 0} (xs : List X) → length xs ≡ 0 → xs ≡ []
no_item [] none = refl
no_item (x ∷ xs) none = absurd (omega (arith, none))

-- where no more come, none is left
none_left : {X Z : Type 0} (it : IntoIter X Z) → into_iter_len it ≡ 0 → into_iter_items it ≡ []
none_left it none = no_item (into_iter_items it) (sym it.rest.ok.0 ∙ none)

-- what is left behind the first
pub after_first : {X Z : Type 0} (it it' : IntoIter X Z) (first : Option X) → into_iter_steps it first it' → into_iter_items it' ≡ drop 1 (into_iter_items it)
after_first it it' (Some x) steps = rw steps.0 refl
after_first it it' None steps = rw (none_left it steps.0, none_left it' steps.1) refl

-- what came is all, where no more come
pub all_came : {X Z : Type 0} (it it' : IntoIter X Z) (came all : List X) → into_iter_steps it None it' → came ++ into_iter_items it ≡ all → came ≡ all
all_came it it' came all steps is = sym (append-nil came) ∙ rw (none_left it steps.0) at is
