use Rattle.std.proofs.Common.{◌≡◌, ℕ, ◌+◌, ◌-◌, List, [], ◌++◌, length, refl, sym, ap, ◌∙◌, append_assoc, Some, None, take, drop}
use Rattle.std.specs.Prelude.{Option}
use Rattle.std.proofs.lemmas.List.{append-nil, take-append-drop, take_rest, drop-drop}
use Rattle.outside.specs.Source.{Takes, AtEnd}

-- nothing taken
pub takes_nothing : (a b : Option (List ℕ)) → b ≡ a → Takes a b []
takes_nothing None b same = tt
takes_nothing (Some x) b same = (x, same, refl)

-- bytes taken, and then more
pub takes_more : (a b c : Option (List ℕ)) (xs ys : List ℕ) → Takes a b xs → Takes b c ys → Takes a c (xs ++ ys)
takes_more None b c xs ys before after = tt
takes_more (Some x) b c xs ys (rest, is, cut) after =
    let more = rw is at after in
    (more.0, more.1, cut ∙ ap (λ (t : List ℕ). xs ++ t) more.2 ∙ sym (append_assoc xs ys more.0))

-- what was taken up to the end is all that was left
pub took_all : (before bytes : List ℕ) (after : Option (List ℕ)) → Takes (Some before) after bytes → AtEnd after
    → (after ≡ Some []) × (before ≡ bytes)
took_all before bytes after (rest, is, cut) ends =
    let none = rw is at ends in
    (is ∙ ap (λ (t : List ℕ). Some t) none, cut ∙ ap (λ (t : List ℕ). bytes ++ t) none ∙ append-nil bytes)

-- the next bytes of a list, from a place on
pub takes_from : (bytes came : List ℕ) (at n : ℕ) → came ≡ take n (take (length bytes - at) (drop at bytes))
    → Takes (Some (drop at bytes)) (Some (drop (at + n) bytes)) came
takes_from bytes came at n is = (
  drop (at + n) bytes,
  refl,
  rw (is, take_rest bytes at, ← drop-drop n at bytes) (sym (take-append-drop n (drop at bytes))),
)
