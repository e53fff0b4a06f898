use Rattle.std.proofs.Common.{◌≡◌, ℕ, ◌<◌, ◌+◌, ◌-◌, List, [], ◌∷◌, ◌++◌, length, refl, sym, ap, ◌∙◌, append_assoc, Some, None, take, drop, get_or, subst}
use Rattle.std.specs.Prelude.{Option}
use Rattle.std.specs.List.{flat_map}
use Rattle.std.proofs.lemmas.Grind.{flat_map-append}
use Rattle.std.proofs.lemmas.List.{append-nil, take-append-drop, take_rest, drop_more, take_more}
use Rattle.outside.specs.Sink.{Appends, AppendsFront}

-- nothing appended
pub appends_nothing : (a b : Option (List ℕ)) → b ≡ a → Appends a b []
appends_nothing None b same = tt
appends_nothing (Some x) b same = same ∙ ap (λ (t : List ℕ). Some t) (sym (append-nil x))

-- bytes appended, and then more
pub appends_more : (a b c : Option (List ℕ)) (xs ys : List ℕ) → Appends a b xs → Appends b c ys → Appends a c (xs ++ ys)
appends_more None b c xs ys before after = tt
appends_more (Some x) b c xs ys before after = let more = rw before at after in more ∙ rw (append_assoc x xs ys) refl

-- bytes appended, and then a front of more
pub appends_front_more : (a b c : Option (List ℕ)) (xs ys : List ℕ) → Appends a b xs → AppendsFront b c ys
    → AppendsFront a c (xs ++ ys)
appends_front_more a b c xs ys before (front, back, cut, more) = (
  xs ++ front,
  back,
  ap (λ (t : List ℕ). xs ++ t) cut ∙ sym (append_assoc xs front back),
  appends_more a b c xs front before more,
)

-- a front of bytes is a front of those bytes and more
pub appends_front_of_more : (a b : Option (List ℕ)) (xs ys : List ℕ) → AppendsFront a b xs → AppendsFront a b (xs ++ ys)
appends_front_of_more a b xs ys (front, back, cut, done) =
    (front, back ++ ys, ap (λ (t : List ℕ). t ++ ys) cut ∙ append_assoc front back ys, done)

-- one write of an offer
pub offer_step : (piece rest : List ℕ) (n : ℕ) (a b c : Option (List ℕ))
    → (front : List ℕ) × (piece ≡ front ++ rest) × Appends a b front → Appends b c (take n rest)
    → (front : List ℕ) × (piece ≡ front ++ take (length rest - n) (drop n rest)) × Appends a c front
offer_step piece rest n a b c (front, cut, done) more = (
  front ++ take n rest,
  cut ∙ ap (λ (t : List ℕ). front ++ t) (sym (take-append-drop n rest))
      ∙ sym (append_assoc front (take n rest) (drop n rest))
      ∙ ap (λ (t : List ℕ). (front ++ take n rest) ++ t) (sym (take_rest rest n)),
  appends_more a b c front (take n rest) done more,
)

-- the text of a list of items, cut round one of them
text_cut : {X : Type 0} (f : X → List ℕ) (items : List X) (i : ℕ) (x d : X) → i < length items → x ≡ get_or items i d
    → flat_map f items ≡ flat_map f (take i items) ++ (f x ++ flat_map f (drop (i + 1) items))
text_cut {X} f items i x d within is =
    let whole : items ≡ take i items ++ (x ∷ drop (i + 1) items) =
    sym (take-append-drop i items)
    ∙ ap (λ (t : List X). take i items ++ t) (drop_more items i d within ∙ ap (λ (y : X). y ∷ drop (i + 1) items) (sym is)) in
    ap (λ (t : List X). flat_map f t) whole ∙ flat_map-append f (take i items) (x ∷ drop (i + 1) items)

-- the text of some items appended, and then that of the next, x, which is read with any default d
pub offers_next : {X : Type 0} (f : X → List ℕ) (items : List X) (i : ℕ) (x d : X) (a b c : Option (List ℕ))
    → i < length items → x ≡ get_or items i d
    → Appends a b (flat_map f (take i items)) → Appends b c (f x) → Appends a c (flat_map f (take (i + 1) items))
offers_next {X} f items i x d a b c within is done more =
    let one_more : take (i + 1) items ≡ take i items ++ x ∷ [] =
    take_more items i d within ∙ ap (λ (y : X). take i items ++ y ∷ []) (sym is) in
    let text : flat_map f (take (i + 1) items) ≡ flat_map f (take i items) ++ f x =
    ap (λ (t : List X). flat_map f t) one_more ∙ flat_map-append f (take i items) (x ∷ [])
    ∙ ap (λ (t : List ℕ). flat_map f (take i items) ++ t) (append-nil (f x)) in
    let P : List ℕ → Type 0 = λ t. Appends a c t in
    subst P (sym text) (appends_more a b c (flat_map f (take i items)) (f x) done more)

-- the text of some items appended, and then a front of that of the next
pub offers_front : {X : Type 0} (f : X → List ℕ) (items : List X) (i : ℕ) (x d : X) (a b c : Option (List ℕ))
    → i < length items → x ≡ get_or items i d
    → Appends a b (flat_map f (take i items)) → AppendsFront b c (f x) → AppendsFront a c (flat_map f items)
offers_front {X} f items i x d a b c within is done front =
    let P : List ℕ → Type 0 = λ t. AppendsFront a c t in
    subst P (sym (text_cut f items i x d within is))
    (appends_front_more a b c (flat_map f (take i items)) (f x ++ flat_map f (drop (i + 1) items)) done
    (appends_front_of_more b c (f x) (flat_map f (drop (i + 1) items)) front))
