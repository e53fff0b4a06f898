use Rattle.std.proofs.Common.{◌≡◌, ◌∙◌, ℕ, Bool, true, false, cond, List, [], ◌∷◌, Option, Some, refl, sym, ap, subst, inl, inr}
use Rattle.std.specs.Str.{bytes_eq}
use Rattle.std.specs.Ordering.{is_eq, nat_cmp}
use Rattle.std.specs.Cmp.{eq_by_cmp_equiv}
use Rattle.std.specs.Cmp.Lexicographic.{slice_cmp, nat_list_cmp_total, bytes_decides}
use Rattle.std.specs.BTreeMap.{BTreeMap, UpdatesBy}
use Rattle.std.specs.Map.{lookup, IsKeyTest, AreApart, KeepsOthers}
use Rattle.std.proofs.lemmas.Bool.{cases_Bool, cond-true, cond-false}
use Rattle.std.proofs.lemmas.Map.Text.{is_eq-slice_cmp}
use Rattle.name_map.specs.Names.{numbered, number_of}

look_numbered : {K : Type 0} (bytes : K → List ℕ) (q : List ℕ) (es : List (K × ℕ)) → lookup (λ k. bytes_eq q (bytes k)) es ≡ number_of (numbered bytes es) q
look_numbered bytes q [] = refl
look_numbered bytes q (e ∷ es) = ap (λ o. cond (bytes_eq q (bytes e.0)) (Some e.1) o) (look_numbered bytes q es)

-- a look-up by order is one by bytes
pub look_by_order : {K : Type 0} (bytes : K → List ℕ) (q : List ℕ) (es : List (K × ℕ))
    → lookup (λ k. is_eq (slice_cmp nat_cmp q (bytes k))) es ≡ number_of (numbered bytes es) q
look_by_order {K} bytes q es = ap (λ (test : K → Bool). lookup test es) (λ i k. is_eq-slice_cmp q (bytes k) i) ∙ look_numbered bytes q es

others : {K : Type 0} (eq : K → K → Bool) (test : K → Bool) (old new : List (K × ℕ)) → KeepsOthers eq test old new
    → (other : K → Bool) → IsKeyTest eq other → AreApart test other → lookup other new ≡ lookup other old
unfolding KeepsOthers
others eq test old new h = h

apart : (bs cs ks : List ℕ) → bytes_eq bs cs ≡ false → is_eq (slice_cmp nat_cmp bs ks) ≡ true → is_eq (slice_cmp nat_cmp cs ks) ≡ false
apart bs cs ks n y =
    let same : bs ≡ ks = (bytes_decides bs ks).0 (sym (is_eq-slice_cmp bs ks) ∙ y) in
    elim (cases_Bool (is_eq (slice_cmp nat_cmp cs ks))) [
      | inl t ↦ cc (n, (bytes_decides bs cs).1 (same ∙ sym ((bytes_decides cs ks).0 (sym (is_eq-slice_cmp cs ks) ∙ t))))
      | inr f ↦ f
    ]

at_bytes : (f g : List ℕ → Option ℕ) (bs : List ℕ) (w : Option ℕ) → g bs ≡ w → ((cs : List ℕ) → bytes_eq bs cs ≡ false → g cs ≡ f cs)
    → (cs : List ℕ) → g cs ≡ cond (bytes_eq bs cs) w (f cs)
at_bytes f g bs w here other cs =
    elim (cases_Bool (bytes_eq bs cs)) [
      | inl y ↦ subst (λ l. g l ≡ w) ((bytes_decides bs cs).0 y) here ∙ sym (cond-true (bytes_eq bs cs) w (f cs) y)
      | inr n ↦ other cs n ∙ sym (cond-false (bytes_eq bs cs) w (f cs) n)
    ]

-- a map of keys that hold bytes, after a change at some bytes
pub after_change : {K : Type 0} (bytes : K → List ℕ) (bs : List ℕ) (m n : BTreeMap K ℕ) (w : Option ℕ)
    → UpdatesBy (λ x y. slice_cmp nat_cmp (bytes x) (bytes y)) (λ k. slice_cmp nat_cmp bs (bytes k)) m n w
    → (q : List ℕ) → number_of (numbered bytes n.entries) q ≡ cond (bytes_eq bs q) w (number_of (numbered bytes m.entries) q)
after_change bytes bs m n w h =
    at_bytes (number_of (numbered bytes m.entries)) (number_of (numbered bytes n.entries)) bs w
    (sym (look_by_order bytes bs n.entries) ∙ h.1)
    (λ cs e. sym (look_by_order bytes cs n.entries)
    ∙ others _ _ m.entries n.entries h.3 (λ k. is_eq (slice_cmp nat_cmp cs (bytes k)))
    (λ x y. (eq_by_cmp_equiv nat_list_cmp_total).congr cs (bytes x) (bytes y)) (λ k. apart bs cs (bytes k) e)
    ∙ look_by_order bytes cs m.entries)
