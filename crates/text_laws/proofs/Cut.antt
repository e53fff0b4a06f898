use Rattle.std.proofs.Common.{◌≡◌, ◌<◌, ℕ, true, nat_le, List, [], ◌∷◌, ◌++◌, refl, sym, ap, ◌∙◌, append_assoc, arith}
use Rattle.std.proofs.lemmas.Bool.{and_parts, leb-true}
use Rattle.log_spec.specs.Words.{words, feed, line}
use Rattle.text_laws.proofs.Clean.{is_above, is_clean, AreClean}

-- equal lists have equal heads and equal tails
pub same_parts : {A : Type 0} (x y : A) (xs ys : List A) → x ∷ xs ≡ y ∷ ys → (x ≡ y) × (xs ≡ ys)
same_parts x y xs ys same = (cc, cc)

-- a byte that is below a bound is no byte of a text that is above it
not_within : (low b c : ℕ) (cs : List ℕ) → b < low → is_above low (c ∷ cs) ≡ true → b ≡ c → ⊥
not_within low b c cs below above same =
    let least = leb-true low c (and_parts (nat_le low c) (is_above low cs) above).0 in
    omega (arith, least, same)

-- two texts end at the first byte below a bound
pub cut_word : (low : ℕ) (a b : List ℕ) (x y : ℕ) (r s : List ℕ) → is_above low a ≡ true → is_above low b ≡ true → x < low → y < low
    → a ++ x ∷ r ≡ b ++ y ∷ s → (a ≡ b) × (x ≡ y) × (r ≡ s)
cut_word low [] [] x y r s above above' below below' same = (refl, (same_parts x y r s same).0, (same_parts x y r s same).1)
cut_word low [] (d ∷ ds) x y r s above above' below below' same =
    absurd (not_within low x d ds below above' (same_parts x d r (ds ++ y ∷ s) same).0)
cut_word low (c ∷ cs) [] x y r s above above' below below' same =
    absurd (not_within low y c cs below' above (sym (same_parts c y (cs ++ x ∷ r) s same).0))
cut_word low (c ∷ cs) (d ∷ ds) x y r s above above' below below' same =
    let parts = same_parts c d (cs ++ x ∷ r) (ds ++ y ∷ s) same in
    let rest = cut_word low cs ds x y r s (and_parts (nat_le low c) (is_above low cs) above).1 (and_parts (nat_le low d) (is_above low ds) above').1 below below' parts.1 in
    ((λ i. parts.0 i ∷ rest.0 i), rest.1, rest.2)

-- words, each behind a space, a line feed, and what stands behind the line
abbrev after_words : List (List ℕ) → List ℕ → List ℕ
after_words [] r = 10 ∷ r
after_words (w ∷ ws) r = 32 ∷ (w ++ after_words ws r)

-- the words of a line, its end and what stands behind it, joined from the right
words_are : (ws : List (List ℕ)) (r : List ℕ) → words ws ++ (feed ++ r) ≡ after_words ws r
words_are [] r = refl
words_are (w ∷ ws) r = (λ i. 32 ∷ append_assoc w (words ws) (feed ++ r) i) ∙ (λ i. 32 ∷ (w ++ words_are ws r i))

line_is : (first : List ℕ) (ws : List (List ℕ)) (r : List ℕ) → line first ws ++ r ≡ first ++ after_words ws r
line_is first ws r =
    append_assoc (first ++ words ws) feed r ∙ append_assoc first (words ws) (feed ++ r) ∙ ap (λ t. first ++ t) (words_are ws r)

-- a word that ends its line is none that a word follows
no_space : (a b r s : List ℕ) → is_clean a ≡ true → is_clean b ≡ true → a ++ 10 ∷ r ≡ b ++ 32 ∷ s → ⊥
no_space a b r s clean clean' same =
    let breaks = (cut_word 33 a b 10 32 r s clean clean' (omega arith) (omega arith) same).1 in omega (arith, breaks)

-- the words of a line, of which one is begun, tell the words and what stands behind the line
cut_words : (a b : List ℕ) (ws vs : List (List ℕ)) (r s : List ℕ) → is_clean a ≡ true → is_clean b ≡ true → AreClean ws → AreClean vs
    → a ++ after_words ws r ≡ b ++ after_words vs s → (a ≡ b) × (ws ≡ vs) × (r ≡ s)
cut_words a b [] [] r s clean clean' more more' same =
    let cut = cut_word 33 a b 10 10 r s clean clean' (omega arith) (omega arith) same in (cut.0, refl, cut.2)
cut_words a b [] (v ∷ vs) r s clean clean' more more' same = absurd (no_space a b r (v ++ after_words vs s) clean clean' same)
cut_words a b (w ∷ ws) [] r s clean clean' more more' same = absurd (no_space b a s (w ++ after_words ws r) clean' clean (sym same))
cut_words a b (w ∷ ws) (v ∷ vs) r s clean clean' more more' same =
    let cut = cut_word 33 a b 32 32 (w ++ after_words ws r) (v ++ after_words vs s) clean clean' (omega arith) (omega arith) same in
    let rest = cut_words w v ws vs r s more.0 more'.0 more.1 more'.1 cut.2 in
    (cut.0, (λ i. rest.0 i ∷ rest.1 i), rest.2)

-- a line of clean words tells its words and what stands behind it
pub cut_line : (first : List ℕ) (ws vs : List (List ℕ)) (r s : List ℕ) → is_clean first ≡ true → AreClean ws → AreClean vs
    → line first ws ++ r ≡ line first vs ++ s → (ws ≡ vs) × (r ≡ s)
cut_line first ws vs r s clean more more' same =
    let cut = cut_words first first ws vs r s clean clean more more' (sym (line_is first ws r) ∙ same ∙ line_is first vs s) in
    (cut.1, cut.2)
