use Rattle.std.proofs.Common.{◌≡◌, ℕ, Bool, true, false, List, length, refl, sym, arith, Some, None}
use Rattle.std.specs.List.{position_or_len}
use Rattle.std.proofs.lemmas.List.Sums.{position_or_len_is}
use Rattle.memchr.specs.Find.{IsFirstByte, is_byte}
use Rattle.text_spec.specs.Texts.{is_feed}

not_true : (b : Bool) → (b ≡ true → ⊥) → b ≡ false
not_true true never = absurd (never refl)
not_true false never = refl

-- the first line feed that a search finds ends the first line
pub at_feed : (text : List ℕ) (at : ℕ) → IsFirstByte (is_byte 10) text (Some at) → at ≡ position_or_len is_feed text
at_feed text at found =
    sym (position_or_len_is is_feed text at 0 (omega (arith, found.0.high)) (λ k below. not_true _ (found.0.before k (omega arith) below)) (λ _. found.1))

-- where a search finds none, the first line is the whole text
pub no_feed : (text : List ℕ) → IsFirstByte (is_byte 10) text None → length text ≡ position_or_len is_feed text
no_feed text none =
    sym (position_or_len_is is_feed text (length text) 0 (omega arith) (λ k below. not_true _ (none k (omega arith) below)) (λ within. absurd (omega (arith, within))))
