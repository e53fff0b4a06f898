use Rattle.std.proofs.Common.{◌≡◌, ◌<◌, ◌+◌, ◌-◌, ◌*◌, ℕ, zero, suc, Bool, true, false, ◌&&◌, not, cond, nat_le, nat_lt, List, [], ◌∷◌, ◌++◌, Option, Some, None, codes, refl, sym, ap, ◌∙◌, append_assoc, arith, subst}
use Rattle.std.specs.List.{list_all}
use Rattle.std.proofs.lemmas.Bool.{and_parts, and_from, lt-ltb, ltb-true, ne_eqb}
use Rattle.verb_spec.specs.Words.{is_digit, value_from, has_zero_in_front, is_decimal, number_of, if_signal, signal_of}
use Rattle.log_spec.specs.Numerals.{numeral}
use Rattle.log_spec.specs.Words.{call_number, version_word}
use Rattle.log_spec.proofs.Numerals.{value_from as value_of_digits, numeral_read, numeral_injective, numeral_digits, numeral_leads, numeral_of_zero}
use Rattle.log_spec.proofs.PrintedBytes.{all_weaker, numeral_bytes}
use Rattle.replay_spec.proofs.ReadValues.{IsReadBy}
use Rattle.text_laws.proofs.Clean.{is_above, is_clean, name_bytes_clean, clean_behind}
use Rattle.text_laws.proofs.Cut.{cut_word, same_parts}

-- a printed number has digits alone
numeral_above : (n : ℕ) → is_above 48 (numeral n) ≡ true
numeral_above n =
    all_weaker is_digit (nat_le 48) (λ b is. (and_parts (nat_le 48 b) (nat_le b 57) is).0) (numeral n) (numeral_digits n)

pub numeral_clean : (n : ℕ) → is_clean (numeral n) ≡ true
numeral_clean n = name_bytes_clean (numeral n) (numeral_bytes n)

-- the number that a word is
abbrev pub number_in : List ℕ → ℕ
number_in text = value_of_digits 0 text

pub number_read : (n : ℕ) → number_in (numeral n) ≡ n
number_read n = numeral_read n

same_value : (n : ℕ) (bs : List ℕ) → value_from n bs ≡ value_of_digits n bs
same_value n [] = refl
same_value n (b ∷ bs) = same_value (n * 10 + (b - 48)) bs

-- a text that begins with another digit than 0 has no zero in front
no_zero : (b : ℕ) (bs : List ℕ) → 48 < b → has_zero_in_front (b ∷ bs) ≡ false
no_zero b [] leads = refl
no_zero b (c ∷ cs) leads = ne_eqb b 48 (λ e. omega (arith, leads, e))

-- a printed number is one of a script
numeral_is_decimal : (n : ℕ) → is_decimal (numeral n) ≡ true
numeral_is_decimal zero = ap is_decimal numeral_of_zero
numeral_is_decimal (suc n) =
    let leads = numeral_leads (suc n) (omega arith) in
    let digits : list_all is_digit (leads.0 ∷ leads.1) ≡ true = sym (ap (list_all is_digit) leads.2) ∙ numeral_digits (suc n) in
    ap is_decimal leads.2 ∙ and_from _ _ digits (ap not (no_zero leads.0 leads.1 leads.3))

number_again_below : (n : ℕ) → n < 4294967296 → number_of (numeral n) ≡ Some n
number_again_below n below =
    let value : value_from 0 (numeral n) ≡ n = same_value 0 (numeral n) ∙ numeral_read n in
    rw (numeral_is_decimal n, value, lt-ltb n 4294967296 below) refl

-- a number that a word of a script is has 32 bits
number_below : (word : List ℕ) (n : ℕ) → number_of word ≡ Some n → n < 4294967296
number_below word n is = by (is_decimal word && nat_lt (value_from 0 word) 4294967296) refl is
  where
    by : (good : Bool) → (is_decimal word && nat_lt (value_from 0 word) 4294967296) ≡ good → cond good (Some (value_from 0 word)) None ≡ Some n → n < 4294967296
    by true good is =
        let same : value_from 0 word ≡ n = cc in
        let below = ltb-true (value_from 0 word) 4294967296 (and_parts (is_decimal word) (nat_lt (value_from 0 word) 4294967296) good).1 in
        omega (arith, same, below)
    by false good is = absurd cc

-- a number that a word is, printed, is read again
pub number_again : (n : ℕ) → IsReadBy number_of n → number_of (numeral n) ≡ Some n
number_again n read = number_again_below n (number_below read.0 n read.1)

-- a signal is a number of its range
signal_parts : (number : Option ℕ) (sig : ℕ) → if_signal number ≡ Some sig → (number ≡ Some sig) × (if_signal (Some sig) ≡ Some sig)
signal_parts None sig is = absurd cc
signal_parts (Some n) sig is = by (nat_le 1 n && nat_le n 31) refl is
  where
    by : (good : Bool) → (nat_le 1 n && nat_le n 31) ≡ good → cond good (Some n) None ≡ Some sig → (◌≡◌ {A = Option ℕ} (Some n) (Some sig)) × (if_signal (Some sig) ≡ Some sig)
    by true good is =
        let same : n ≡ sig = cc in
        (is, subst (λ s. if_signal (Some s) ≡ Some s) same (rw good refl))
    by false good is = absurd cc

-- and so is a signal
pub signal_again : (sig : ℕ) → IsReadBy signal_of sig → signal_of (numeral sig) ≡ Some sig
signal_again sig read =
    let parts = signal_parts (number_of read.0) sig read.1 in
    ap if_signal (number_again sig (read.0, parts.0)) ∙ parts.1

pub version_clean : (n : ℕ) → is_clean (version_word n) ≡ true
version_clean n = numeral_clean n

-- the word of a version tells it
pub version_told : (version version' : ℕ) → version_word version ≡ version_word version' → version ≡ version'
version_told version version' same = numeral_injective version version' (same_parts 118 118 (numeral version) (numeral version') same).1

pub call_number_clean : (task seq : ℕ) → is_clean (call_number task seq) ≡ true
call_number_clean task seq = clean_behind (numeral task ++ codes ".") (numeral seq) (clean_behind (numeral task) (codes ".") (numeral_clean task) refl) (numeral_clean seq)

-- the number of a call tells its task and its place in the task
pub call_number_told : (task task' seq seq' : ℕ) → call_number task seq ≡ call_number task' seq' → (task ≡ task') × (seq ≡ seq')
call_number_told task task' seq seq' same =
    let cut = cut_word 48 (numeral task) (numeral task') 46 46 (numeral seq) (numeral seq') (numeral_above task) (numeral_above task') (omega arith) (omega arith)
    (sym (append_assoc (numeral task) (codes ".") (numeral seq)) ∙ same ∙ append_assoc (numeral task') (codes ".") (numeral seq')) in
    (numeral_injective task task' cut.0, numeral_injective seq seq' cut.2)
