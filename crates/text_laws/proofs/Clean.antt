use Rattle.std.proofs.Common.{◌≡◌, ◌≤◌, ℕ, Bool, true, false, ◌&&◌, ◌||◌, ◌==◌, nat_le, length, List, [], ◌∷◌, ◌++◌, refl, sym, subst, arith}
use Rattle.std.specs.List.{AllByRecursion, list_all}
use Rattle.std.proofs.lemmas.Bool.{and_parts, and_from, leb-true, le-leb, eqb-true}
use Rattle.smack_base.specs.Labels.{is_label}
use Rattle.smack_base.specs.Paths.{is_name_byte}
use Rattle.verb_spec.specs.Words.{is_digit, is_task_byte, is_task_name}
use Rattle.log_spec.specs.Audits.{is_word}
use Rattle.log_spec.specs.Shown.{plain_words, spelled}
use Rattle.log_spec.proofs.Spelling.{plain_spelled}
use Rattle.log_spec.proofs.PrintedBytes.{all_weaker, label_bytes}

-- no byte of a text is below this one
abbrev pub is_above : ℕ → List ℕ → Bool
is_above low text = list_all (nat_le low) text

-- a text has no space and no line feed
abbrev pub is_clean : List ℕ → Bool
is_clean text = is_above 33 text

abbrev pub AreClean : List (List ℕ) → Type 0
AreClean texts = AllByRecursion (λ text. is_clean text ≡ true) texts

-- what has no byte below a bound has none below a lower one
pub above_less : (low high : ℕ) (text : List ℕ) → low ≤ high → is_above high text ≡ true → is_above low text ≡ true
above_less low high text less above =
    all_weaker (nat_le high) (nat_le low) (λ b at. le-leb low b (omega (arith, leb-true high b at))) text above

-- two texts, one behind the other
above_behind : (low : ℕ) (front back : List ℕ) → is_above low front ≡ true → is_above low back ≡ true → is_above low (front ++ back) ≡ true
above_behind low [] back first second = second
above_behind low (b ∷ bs) back first second =
    let parts = and_parts (nat_le low b) (is_above low bs) first in
    and_from (nat_le low b) (is_above low (bs ++ back)) parts.0 (above_behind low bs back parts.1 second)

pub clean_behind : (front back : List ℕ) → is_clean front ≡ true → is_clean back ≡ true → is_clean (front ++ back) ≡ true
clean_behind front back first second = above_behind 33 front back first second

-- plain words, spelled
pub plain_clean : (labels names texts : List (List ℕ)) → AreClean texts → AreClean (spelled labels names (plain_words texts))
plain_clean labels names texts clean = subst AreClean (sym (plain_spelled labels names texts)) clean

-- words of bytes from ! to ~
pub name_bytes_clean : (text : List ℕ) → list_all is_name_byte text ≡ true → is_clean text ≡ true
name_bytes_clean text all = all_weaker is_name_byte (nat_le 33) (λ b is. (and_parts (nat_le 33 b) (nat_le b 126) is).0) text all

pub label_clean : (text : List ℕ) → is_label text ≡ true → is_clean text ≡ true
label_clean text is = name_bytes_clean text (label_bytes text is)

either_gives : (p q r : Bool) → (p ≡ true → r ≡ true) → (q ≡ true → r ≡ true) → (p || q) ≡ true → r ≡ true
either_gives true q r first second is = first refl
either_gives false q r first second is = second is

from_bound : (low b high : ℕ) → 33 ≤ low → (nat_le low b && nat_le b high) ≡ true → nat_le 33 b ≡ true
from_bound low b high least is = le-leb 33 b (omega (arith, least, leb-true low b (and_parts (nat_le low b) (nat_le b high) is).0))

-- a letter, a digit or an underscore is above a space
task_byte_above : (b : ℕ) → is_task_byte b ≡ true → nat_le 33 b ≡ true
task_byte_above b is =
    let digit = from_bound 48 b 57 (omega arith) in
    let capital = from_bound 65 b 90 (omega arith) in
    let small = from_bound 97 b 122 (omega arith) in
    either_gives _ (b == 95) (nat_le 33 b)
    (either_gives _ (nat_le 97 b && nat_le b 122) (nat_le 33 b)
    (either_gives (is_digit b) (nat_le 65 b && nat_le b 90) (nat_le 33 b) digit capital) small)
    (λ e. le-leb 33 b (omega (arith, eqb-true b 95 e))) is

pub task_name_clean : (text : List ℕ) → is_task_name text ≡ true → is_clean text ≡ true
task_name_clean text is =
    all_weaker is_task_byte (nat_le 33) task_byte_above text
    (and_parts (nat_le 1 (length text) && nat_le (length text) 16) (list_all is_task_byte text) is).1

-- the bytes of a word are from ! to ~
pub word_bytes : (text : List ℕ) → is_word text ≡ true → list_all is_name_byte text ≡ true
word_bytes text is = (and_parts (nat_le 1 (length text)) (list_all is_name_byte text) is).1
