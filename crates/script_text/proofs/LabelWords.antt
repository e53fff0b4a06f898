use Rattle.std.proofs.Common.{◌≡◌, ◌≤◌, ◌<◌, ◌+◌, ℕ, Bool, true, false, List, [], ◌∷◌, ◌++◌, length, get_or, refl, arith, Option, Some, None}
use Rattle.std.specs.Prelude.{map, ◌&&◌, if◌then◌else◌}
use Rattle.std.specs.List.{list_all}
use Rattle.std.proofs.lemmas.Grind.{fold-append}
use Rattle.smack_base.specs.Labels.{is_label}
use Rattle.text_spec.specs.Texts.{Placed}
use Rattle.text_spec.specs.Names.{with_name, with_names}
use Rattle.rule_text.specs.declared.part.Part.{Part}
use Rattle.rule_text.specs.Parts.{placed}
use Rattle.verb_spec.specs.declared.WordKind.{WordKind}
use Rattle.verb_spec.specs.Kinds.{bad_word, is_of_kind, label_words}
use Rattle.script_text.specs.Spelled.{AreLabels}
use Rattle.script_text.proofs.WriteNames.{with_names-longer}

pub and_left : (x y : Bool) → (x && y) ≡ true → x ≡ true
and_left true y e = refl
and_left false y e = e

pub and_right : (x y : Bool) → (x && y) ≡ true → y ≡ true
and_right true y e = e
and_right false y e = cc

-- the labels left of some, put into the one table, make what all make of the other
pub record AddsLabels (table left first whole : List (List ℕ)) : Type 0 where
  pub are : list_all is_label left ≡ true
  pub same : with_names table left ≡ with_names first whole

-- a table that one label makes too long is too long with all
label_many : (table left first whole : List (List ℕ)) (n : List ℕ) (most : ℕ) → AddsLabels table (n ∷ left) first whole
    → most < length (with_name table n) → most < length (with_names first whole)
label_many table left first whole n most adds many =
    rw (← adds.same) (omega (arith, many, with_names-longer (with_name table n) left))

pub first_many : (table first whole : List (List ℕ)) (kinds : List WordKind) (words : List Part) (k : WordKind) (w : Part) (most : ℕ)
    → 1 ≤ length kinds → 1 ≤ length words → get_or kinds 0 k ≡ WordKind.Label → AddsLabels table (label_words kinds (map placed words)) first whole
    → most < length (with_name table (get_or words 0 w).bytes.now) → most < length (with_names first whole)
first_many table first whole [] words k w most some there is adds many = absurd (omega (arith, some))
first_many table first whole (l ∷ ks) [] k w most some there is adds many = absurd (omega (arith, there))
first_many table first whole (l ∷ ks) (v ∷ vs) k w most some there is adds many =
    label_many table (label_words ks (map placed vs)) first whole v.bytes.now most (rw is at adds) many

-- a word before a first bad one is of its kind
word_good : (is : Bool) (n : ℕ) (more : Option ℕ) → (if is then more else Some n) ≡ None → (is ≡ true) × (more ≡ None)
word_good true n more e = (refl, e)
word_good false n more e = cc

kind_good : (n : ℕ) (k : WordKind) (w : Placed) (ks : List WordKind) (ws : List Placed) → bad_word n (k ∷ ks) (w ∷ ws) ≡ None
    → (is_of_kind k w.bytes ≡ true) × (bad_word (n + 1) ks ws ≡ None)
kind_good n k w ks ws e = word_good (is_of_kind k w.bytes) n (bad_word (n + 1) ks ws) e

-- no word stands for a label where there is none
no_words : (ks : List WordKind) → label_words ks [] ≡ []
no_words [] = refl
no_words (WordKind.Label ∷ ks) = refl
no_words (k ∷ ks) = refl

-- of words of their kinds, those that stand for labels are labels
pub label_words_good : (n : ℕ) (ks : List WordKind) (ws : List Placed) → bad_word n ks ws ≡ None → AreLabels (label_words ks ws)
label_words_good n [] ws e = refl
label_words_good n (k ∷ ks) [] e = rw (no_words (k ∷ ks)) refl
label_words_good n (WordKind.Label ∷ ks) (w ∷ ws) e =
    let good = kind_good n WordKind.Label w ks ws e in
    rw (good.0) (label_words_good (n + 1) ks ws (good.1))
label_words_good n (k ∷ ks) (w ∷ ws) e = label_words_good (n + 1) ks ws (kind_good n k w ks ws e).1
