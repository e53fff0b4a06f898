use Rattle.std.proofs.Common.{◌≡◌, ◌≤◌, ℕ, Bool, List, [], ◌∷◌, length, refl, sym, Some, None, Ok, Err, true, false, inl, inr, arith}
use Rattle.std.specs.Prelude.{Option, Result, IfSome, nat_lt, nat_eq, not, ◌==◌, ◌||◌, position}
use Rattle.std.specs.Option.{option_map}
use Rattle.std.proofs.lemmas.Bool.{cases_Bool, le-ltb}
use Rattle.std.specs.List.{position_or_len}
use Rattle.smack_base.specs.Modes.{is_letter, is_either_case, letter_b, dash}
use Rattle.rule_text.proofs.Places.{no_place, one_more}
use Rattle.smack_base.specs.Labels.{label_fault}
use Rattle.smack_base.specs.Modes.{bad_letter}
use Rattle.smack_base.specs.declared.label.LabelFault.{LabelFault}
use Rattle.text_spec.specs.declared.LineFault.{LineFault}
use Rattle.text_spec.specs.declared.LineFault.TheVariants as LineFault
use Rattle.text_spec.specs.declared.BadLine.{BadLine}
use Rattle.text_spec.specs.declared.RuleForm.{RuleForm}
use Rattle.text_spec.specs.declared.RuleForm.TheVariants as RuleForm
use Rattle.text_spec.specs.Texts.{Placed, TextLine}
use Rattle.text_spec.specs.RuleTexts.{RuleWords, unless_fault, first_fault, unless_bare, line_answer, long_line, change_line, short_line, short_fields, short_label_fault, is_short_letter, short_bad_letter, blank_words, field, deny_fault}
use Rattle.rule_text.specs.declared.rule_line.RuleLine.{RuleLine}
use Rattle.rule_text.specs.RuleAnswers.{answer_seen, IsGood}

-- the fields of a line, as runs of bytes, have no fault
pub record AreGood (r : RuleWords) : Type 0 where
  pub subject : label_fault r.subject.bytes ≡ None
  pub object : label_fault r.object.bytes ≡ None
  pub allow : bad_letter r.allow.bytes ≡ None

-- a line without a fault
no_fault : (s o : Option LabelFault) (a : Option ℕ) (more : List (Option LineFault)) (n : ℕ) (r r' : RuleWords)
    → unless_fault n (first_fault (option_map (λ f. LineFault.Subject f) s ∷ option_map (λ f. LineFault.Object f) o ∷ option_map (λ at. LineFault.Allow at) a ∷ more)) r ≡ Ok r'
    → (s ≡ None) × (o ≡ None) × (a ≡ None)
no_fault (Some f) o a more n r r' e = cc
no_fault None (Some f) a more n r r' e = cc
no_fault None None (Some at) more n r r' e = cc
no_fault None None None more n r r' e = (refl, refl, refl)

same_line : (n : ℕ) (fault : Option LineFault) (r r' : RuleWords) → unless_fault n fault r ≡ Ok r' → r ≡ r'
same_line n None r r' e = cc
same_line n (Some f) r r' e = cc

long_good : (n : ℕ) (ws : List Placed) (r : RuleWords) → long_line n ws ≡ Ok r → AreGood r
long_good n [] r e = cc
long_good n (s ∷ []) r e = cc
long_good n (s ∷ o ∷ []) r e = cc
long_good n (s ∷ o ∷ a ∷ []) r e =
    let none = no_fault (label_fault s.bytes) (label_fault o.bytes) (bad_letter a.bytes) [] n _ r e in
    let same = same_line n _ _ r e in
    rw (← same) (record { subject = none.0; object = none.1; allow = none.2 })
long_good n (s ∷ o ∷ a ∷ d ∷ ws) r e = cc

change_good : (n : ℕ) (ws : List Placed) (r : RuleWords) → change_line n ws ≡ Ok r → AreGood r
change_good n [] r e = cc
change_good n (s ∷ []) r e = cc
change_good n (s ∷ o ∷ []) r e = cc
change_good n (s ∷ o ∷ a ∷ []) r e = cc
change_good n (s ∷ o ∷ a ∷ d ∷ []) r e =
    let none = no_fault (label_fault s.bytes) (label_fault o.bytes) (bad_letter a.bytes) (deny_fault d ∷ []) n _ r e in
    let same = same_line n _ _ r e in
    rw (← same) (record { subject = none.0; object = none.1; allow = none.2 })
change_good n (s ∷ o ∷ a ∷ d ∷ w ∷ ws) r e = cc

-- a test that passes more often passes earlier
earlier : (p q : ℕ → Bool) → ((b : ℕ) → p b ≡ true → q b ≡ true) → (bs : List ℕ) → position_or_len q bs ≤ position_or_len p bs
earlier p q more [] = omega arith
earlier p q more (b ∷ bs) =
    elim (cases_Bool (p b)) [
      | inl e ↦ simp (e, more b e) (omega arith)
      | inr e ↦ elim (cases_Bool (q b)) [
        | inl d ↦ simp (e, d) (omega arith)
        | inr d ↦ simp (e, d, one_more) (omega (arith, earlier p q more bs))
      ]
    ]

none_earlier : (p q : ℕ → Bool) → ((b : ℕ) → p b ≡ true → q b ≡ true) → (bs : List ℕ) → position q bs ≡ None → position p bs ≡ None
none_earlier p q more bs none =
    let far : length bs ≤ position_or_len p bs = omega (arith, no_place q bs none, earlier p q more bs) in
    rw (le-ltb (position_or_len p bs) (length bs) far) refl

short_label_good : (text : List ℕ) → short_label_fault text ≡ None → label_fault text ≡ None
short_label_good text none =
    elim (cases_Bool (nat_lt 23 (length text))) [
      | inl e ↦ cc (simp e at none)
      | inr e ↦ simp e at none
    ]

-- what is one of more letters or a dash
one_of_more : (some more dash : Bool) → not ((some || more) || dash) ≡ true → not (some || dash) ≡ true
one_of_more true more dash e = e
one_of_more false true dash e = cc
one_of_more false false dash e = e

short_modes_good : (text : List ℕ) → short_bad_letter text ≡ None → bad_letter text ≡ None
short_modes_good text none = none_earlier (λ b. not (is_letter b)) (λ b. not (is_short_letter b)) (λ b e. one_of_more _ (is_either_case letter_b b) (b == dash) e) text none

short_good : (n : ℕ) (l : TextLine) (r : RuleWords) → short_line n l ≡ Ok r → AreGood r
short_good n l r e =
    elim (cases_Bool (nat_eq (length l.bytes) 53)) [
      | inl wide ↦ fields (field 0 24 l) (field 24 24 l) (field 48 5 l) (simp wide at e)
      | inr other ↦ cc (simp other at e)
    ]
  where
    fields : (s o a : Placed) → short_fields n s o a ≡ Ok r → AreGood r
    fields s o a e =
        let none = no_fault (short_label_fault s.bytes) (short_label_fault o.bytes) (short_bad_letter a.bytes) [] n _ r e in
        let same = same_line n _ _ r e in
        rw (← same) (record {
          subject = short_label_good s.bytes none.0;
          object = short_label_good o.bytes none.1;
          allow = short_modes_good a.bytes none.2;
        })

not_bare : (ws : List Placed) (answer : Result RuleWords BadLine) (r : RuleWords) → unless_bare ws answer ≡ Some (Ok r) → answer ≡ Ok r
not_bare [] answer r e = cc
not_bare (w ∷ ws) answer r e = cc

pub answer_good : (form : RuleForm) (n : ℕ) (l : TextLine) (r : RuleWords) → line_answer form n l ≡ Some (Ok r) → AreGood r
answer_good RuleForm.Long n l r e = long_good n (blank_words l) r (not_bare (blank_words l) _ r e)
answer_good RuleForm.Change n l r e = change_good n (blank_words l) r (not_bare (blank_words l) _ r e)
answer_good RuleForm.Short n l r e =
    elim (cases_Bool (nat_eq (length l.bytes) 0)) [
      | inl none ↦ cc (simp none at e)
      | inr some ↦ let is : Some (short_line n l) ≡ Some (Ok r) = simp some at e in short_good n l r cc
    ]

-- a good line that is read has good fields
pub good_read : (form : RuleForm) (n : ℕ) (l : TextLine) (read : Option (Result RuleLine BadLine)) → option_map answer_seen read ≡ line_answer form n l
    → IfSome read IsGood
good_read form n l None e = tt
good_read form n l (Some (Err b)) e = tt
good_read form n l (Some (Ok r)) e =
    let good = answer_good form n l _ (sym e) in
    record { subject = good.subject; object = good.object; allow = good.allow }
