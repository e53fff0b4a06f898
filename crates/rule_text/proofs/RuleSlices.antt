use Rattle.std.proofs.Common.{◌≡◌, ◌≤◌, ◌+◌, ◌-◌, ℕ, suc, Option, Some, None, Result, Ok, Err, List, [], ◌∷◌, arith, length, take, drop, refl, ap, ◌∙◌, inl, inr, nat_eq, IfOk, All}
use Rattle.std.proofs.lemmas.Bool.{cases_Bool, eqb-true}
use Rattle.std.proofs.lemmas.List.{length-drop, length-take-le}
use Rattle.std.proofs.lemmas.List.Elements.{All-nil, All-cons, All-weaker}
use Rattle.std.specs.Bool.{⊤}
use Rattle.text_spec.specs.declared.RuleForm.{RuleForm}
use Rattle.text_spec.specs.declared.RuleForm.TheVariants as RuleForm
use Rattle.text_spec.specs.declared.LineFault.{LineFault}
use Rattle.text_spec.specs.declared.BadLine.{BadLine}
use Rattle.text_spec.specs.Texts.{Placed, TextLine, lines_from, is_blank}
use Rattle.text_spec.specs.RuleTexts.{RuleWords, unless_fault, long_line, change_line, short_line, field, unless_bare, blank_words, line_answer, line_answers, rule_answers, before_more}
use Rattle.rule_text.specs.Slices.{LiesIn, FieldsLieIn, LiesInItsLine}
use Rattle.rule_text.proofs.WordSlices.{words_are, lies_through}
use Rattle.rule_text.proofs.Trimmed.{trimmed_lies}

-- a good line has this number, and its fields lie in this line
abbrev GoodIn : ℕ → TextLine → Result RuleWords BadLine → Type 0
GoodIn n l (Ok r) = (r.line ≡ n) × FieldsLieIn l r
GoodIn n l (Err b) = ⊤

-- an answer that is there has this number and lies in this line
abbrev AnswerIn : ℕ → TextLine → Option (Result RuleWords BadLine) → Type 0
AnswerIn n l None = ⊤
AnswerIn n l (Some a) = GoodIn n l a

-- a good line stays good, or has a fault
unless_fault_in : (n : ℕ) (l : TextLine) (f : Option LineFault) (r : RuleWords) → r.line ≡ n → FieldsLieIn l r → GoodIn n l (unless_fault n f r)
unless_fault_in n l None r same lie = (same, lie)
unless_fault_in n l (Some f) r same lie = tt

-- words that lie in the line make fields that do
long_in : (n : ℕ) (l : TextLine) (ws : List Placed) → All (LiesIn l.at l.bytes) ws → GoodIn n l (long_line n ws)
long_in n l [] lie = tt
long_in n l (s ∷ []) lie = tt
long_in n l (s ∷ o ∷ []) lie = tt
long_in n l (s ∷ o ∷ a ∷ []) lie =
    unless_fault_in n l _ (record { line = n; subject = s; object = o; allow = a; deny = None }) refl
    (record { subject = lie 0 s (omega arith); object = lie 1 s (omega arith); allow = lie 2 s (omega arith); deny = tt })
long_in n l (s ∷ o ∷ a ∷ w ∷ ws) lie = tt

change_in : (n : ℕ) (l : TextLine) (ws : List Placed) → All (LiesIn l.at l.bytes) ws → GoodIn n l (change_line n ws)
change_in n l [] lie = tt
change_in n l (s ∷ []) lie = tt
change_in n l (s ∷ o ∷ []) lie = tt
change_in n l (s ∷ o ∷ a ∷ []) lie = tt
change_in n l (s ∷ o ∷ a ∷ d ∷ []) lie =
    unless_fault_in n l _ (record { line = n; subject = s; object = o; allow = a; deny = Some d }) refl
    (record { subject = lie 0 s (omega arith); object = lie 1 s (omega arith); allow = lie 2 s (omega arith); deny = lie 3 s (omega arith) })
change_in n l (s ∷ o ∷ a ∷ d ∷ w ∷ ws) lie = tt

unless_bare_in : (n : ℕ) (l : TextLine) (ws : List Placed) (a : Result RuleWords BadLine) → GoodIn n l a → AnswerIn n l (unless_bare ws a)
unless_bare_in n l [] a good = tt
unless_bare_in n l (w ∷ ws) a good = good

-- the field of a line lies in it
field_lies : (from len : ℕ) (l : TextLine) → from + len ≤ length l.bytes → LiesIn l.at l.bytes (field from len l)
field_lies from len l within =
    let size : length (take len (drop from l.bytes)) ≡ len = length-take-le len (drop from l.bytes) (omega (arith, length-drop from l.bytes)) in
    let outer : LiesIn l.at l.bytes (record { at = l.at + from; bytes = take len (drop from l.bytes) }) =
    record {
      from = omega arith;
      within = omega (arith, size);
      bytes = ap (λ i. take i (drop (l.at + from - l.at) l.bytes)) size ∙ ap (λ i. take len (drop i l.bytes)) (let same : l.at + from - l.at ≡ from = omega arith in same);
    } in
    lies_through l.at l.bytes (record { at = l.at + from; bytes = take len (drop from l.bytes) }) outer (field from len l)
    (trimmed_lies (record { at = l.at + from; bytes = take len (drop from l.bytes) }))

short_in : (n : ℕ) (l : TextLine) → GoodIn n l (short_line n l)
short_in n l =
    elim (cases_Bool (nat_eq (length l.bytes) 53)) [
      | inl e ↦
          let size : length l.bytes ≡ 53 = eqb-true (length l.bytes) 53 e in
          simp e
          (unless_fault_in n l _ (record { line = n; subject = field 0 24 l; object = field 24 24 l; allow = field 48 5 l; deny = None }) refl
          (record {
            subject = field_lies 0 24 l (omega arith);
            object = field_lies 24 24 l (omega arith);
            allow = field_lies 48 5 l (omega arith);
            deny = tt;
          }))
      | inr e ↦ simp e tt
    ]

-- the answer of a line of any form
answer_in : (form : RuleForm) (n : ℕ) (l : TextLine) → AnswerIn n l (line_answer form n l)
answer_in RuleForm.Long n l = unless_bare_in n l (blank_words l) (long_line n (blank_words l)) (long_in n l (blank_words l) (words_are is_blank l.at l.bytes))
answer_in RuleForm.Change n l = unless_bare_in n l (blank_words l) (change_line n (blank_words l)) (change_in n l (blank_words l) (words_are is_blank l.at l.bytes))
answer_in RuleForm.Short n l =
    elim (cases_Bool (nat_eq (length l.bytes) 0)) [
      | inl e ↦ simp e tt
      | inr e ↦ simp e (short_in n l)
    ]

-- what lies in the first line, and in the lines behind it
in_first : (n : ℕ) (l : TextLine) (ls : List TextLine) (r : RuleWords) → r.line ≡ n → FieldsLieIn l r → LiesInItsLine n (l ∷ ls) r
in_first n l ls r same lie = record {
  from = omega arith;
  fields = let none : r.line - n ≡ 0 = omega arith in rw none lie;
}

in_rest : (n : ℕ) (l : TextLine) (ls : List TextLine) (r : RuleWords) → LiesInItsLine (n + 1) ls r → LiesInItsLine n (l ∷ ls) r
in_rest n l ls r lies = record {
  from = omega (arith, lies.from);
  fields = let more : r.line - n ≡ suc (r.line - (n + 1)) = omega (arith, lies.from) in rw more lies.fields;
}

answer_in_rest : (n : ℕ) (l : TextLine) (ls : List TextLine) (a : Result RuleWords BadLine) → IfOk a (LiesInItsLine (n + 1) ls) → IfOk a (LiesInItsLine n (l ∷ ls))
answer_in_rest n l ls (Ok r) lies = in_rest n l ls r lies
answer_in_rest n l ls (Err b) lies = tt

-- the answers of a line and of those behind it
before_more_in : (n : ℕ) (l : TextLine) (ls : List TextLine) (a : Option (Result RuleWords BadLine)) (more : List (Result RuleWords BadLine))
    → AnswerIn n l a → All (λ b. IfOk b (LiesInItsLine (n + 1) ls)) more → All (λ b. IfOk b (LiesInItsLine n (l ∷ ls))) (before_more a more)
before_more_in n l ls None more good rest =
    All-weaker (λ b. IfOk b (LiesInItsLine (n + 1) ls)) (λ b. IfOk b (LiesInItsLine n (l ∷ ls))) (answer_in_rest n l ls) more rest
before_more_in n l ls (Some (Ok r)) more good rest =
    All-cons (λ b. IfOk b (LiesInItsLine n (l ∷ ls))) (Ok r) more (in_first n l ls r good.0 good.1)
    (All-weaker (λ b. IfOk b (LiesInItsLine (n + 1) ls)) (λ b. IfOk b (LiesInItsLine n (l ∷ ls))) (answer_in_rest n l ls) more rest)
before_more_in n l ls (Some (Err e)) more good rest =
    All-cons (λ b. IfOk b (LiesInItsLine n (l ∷ ls))) (Err e) [] tt (All-nil (λ b. IfOk b (LiesInItsLine n (l ∷ ls))))

-- each field of a good line lies in the line of its number
pub fields_lie : (form : RuleForm) (n : ℕ) (ls : List TextLine) → All (λ b. IfOk b (LiesInItsLine n ls)) (line_answers form n ls)
fields_lie form n [] = All-nil (λ b. IfOk b (LiesInItsLine n []))
fields_lie form n (l ∷ ls) =
    before_more_in n l ls (line_answer form n l) (line_answers form (n + 1) ls) (answer_in form n l) (fields_lie form (n + 1) ls)

-- each field of a good line of a text lies in the line of its number
pub rules_in_lines : (form : RuleForm) (text : List ℕ) → All (λ b. IfOk b (LiesInItsLine 1 (lines_from 0 text))) (rule_answers form text)
rules_in_lines form text = fields_lie form 1 (lines_from 0 text)
