use Rattle.std.proofs.Common.{◌≡◌, ℕ, length, map, codes, List, [], ◌∷◌, ◌++◌, refl, sym, ap, ◌∙◌, append_assoc}
use Rattle.rules_spec.specs.declared.Batch.{Batch}
use Rattle.log_spec.specs.Numerals.{numeral}
use Rattle.log_spec.specs.Words.{call_number}
use Rattle.log_spec.specs.Shown.{spell_line}
use Rattle.record_spec.specs.Show.{spelled_text, op_line, batch_head, batch_lines}
use Rattle.text_spec.specs.Names.{IsLabelTable}
use Rattle.replay_spec.specs.Plain.{IsPlainOp, IsPlainBatch}
use Rattle.text_laws.proofs.Clean.{AreClean}
use Rattle.text_laws.proofs.Cut.{cut_line}
use Rattle.text_laws.proofs.Turns.{Tells, BeginsNot, turns, first_byte, turns_tell, each_is_turn}
use Rattle.text_laws.proofs.Numbers.{numeral_clean, call_number_clean, call_number_told}
use Rattle.text_laws.proofs.Told.{word_at}
use Rattle.text_laws.proofs.RuleWrites.{op_told}

-- the byte with which each rule write begins
abbrev pub write_tag : ℕ
write_tag = first_byte (codes "o")

abbrev pub batch_text : List (List ℕ) → List (List ℕ) → ℕ → Batch → List ℕ
batch_text labels names version b = spelled_text labels names (batch_lines version b)

abbrev writes_text : List (List ℕ) → List (List ℕ) → Batch → List ℕ
writes_text labels names b = turns (λ n op. spell_line labels names (op_line op)) 1 b.ops

abbrev head_words : ℕ → Batch → List (List ℕ)
head_words version b = numeral version ∷ call_number b.task b.seq ∷ numeral (length b.ops) ∷ []

head_clean : (version : ℕ) (b : Batch) → AreClean (head_words version b)
head_clean version b = (numeral_clean version, (call_number_clean b.task b.seq, (numeral_clean (length b.ops), tt)))

module _ (labels names : List (List ℕ)) (table : IsLabelTable labels) where
  -- a batch: its head and its rule writes
  batch_is : (version : ℕ) (b : Batch) (rest : List ℕ)
      → batch_text labels names version b ++ rest ≡ spell_line labels names (batch_head version b) ++ (writes_text labels names b ++ rest)
  batch_is version b rest =
      append_assoc (spell_line labels names (batch_head version b)) (spelled_text labels names (map op_line b.ops)) rest
      ∙ ap (λ t. spell_line labels names (batch_head version b) ++ (t ++ rest)) (each_is_turn labels names op_line 1 b.ops)

  -- a printed batch tells it, where no rule write stands behind it
  pub batch_told : (version : ℕ) → Tells (IsPlainBatch labels) (BeginsNot write_tag) (batch_text labels names version)
  batch_told version x y r s plain plain' ends ends' same =
      let head = cut_line (codes "j") (head_words version x) (head_words version y) (writes_text labels names x ++ r) (writes_text labels names y ++ s) refl
      (head_clean version x) (head_clean version y) (sym (batch_is version x r) ∙ same ∙ batch_is version y s) in
      let number = call_number_told x.task y.task x.seq y.seq (ap (word_at 1) head.0) in
      let writes = turns_tell (IsPlainOp labels) (λ t. Unit {0}) (λ n op. spell_line labels names (op_line op)) write_tag (λ n op t. refl) (λ n op t. tt) (λ n. op_told labels names table)
      1 x.ops y.ops r s plain plain' tt tt ends ends' head.1 in
      ((λ i. record { task = number.0 i; seq = number.1 i; ops = writes.0 i }), writes.1)
