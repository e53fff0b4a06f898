use Rattle.std.proofs.Common.{◌≡◌, ℕ, zero, suc, Bool, true, false, inl, List, [], ◌∷◌, Result, Ok, Err, codes, length, refl, sym, ap, subst, ◌∙◌, arith}
use Rattle.smack_base.specs.declared.modes.Modes.{Modes}
use Rattle.smack_base.specs.declared.rule_op.RuleOp.TheVariants as RuleOp
use Rattle.text_spec.specs.Names.{predefined}
use Rattle.rules_spec.specs.AskedModes.{read, write}
use Rattle.rules_spec.specs.Versions.{floor}
use Rattle.rules_spec.specs.declared.Batch.{Batch}
use Rattle.file_spec.specs.declared.Refusal.{Refusal}
use Rattle.file_spec.specs.declared.Refusal.TheVariants as Refusal
use Rattle.file_spec.specs.declared.Compiled.{Compiled}
use Rattle.file_spec.specs.declared.Compiled.TheVariants as Compiled
use Rattle.world_spec.specs.declared.Call.TheVariants as Call
use Rattle.world_spec.specs.declared.tasks.TaskCall.TheVariants as TaskCall
use Rattle.world_spec.specs.declared.Entry.{Entry}
use Rattle.record_spec.specs.declared.AskedLine.{AskedLine}
use Rattle.legal_spec.specs.Calls.{call_count}
use Rattle.legal_spec.specs.Lines.{IsBatchOfLine, IsAskedOfLine}
use Rattle.legal_spec.specs.Fits.{IsRecorded, batch as batch_of, entry as entry_of, asked as asked_of, FitsScript}
use Rattle.legal_laws.specs.UnfitRecords.{take_line, write_line, line_left_out, line_twice, other_call, text_refused, text_published, other_labels, other_names, UnfitRecords}
use Rattle.legal_forms_laws.proofs.Members.{same_some}

left_out : FitsScript (take_line ∷ []) line_left_out → ⊥
left_out fits = let wrong : ◌≡◌ {A = ℕ} 0 1 = (fits.tasks (record { 0 = 0 }) (omega arith)).many in omega (arith, wrong)

twice : FitsScript (take_line ∷ []) line_twice → ⊥
twice fits =
    let own = fits.tasks (record { 0 = 0 }) (omega arith) in
    let first : 0 ≡ own.number = own.one 0 (inl (refl, refl)) in
    let wrong : ◌≡◌ {A = ℕ} 2 1 = ap (call_count line_twice) first ∙ own.many in
    omega (arith, wrong)

other_line : (number : ℕ) → IsRecorded other_call number take_line → ⊥
other_line number (batch_of i b at own seq line) = cc
other_line number (entry_of zero e at own seq line) =
    let call : Call.Task TaskCall.Exit ≡ e.call = ap (λ (x : Entry). x.call) (same_some _ e at) in
    let line_is : Call.Task TaskCall.Take ≡ e.call = same_some (Call.Task TaskCall.Take) e.call line in
    let wrong : Call.Task TaskCall.Take ≡ Call.Task TaskCall.Exit = line_is ∙ sym call in
    cc
other_line number (entry_of (suc i) e at own seq line) = cc
other_line number (asked_of i a at own seq line) = cc

other : FitsScript (take_line ∷ []) other_call → ⊥
other fits =
    let own = fits.tasks (record { 0 = 0 }) (omega arith) in
    other_line own.number (own.recorded 0 take_line refl refl)

refused_line : (number : ℕ) → IsRecorded text_refused number (write_line (codes "_ _ r\n")) → ⊥
refused_line number (batch_of i b at own seq line) = cc
refused_line number (entry_of i e at own seq line) = cc
refused_line number (asked_of zero a at own seq line) =
    let said = subst (λ (x : AskedLine). IsAskedOfLine predefined (codes "init" ∷ []) (write_line (codes "_ _ r\n")) x.what) (sym (same_some _ a at)) line in
    let wrong : ◌≡◌ {A = Result Compiled Refusal} (Ok (Compiled.Rules (RuleOp.Set floor floor read ∷ []))) (Err (Refusal.UnknownLabel 1)) = said.2 in
    cc
refused_line number (asked_of (suc i) a at own seq line) = cc

refused : FitsScript (write_line (codes "_ _ r\n") ∷ []) text_refused → ⊥
refused fits =
    let own = fits.tasks (record { 0 = 0 }) (omega arith) in
    refused_line own.number (own.recorded 0 (write_line (codes "_ _ r\n")) refl refl)

-- the writes of the text are those of the batch
published_ops : (text : List ℕ) (number : ℕ) → IsRecorded text_published number (write_line text)
    → IsBatchOfLine predefined (write_line text) (RuleOp.Set floor floor read ∷ [])
published_ops text number (batch_of zero b at own seq line) =
    subst (λ (x : Batch). IsBatchOfLine predefined (write_line text) x.ops) (sym (same_some _ b at)) line
published_ops text number (batch_of (suc i) b at own seq line) = cc
published_ops text number (entry_of i e at own seq line) = cc
published_ops text number (asked_of i a at own seq line) = cc

published_line : (text : List ℕ) → FitsScript (write_line text ∷ []) text_published → IsBatchOfLine predefined (write_line text) (RuleOp.Set floor floor read ∷ [])
published_line text fits =
    let own = fits.tasks (record { 0 = 0 }) (omega arith) in
    published_ops text own.number (own.recorded 0 (write_line text) refl refl)

abbrev is_good : Result Compiled Refusal → Bool
is_good (Ok compiled) = true
is_good (Err fault) = false

bad : FitsScript (write_line (codes "_ _ z\n") ∷ []) text_published → ⊥
bad fits = let wrong : ◌≡◌ {A = Bool} false true = ap is_good (published_line (codes "_ _ z\n") fits).1 in cc

same_modes : (m n : Modes)
    → ◌≡◌ {A = Result Compiled Refusal} (Ok (Compiled.Rules (RuleOp.Set floor floor m ∷ []))) (Ok (Compiled.Rules (RuleOp.Set floor floor n ∷ []))) → m ≡ n
same_modes m n is = cc

writes : FitsScript (write_line (codes "_ _ w\n") ∷ []) text_published → ⊥
writes fits =
    let wrong : ◌≡◌ {A = Bool} false true =
    ap (λ (m : Modes). m.read) (same_modes write read (published_line (codes "_ _ w\n") fits).1) in
    cc

labels : FitsScript (take_line ∷ []) other_labels → ⊥
labels fits = let wrong : ◌≡◌ {A = ℕ} 6 5 = ap (λ (xs : List (List ℕ)). length xs) fits.labels in omega (arith, wrong)

names : FitsScript (take_line ∷ []) other_names → ⊥
names fits = let wrong : ◌≡◌ {A = ℕ} 2 1 = ap (λ (xs : List (List ℕ)). length xs) fits.names in omega (arith, wrong)

pub unfit : UnfitRecords
unfit = record {
  left_out = left_out;
  twice = twice;
  other = other;
  refused = refused;
  bad = bad;
  writes = writes;
  labels = labels;
  names = names;
}
