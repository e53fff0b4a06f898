use Rattle.std.proofs.Common.{◌≡◌, ◌+◌, ◌-◌, ◌<◌, ℕ, zero, suc, true, false, List, [], ◌∷◌, length, take, refl, sym, ◌∙◌, arith, inl, inr, nat_lt}
use Rattle.std.specs.Prelude.{fold}
use Rattle.std.proofs.lemmas.Bool.{cases_Bool, lt-ltb, le-ltb, ltb-true, ltb-false}
use Rattle.std.proofs.lemmas.Grind.{fold-append}
use Rattle.rules_spec.specs.declared.Batch.{Batch}
use Rattle.rules_spec.specs.Versions.{after_logging, writes}
use Rattle.log_spec.specs.Audits.{selected_as}
use Rattle.record_spec.specs.declared.RunRecord.{RunRecord}
use Rattle.record_spec.specs.Entries.{entry_lines}
use Rattle.record_spec.specs.Show.{lines_in_turn, history_lines}
use Rattle.run_report.specs.Modes.{modes_from, mode_in}

-- there is a mode for each version, and one more
pub modes_many : (mode : ℕ) (journal : List Batch) → length (modes_from mode journal) ≡ length journal + 1
modes_many mode [] = refl
modes_many mode (b ∷ bs) = omega (arith, modes_many (fold after_logging mode b.ops) bs)

mode_past : (mode : ℕ) (modes : List ℕ) (version : ℕ) → 0 < length modes → mode_in (mode ∷ modes) (suc version) ≡ mode_in modes version
mode_past mode [] version some = absurd (omega (arith, some))
mode_past mode (m ∷ ms) version some =
    elim (cases_Bool (nat_lt version (length (m ∷ ms)))) [
      | inl e ↦
          let within = ltb-true version (length (m ∷ ms)) e in
          let also : nat_lt (suc version) (length (mode ∷ m ∷ ms)) ≡ true = lt-ltb _ _ (omega (arith, within)) in
          rw (also, e) refl
      | inr e ↦
          let past = ltb-false version (length (m ∷ ms)) e in
          let also : nat_lt (suc version) (length (mode ∷ m ∷ ms)) ≡ false = le-ltb _ _ (omega (arith, past)) in
          let last : length (mode ∷ m ∷ ms) - 1 ≡ suc (length (m ∷ ms) - 1) = omega arith in
          rw (also, e, last) refl
    ]

-- the mode of a version is what the writes of its batches make of the first
mode_is : (mode : ℕ) (journal : List Batch) (version : ℕ)
    → mode_in (modes_from mode journal) version ≡ fold after_logging mode (writes (take version journal))
mode_is mode [] zero = refl
mode_is mode [] (suc version) =
    let past : nat_lt (suc version) 1 ≡ false = le-ltb _ _ (omega arith) in
    rw past refl
mode_is mode (b ∷ bs) zero = let within : nat_lt 0 (length (modes_from mode (b ∷ bs))) ≡ true = lt-ltb _ _ (omega arith) in rw within refl
mode_is mode (b ∷ bs) (suc version) =
    let next = fold after_logging mode b.ops in
    mode_past mode (modes_from next bs) version (omega (arith, modes_many next bs))
    ∙ mode_is next bs version ∙ sym (fold-append after_logging mode b.ops (writes (take version bs)))

-- the object calls are printed by the logging modes of their versions
pub history_by_modes : (r : RunRecord)
    → lines_in_turn (λ place e. entry_lines (selected_as (mode_in (modes_from 1 r.journal) e.version)) place e) 1 r.history ≡ history_lines r
history_by_modes r =
    λ i. lines_in_turn (λ place e. entry_lines (selected_as (mode_is 1 r.journal e.version i)) place e) 1 r.history
