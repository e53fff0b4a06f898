use Rattle.std.proofs.Common.{◌≡◌, ◌<◌, ℕ, zero, suc, inl, inr, List, [], ◌∷◌, refl, sym, ap, subst, arith}
use Rattle.smack_base.specs.declared.ids.Pid.{Pid}
use Rattle.smack_base.specs.declared.rule_op.RuleOp.TheVariants as RuleOp
use Rattle.rules_spec.specs.AskedModes.{read}
use Rattle.script_spec.specs.Lines.{ScriptLine}
use Rattle.world_spec.specs.declared.Call.TheVariants as Call
use Rattle.world_spec.specs.declared.tasks.TaskCall.TheVariants as TaskCall
use Rattle.world_spec.specs.declared.Reply.TheVariants as Reply
use Rattle.world_spec.specs.declared.Entry.{Entry}
use Rattle.record_spec.specs.declared.AskedLine.{AskedLine}
use Rattle.record_spec.specs.declared.AskedWhat.TheVariants as AskedWhat
use Rattle.record_spec.specs.declared.RunRecord.{RunRecord}
use Rattle.legal_spec.specs.Calls.{Stands, IsForkOf, IsNumberOf}
use Rattle.legal_spec.specs.Legal.{IsLegal}
use Rattle.legal_spec.specs.Fits.{IsRecorded, batch as batch_of, entry as entry_of, asked as asked_of, HasItsLines}
use Rattle.legal_laws.specs.RefusedRecords.{a_label, c_label, b_pid, batch_of_one, entered_call, asked_at, by_rule}
use Rattle.legal_laws.specs.Interleaved.{script_lines, faster_child, OtherOrder}
use Rattle.legal_forms_laws.proofs.Whole.{legality_is_decided}
use Rattle.legal_forms_laws.proofs.Members.{same_some}

-- the one entry
one_entry : (P : ℕ → Entry → Type 0) → P 0 (entered_call 0 1 0 (TaskCall.Fork b_pid) (Reply.Child 1)) → (i : ℕ) (e : Entry) → Stands faster_child.history i e → P i e
one_entry P is zero e at = subst (P 0) (same_some _ e at) is
one_entry P is (suc i) e at = cc

same_child : (a b : ℕ) → Reply.Child a ≡ Reply.Child b → a ≡ b
same_child a b is = cc

same_fork : (a b : Pid) → Call.Task (TaskCall.Fork a) ≡ Call.Task (TaskCall.Fork b) → a ≡ b
same_fork a b is = cc

fork_number : (i : ℕ) (e : Entry) (number : ℕ) (pid : Pid) → Stands faster_child.history i e → IsForkOf e number pid → (number ≡ 1) × (pid.0 ≡ 1)
fork_number i e number pid at =
    one_entry (λ i x. IsForkOf x number pid → (number ≡ 1) × (pid.0 ≡ 1))
    (λ is. (sym (same_child 1 number is.1), sym (ap (λ (p : Pid). p.0) (same_fork b_pid pid is.0)))) i e at

parent_number : IsNumberOf faster_child.history 0 (record { 0 = 0 })
parent_number = inl (refl, refl)

child_number : IsNumberOf faster_child.history 1 (record { 0 = 1 })
child_number = inr (0, entered_call 0 1 0 (TaskCall.Fork b_pid) (Reply.Child 1), refl, (refl, refl))

legal : IsLegal faster_child
legal = (legality_is_decided faster_child).0 refl

-- what each line has become
line_recorded : (task i : ℕ) (l : ScriptLine) → Stands script_lines i l → l.task ≡ task → IsRecorded faster_child task l
line_recorded task i l at own = subst (λ (k : ℕ). IsRecorded faster_child k l) own (by i at)
  where
    by : (i : ℕ) → Stands script_lines i l → IsRecorded faster_child l.task l
    by zero at =
        subst (λ (x : ScriptLine). IsRecorded faster_child x.task x) (same_some _ l at)
        (entry_of 0 (entered_call 0 1 0 (TaskCall.Fork b_pid) (Reply.Child 1)) refl refl refl refl)
    by (suc zero) at =
        subst (λ (x : ScriptLine). IsRecorded faster_child x.task x) (same_some _ l at)
        (asked_of 0 (asked_at 0 2 1 (AskedWhat.Ask by_rule)) refl refl refl refl)
    by (suc (suc zero)) at =
        subst (λ (x : ScriptLine). IsRecorded faster_child x.task x) (same_some _ l at)
        (batch_of 0 (batch_of_one 1 1 (RuleOp.Set a_label c_label read)) refl refl refl (refl, refl))
    by (suc (suc (suc zero))) at =
        subst (λ (x : ScriptLine). IsRecorded faster_child x.task x) (same_some _ l at)
        (asked_of 1 (asked_at 0 3 1 (AskedWhat.Wait b_pid)) refl refl refl refl)
    by (suc (suc (suc (suc zero)))) at =
        subst (λ (x : ScriptLine). IsRecorded faster_child x.task x) (same_some _ l at)
        (asked_of 2 (asked_at 0 4 1 (AskedWhat.Ask by_rule)) refl refl refl refl)
    by (suc (suc (suc (suc (suc n))))) at = cc

parent_only : (k : ℕ) → IsNumberOf faster_child.history k (record { 0 = 0 }) → k ≡ 0
parent_only k (inl is) = is.0
parent_only k (inr has) = let fork = fork_number has.0 has.1 k (record { 0 = 0 }) has.2 has.3 in absurd (omega (arith, fork.1))

child_only : (k : ℕ) → IsNumberOf faster_child.history k (record { 0 = 1 }) → k ≡ 1
child_only k (inl is) = absurd (omega (arith, is.1))
child_only k (inr has) = (fork_number has.0 has.1 k (record { 0 = 1 }) has.2 has.3).0

own_lines : (n : ℕ) → n < 2 → HasItsLines script_lines faster_child (record { 0 = n })
own_lines zero there = record { number = 0; is = parent_number; one = parent_only; recorded = line_recorded 0; many = refl }
own_lines (suc zero) there = record { number = 1; is = child_number; one = child_only; recorded = line_recorded 1; many = refl }
own_lines (suc (suc n)) there = absurd (omega (arith, there))

-- the replay asks before the child writes
abbrev first_version : List AskedLine → ℕ
first_version [] = 0
first_version (a ∷ behind) = a.version

pub other_order : OtherOrder
other_order = record {
  read = refl;
  legal = (legal, record { labels = refl; names = refl; tasks = λ pid there. own_lines pid.0 there });
  other = λ same.
      let versions : ◌≡◌ {A = ℕ} 1 0 = ap (λ (r : RunRecord). first_version r.asked) same in omega (arith, versions);
}
