use Rattle.std.specs.Prelude.{◌+◌, Bool, true, false, ◌||◌, fold}
use Rattle.smack_base.specs.declared.ids.LabelId.{LabelId}
use Rattle.smack_base.specs.declared.rule_op.RuleOp.{RuleOp}
use Rattle.smack_base.specs.declared.rule_op.RuleOp.TheVariants as RuleOp
use Rattle.rules_spec.specs.declared.Batch.{Batch}
use Rattle.rules_spec.specs.Versions.{same_label, after_write, after_ambient, after_ptrace, after_logging}
use Rattle.rules_spec.specs.Rulings.{Ruling}

-- whether the onlycap list is empty after one more write
abbrev pub after_empty : Bool → RuleOp → Bool
after_empty before RuleOp.OnlyClear = true
after_empty before (RuleOp.OnlyAdd l) = false
after_empty before (RuleOp.Set s o m) = before
after_empty before (RuleOp.Change s o allow deny) = before
after_empty before (RuleOp.Revoke s) = before
after_empty before (RuleOp.Ambient label) = before
after_empty before (RuleOp.Ptrace n) = before
after_empty before (RuleOp.Logging n) = before

-- whether the onlycap list has a label after one more write
abbrev pub after_holds : LabelId → Bool → RuleOp → Bool
after_holds l before RuleOp.OnlyClear = false
after_holds l before (RuleOp.OnlyAdd l') = before || same_label l' l
after_holds l before (RuleOp.Set s o m) = before
after_holds l before (RuleOp.Change s o allow deny) = before
after_holds l before (RuleOp.Revoke s) = before
after_holds l before (RuleOp.Ambient label) = before
after_holds l before (RuleOp.Ptrace n) = before
after_holds l before (RuleOp.Logging n) = before

-- what is said after one more batch, from what was said before it: each answer by the writes of the batch, in order
abbrev pub after_batch : Ruling → Batch → Ruling
after_batch before batch = record {
  number = before.number + 1;
  rights = λ s o. fold (after_write s o) (before.rights s o) batch.ops;
  only_empty = fold after_empty before.only_empty batch.ops;
  only_holds = λ l. fold (after_holds l) (before.only_holds l) batch.ops;
  ambient = fold after_ambient before.ambient batch.ops;
  ptrace = fold after_ptrace before.ptrace batch.ops;
  logging = fold after_logging before.logging batch.ops;
}
