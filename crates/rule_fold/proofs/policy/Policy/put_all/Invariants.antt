use Rattle.std.proofs.Common.{◌≡◌, ◌-◌, ◌≤◌, length, take}
use Rattle.std.specs.Prelude.{fold, ◌==◌}
use Rattle.indexmap.specs.IndexMap.{spare}
use Rattle.indexmap.specs.IndexSet.{spare as only_spare}
use Rattle.smack_base.specs.declared.ids.LabelId.{LabelId}
use Rattle.rules_spec.specs.Versions.{after_write, after_ambient, after_ptrace, after_logging}
use Rattle.rule_fold.specs.Index.{look, has_number}
use Rattle.rule_fold.specs.Absorbing.{after_empty, after_holds}
use Rattle.rule_fold.proofs.policy.Policy.put_all.Given as goal

abbrev pub invariant-loop-op : goal.invariant-loop-op
invariant-loop-op l = record {
  rights : (s o : LabelId) → look l.self.rules.entries s o ≡ fold (after_write s o) (look l.fn.self.rules.entries s o) (take l.op-index l.ops);
  only_empty : (length l.self.only.keys == 0) ≡ fold after_empty (length l.fn.self.only.keys == 0) (take l.op-index l.ops);
  only_holds : (a : LabelId) → has_number l.self.only.keys a ≡ fold (after_holds a) (has_number l.fn.self.only.keys a) (take l.op-index l.ops);
  ambient : l.self.ambient ≡ fold after_ambient l.fn.self.ambient (take l.op-index l.ops);
  ptrace : l.self.ptrace ≡ fold after_ptrace l.fn.self.ptrace (take l.op-index l.ops);
  logging : l.self.logging ≡ fold after_logging l.fn.self.logging (take l.op-index l.ops);
  rules_room : length l.ops - l.op-index ≤ spare l.self.rules;
  only_room : length l.ops - l.op-index ≤ only_spare l.self.only;
}
