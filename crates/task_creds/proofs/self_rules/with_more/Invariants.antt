use Rattle.std.proofs.Common.{◌≡◌, ◌≤◌, length, take}
use Rattle.rules_spec.specs.Creds.{with_self_rules, most_self_rules}
use Rattle.task_creds.proofs.self_rules.with_more.Given as goal

abbrev pub invariant-loop-rule : goal.invariant-loop-rule
invariant-loop-rule l = record {
  rules : l.all.items ≡ with_self_rules l.rules.items (take l.rule-index l.more);
  room : length l.all.items ≤ most_self_rules;
}
