use Rattle.std.proofs.Common.{◌≡◌, ◌++◌, take}
use Rattle.std.specs.Prelude.{map}
use Rattle.std.specs.List.{flat_map}
use Rattle.verb_spec.specs.Values.{value_shown}
use Rattle.verb_spec.specs.TaskVerbs.{rule_values}
use Rattle.call_words.specs.Spelling.{words_by}
use Rattle.call_words.proofs.tasks.put_rules.Given as goal

abbrev pub invariant-loop-rule : goal.invariant-loop-rule
invariant-loop-rule l = l.out.items ≡ l.fn.out.items ++ words_by l.by (map value_shown (flat_map rule_values (take l.rule-index l.rules)))
