use Rattle.std.proofs.Common.{◌≡◌, ◌++◌, take}
use Rattle.std.specs.Prelude.{map}
use Rattle.verb_spec.specs.declared.Value.TheVariants as Value
use Rattle.verb_spec.specs.Values.{value_shown}
use Rattle.call_words.specs.Spelling.{words_by}
use Rattle.call_words.proofs.tasks.put_labels.Given as goal

abbrev pub invariant-loop-l : goal.invariant-loop-l
invariant-loop-l l = l.out.items ≡ l.fn.out.items ++ words_by l.by (map value_shown (map (λ l. Value.Label l) (take l.l-index l.list)))
