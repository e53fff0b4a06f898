use Rattle.std.proofs.Common.{◌≡◌, map, length}
use Rattle.verb_spec.specs.Words.{is_one_of}
use Rattle.call_words.proofs.words.is_one_of.Given as goal

abbrev pub invariant-loop-names : goal.invariant-loop-names
invariant-loop-names l = is_one_of (map (λ n. n.now) l.names) l.name ≡ is_one_of (map (λ n. n.now) l.fn.names) l.name

abbrev pub decreases-loop-names : goal.decreases-loop-names
decreases-loop-names l = length l.names
