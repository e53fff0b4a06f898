use Rattle.std.proofs.Common.{◌≡◌, ◌++◌, length}
use Rattle.log_spec.specs.Shown.{plain_words}
use Rattle.call_words.specs.Spelling.{words_by}
use Rattle.run_report.proofs.replies.put_names.Given as goal

abbrev pub invariant-loop-name : goal.invariant-loop-name
invariant-loop-name l = l.out.items ++ words_by l._by (plain_words l.left) ≡ l.fn.out.items ++ words_by l._by (plain_words l.names)

abbrev pub decreases-loop-name : goal.decreases-loop-name
decreases-loop-name l = length l.left
