use Rattle.std.proofs.Common.{◌≡◌, ◌+◌, ◌≤◌, length}
use Rattle.rule_text.specs.Counted.{numbered}
use Rattle.rule_text.specs.Parts.{end_of, lines_of}
use Rattle.rule_text.proofs.counted.first_counted.Given as goal

abbrev pub invariant-loop-line : goal.invariant-loop-line
invariant-loop-line l = record {
  same : numbered l.skipped l.count (lines_of l.rest) ≡ numbered l.skipped l.number (lines_of l.text);
  count : l.count + length l.rest.bytes.now ≤ 65537;
  fits : end_of l.rest ≤ 65536;
}

abbrev pub decreases-loop-line : goal.decreases-loop-line
decreases-loop-line l = length l.rest.bytes.now
