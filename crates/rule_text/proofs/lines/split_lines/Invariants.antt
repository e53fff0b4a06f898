use Rattle.std.proofs.Common.{◌≡◌, ◌≤◌, ◌+◌, drop, length}
use Rattle.rule_text.specs.Parts.{lines_of, end_of}
use Rattle.rule_text.proofs.lines.split_lines.Given as goal

abbrev pub invariant-loop : goal.invariant-loop
invariant-loop l = record {
  behind : lines_of l.rest ≡ drop l.counter (lines_of l.text);
  count : l.counter ≤ length (lines_of l.text);
  ends : end_of l.rest ≡ end_of l.text;
  shorter : l.counter + length l.rest.bytes.now ≤ length l.text.bytes.now;
}
