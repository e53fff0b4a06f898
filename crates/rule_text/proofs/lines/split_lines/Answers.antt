use Rattle.std.proofs.Common.{arith, ◌≤◌, ◌<◌, length}
use Rattle.rule_text.specs.Parts.{lines_of}
use Rattle.rule_text.proofs.WholeLines.{front_bytes, lines_behind, one_behind, none_behind, front_from}
use Rattle.rule_text.proofs.lines.split_lines.Goals as goal

pub returns-in_default-clause-count : goal.returns-in_default-clause-count
returns-in_default-clause-count c =
    let none : length (lines_of c.args.text) ≤ c.loop.counter =
    none_behind c.loop.counter (lines_of c.args.text) (lines_of c.loop.rest) c.loop.invariant.behind c.in_default.ensures.lines in
    omega arith

pub loop-preserved : goal.loop-preserved
loop-preserved c =
    let more : c.loop.counter < length (lines_of c.args.text) =
    one_behind c.loop.counter (lines_of c.args.text) (lines_of c.loop.rest) (lines_of c.in-Some.after) _ c.loop.invariant.behind c.in-Some.ensures.lines in
    record {
      behind = lines_behind c.loop.counter (lines_of c.args.text) (lines_of c.loop.rest) (lines_of c.in-Some.after) _ c.loop.invariant.behind c.in-Some.ensures.lines;
      count = omega arith;
      ends = omega (arith, c.in-Some.ensures.ends);
      shorter = omega (arith, c.in-Some.ensures.falls);
    }

pub returns-clause-bytes : goal.returns-clause-bytes
returns-clause-bytes c =
    front_bytes c.args.n c.loop.counter c.args.text.at c.loop.rest.at c.args.text.bytes.now c.loop.rest.bytes.now c.front.result.bytes.now
    (omega arith) c.loop.invariant.behind c.front.ensures.bytes

pub returns-clause-front : goal.returns-clause-front
returns-clause-front c =
    front_from c.args.n c.loop.counter c.args.text.at c.loop.rest.at c.args.text.bytes.now c.loop.rest.bytes.now c.front.result.at c.front.result.bytes.now
    (omega arith) c.loop.invariant.behind c.front.ensures.place c.front.ensures.bytes
