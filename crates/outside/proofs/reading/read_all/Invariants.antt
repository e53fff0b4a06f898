use Rattle.std.proofs.Common.{◌≡◌, ◌≤◌, ◌-◌, vec_len}
use Rattle.outside.specs.Source.{Takes}
use Rattle.outside.specs.Reading.{ReadsAtMost}
use Rattle.outside.proofs.reading.read_all.Given as goal

abbrev pub invariant-loop-n : goal.invariant-loop-n
invariant-loop-n g l = record {
  took : Takes (g.S.Source.left l.fn.source) (g.S.Source.left l.source) l.bytes.items;
  few : vec_len l.bytes ≤ l.most;
  same : g.S.Source.faults l.source ≡ g.S.Source.faults l.fn.source;
  turns : ReadsAtMost (g.S.Source.reads l.fn.source) (g.S.Source.reads l.source) (vec_len l.bytes);
}

abbrev pub decreases-loop-n : goal.decreases-loop-n
decreases-loop-n g l = l.most - vec_len l.bytes
