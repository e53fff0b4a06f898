use Rattle.std.proofs.Common.{length}
use Rattle.script_text.proofs.ReadingOn.{ReadsOn}
use Rattle.script_text.proofs.reading.read_calls.Given as goal

abbrev pub invariant-loop-line : goal.invariant-loop-line
invariant-loop-line l = ReadsOn l.draft l.place l.text

abbrev pub decreases-loop-line : goal.decreases-loop-line
decreases-loop-line l = length l.place.rest.bytes.now
