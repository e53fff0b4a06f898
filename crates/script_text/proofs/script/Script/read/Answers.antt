use Rattle.std.proofs.Common.{length, ap, arith}
use Rattle.std.proofs.lemmas.Bool.{le-ltb}
use Rattle.std.proofs.lemmas.List.{length-map}
use Rattle.script_spec.specs.Tasks.{Tasks}
use Rattle.script_spec.specs.Grammar.{most_bytes}
use Rattle.script_text.specs.Lines.{call_seen}
use Rattle.script_text.proofs.script.Script.read.Goals as goal

-- what was read is a script
pub invariant_of-result : goal.invariant_of-result
invariant_of-result c = let whole = c.in-Ok.ensures.ok in let few = whole.few in record {
  read = (c.args.bytes.now, rw (le-ltb most_bytes (length c.args.bytes.now) c.if-bytes.false) whole.calls);
  named = ap (λ (t : Tasks). t.names) whole.draft.tasks;
  labelled = whole.draft.labels;
  few = omega (arith, few, length-map c.in-Ok.draft.lines.items call_seen);
  few_tasks = whole.draft.table.few;
}
