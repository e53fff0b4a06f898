use Rattle.std.proofs.Common.{◌≡◌, ◌+◌, List, length}
use Rattle.smack_base.specs.declared.rule_op.RuleOp.{RuleOp}
use Rattle.live_table.specs.Batches.{journal_words, OpsAt}
use Rattle.live_table.specs.Seats.{with_loads}
use Rattle.live_table.proofs.Cuts.{ReadTo}
use Rattle.live_table.proofs.table.LiveTable.ops_at.Given as goal

abbrev pub invariant-loop-i : goal.invariant-loop-i
invariant-loop-i g l = (l.seat ≡ with_loads l.seat.view.loads l.initial.seat) × (l.seat.view.loads ≡ l.initial.seat.view.loads + l.i)
    × ((ops : List RuleOp) → OpsAt (journal_words l.initial.seat.view.journal) l.fn.at ops → l.fn.len ≡ length ops
    → ReadTo (journal_words l.initial.seat.view.journal) l.fn.at l.fn.len l.i l.ops ops)
