use Rattle.std.proofs.Common.{arith, refl, ap, sym, subst, ◌∙◌, ◌+◌, length}
use Rattle.live_table.specs.Batches.{Cut}
use Rattle.live_table.specs.Seats.{SeatValue}
use Rattle.live_table.proofs.AfterSteps.{loaded_more}
use Rattle.live_table.proofs.Cuts.{cut_start, reads_batch, reads_none}
use Rattle.live_table.proofs.table.LiveTable.read_journal.Goals as goal

pub loop-journal-init : goal.loop-journal-init
loop-journal-init g c = (refl, c.args.seat.now.view.journal, cut_start c.new-journal.ensures)

pub batch-requires-clause-cut : goal.batch-requires-clause-cut
batch-requires-clause-cut g c = let v = c.loop-journal.invariant in (
  c.loop-journal.journal,
  v.1,
  subst (λ (s : SeatValue _). Cut s.view.journal c.loop-journal.journal v.1 c.loop-journal.at) (sym v.0) v.2,
)

pub loop-journal-preserved : goal.loop-journal-preserved
loop-journal-preserved g c =
    let v = c.loop-journal.invariant in
    let cut = subst (λ (s : SeatValue _). Cut s.view.journal c.loop-journal.journal v.1 c.loop-journal.at)
    (sym v.0) v.2 in
    let r = reads_batch c.in_ok-batch.field-0 c.in-Some.batch v.2
    (c.in_ok-batch.ensures.batch _ _ cut) c.in-Some.is c.in_ok-push.ensures.ok
    (ap (λ n. c.loop-journal.at + (1 + n)) (ap length c.items.ensures)) in
    (loaded_more c.args.seat.now v.0 c.batch.ensures.same, r.rest, r.cut)

pub loop-journal-smaller : goal.loop-journal-smaller
loop-journal-smaller g c =
    let v = c.loop-journal.invariant in
    let cut = subst (λ (s : SeatValue _). Cut s.view.journal c.loop-journal.journal v.1 c.loop-journal.at)
    (sym v.0) v.2 in
    let r = reads_batch c.in_ok-batch.field-0 c.in-Some.batch v.2
    (c.in_ok-batch.ensures.batch _ _ cut) c.in-Some.is c.in_ok-push.ensures.ok
    (ap (λ n. c.loop-journal.at + (1 + n)) (ap length c.items.ensures)) in
    let later = r.later in
    let within = r.within in
    omega arith

pub returns-clause-journal : goal.returns-clause-journal
returns-clause-journal g c =
    let v = c.loop-journal.invariant in
    let cut = subst (λ (s : SeatValue _). Cut s.view.journal c.loop-journal.journal v.1 c.loop-journal.at)
    (sym v.0) v.2 in
    reads_none v.2 (sym c.in_default.is ∙ c.in_ok-batch.ensures.batch _ _ cut)
