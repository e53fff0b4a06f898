use Rattle.std.proofs.Common.{arith, refl, ap, sym, subst, ◌∙◌, ◌+◌, ◌≤◌, length, IfSome}
use Rattle.live_table.specs.Batches.{Cut}
use Rattle.live_table.specs.Core.{row_count}
use Rattle.live_table.specs.Seats.{SeatValue}
use Rattle.live_table.proofs.AfterSteps.{loaded_more}
use Rattle.smack_kernel.proofs.Indexes.{stands_low, stands_end, absorbs, first_rows_left, first_rows_of}
use Rattle.smack_kernel.proofs.index.read_up.Goals as goal

pub loop-batch-init : goal.loop-batch-init
loop-batch-init g c = (refl, c.requires.stands, omega arith, omega arith)

pub batch-requires-clause-table : goal.batch-requires-clause-table
batch-requires-clause-table g c = ap (λ (s : SeatValue _). s.table) c.loop-batch.invariant.0 ∙ c.requires.table

pub batch-requires-clause-cut : goal.batch-requires-clause-cut
batch-requires-clause-cut g c = let v = c.loop-batch.invariant in (
  v.1.front,
  v.1.rest,
  subst (λ (s : SeatValue _). Cut s.view.journal v.1.front v.1.rest c.loop-batch.index.rows) (sym v.0) v.1.cut,
)

pub absorb-requires-clause-room : goal.absorb-requires-clause-room
absorb-requires-clause-room g c =
    subst (λ o. IfSome o
    (λ b. c.loop-batch.index.rows + 1 + length b.ops ≤ row_count)) c.in-Some.is c.in_ok-batch.ensures.room

pub absorb-requires-clause-counted : goal.absorb-requires-clause-counted
absorb-requires-clause-counted g c = stands_low c.loop-batch.invariant.1

pub loop-batch-preserved : goal.loop-batch-preserved
loop-batch-preserved g c =
    let v = c.loop-batch.invariant in
    let cut = subst (λ (s : SeatValue _). Cut s.view.journal v.1.front v.1.rest c.loop-batch.index.rows)
    (sym v.0) v.1.cut in
    let r = absorbs c.in_ok-batch.field-0 c.in-Some.batch v.1 (c.in_ok-batch.ensures.batch _ _ cut) c.in-Some.is
    c.in_ok-absorb.ensures.rules c.in_ok-absorb.ensures.rows in
    let number = r.number in
    let rows = c.in_ok-absorb.ensures.rows in
    let cost = (c.batch.ensures.few _ _ cut).1 in
    let first = first_rows_of c.in_ok-batch.field-0 c.in-Some.batch v.1
    (c.in_ok-batch.ensures.batch _ _ cut) c.in-Some.is in
    let later = v.2 in
    let so_far = v.3 in
    (loaded_more c.args.seat.now v.0 c.batch.ensures.same, r.stands, omega arith, omega arith)

pub loop-batch-smaller : goal.loop-batch-smaller
loop-batch-smaller g c =
    let v = c.loop-batch.invariant in
    let cut = subst (λ (s : SeatValue _). Cut s.view.journal v.1.front v.1.rest c.loop-batch.index.rows)
    (sym v.0) v.1.cut in
    let r = absorbs c.in_ok-batch.field-0 c.in-Some.batch v.1 (c.in_ok-batch.ensures.batch _ _ cut) c.in-Some.is
    c.in_ok-absorb.ensures.rules c.in_ok-absorb.ensures.rows in
    let later = r.later in
    let inside = r.inside in
    omega arith

pub returns-clause-whole : goal.returns-clause-whole
returns-clause-whole g c =
    let v = c.loop-batch.invariant in
    let cut = subst (λ (s : SeatValue _). Cut s.view.journal v.1.front v.1.rest c.loop-batch.index.rows)
    (sym v.0) v.1.cut in
    stands_end v.1 (sym c.in_default.is ∙ c.in_ok-batch.ensures.batch _ _ cut)

pub returns-in_err-batch-clause-cost : goal.returns-in_err-batch-clause-cost
returns-in_err-batch-clause-cost g c =
    let v = c.loop-batch.invariant in
    let cut = subst (λ (s : SeatValue _). Cut s.view.journal v.1.front v.1.rest c.loop-batch.index.rows)
    (sym v.0) v.1.cut in
    let cost = (c.batch.ensures.few _ _ cut).1 in
    let left = first_rows_left v.1 in
    let so_far = v.3 in
    omega arith

pub returns-in_err-absorb-clause-cost : goal.returns-in_err-absorb-clause-cost
returns-in_err-absorb-clause-cost g c =
    let v = c.loop-batch.invariant in
    let cut = subst (λ (s : SeatValue _). Cut s.view.journal v.1.front v.1.rest c.loop-batch.index.rows)
    (sym v.0) v.1.cut in
    let cost = (c.batch.ensures.few _ _ cut).1 in
    let left = first_rows_left v.1 in
    let so_far = v.3 in
    omega arith

pub returns-in_err-batch-clause-same : goal.returns-in_err-batch-clause-same
returns-in_err-batch-clause-same g c = loaded_more c.args.seat.now c.loop-batch.invariant.0 c.batch.ensures.same

pub returns-in_err-absorb-clause-same : goal.returns-in_err-absorb-clause-same
returns-in_err-absorb-clause-same g c = loaded_more c.args.seat.now c.loop-batch.invariant.0 c.batch.ensures.same
