use Rattle.std.proofs.Common.{arith, refl, ap, sym, subst, ◌∙◌, ◌+◌, ◌<◌, get_or}
use Rattle.live_table.specs.Batches.{journal_words, rows_of}
use Rattle.live_table.specs.Seats.{SeatValue}
use Rattle.live_table.proofs.AfterSteps.{loaded_more}
use Rattle.live_table.proofs.Cuts.{read_none, reads_on, reads_it, reads_some, read_all}
use Rattle.live_table.proofs.table.LiveTable.ops_at.Goals as goal

pub loop-i-init : goal.loop-i-init
loop-i-init g c = (refl, omega arith, λ ops o l. read_none o l c.new-ops.ensures)

pub row-requires-clause-table : goal.row-requires-clause-table
row-requires-clause-table g c = ap (λ (s : SeatValue _). s.table) c.loop-i.invariant.0 ∙ c.requires.table

pub row-requires-clause-seen : goal.row-requires-clause-seen
row-requires-clause-seen g c =
    let v = c.loop-i.invariant in
    let e = c.requires.ops in
    let n = reads_on (v.2 e.0 e.1 e.2) (let a = c.loop-i-test.true in let b = c.from-i-end.ensures in omega arith) in
    subst (λ (s : SeatValue _). c.args.at + c.loop-i.i < rows_of s.view.journal) (sym v.0) n.inside

pub unreachable-requires : goal.unreachable-requires
unreachable-requires g c =
    let v = c.loop-i.invariant in
    let e = c.requires.ops in
    reads_some c.unpack.result (v.2 e.0 e.1 e.2)
    (let a = c.loop-i-test.true in let b = c.from-i-end.ensures in omega arith)
    (c.row.ensures.word ∙ ap (λ (s : SeatValue _). get_or (journal_words s.view.journal) (c.args.at + c.loop-i.i) 0) v.0)
    c.unpack.ensures.inverts c.in-None.is

pub returns-in_err-push-clause-same : goal.returns-in_err-push-clause-same
returns-in_err-push-clause-same g c = loaded_more c.args.seat.now c.loop-i.invariant.0 c.row.ensures.loaded

pub loop-i-preserved : goal.loop-i-preserved
loop-i-preserved g c =
    let v = c.loop-i.invariant in (
      loaded_more c.args.seat.now v.0 c.row.ensures.loaded,
      (let one = ap (λ (s : SeatValue _). s.view.loads) c.row.ensures.loaded in let all = v.1 in omega arith),
      λ ops o l. reads_it c.unpack.result c.in-Some.op (v.2 ops o l)
          (let a = c.loop-i-test.true in let b = c.from-i-end.ensures in omega arith)
          (c.row.ensures.word
          ∙ ap (λ (s : SeatValue _). get_or (journal_words s.view.journal) (c.args.at + c.loop-i.i) 0) v.0)
          c.unpack.ensures.inverts c.in-Some.is c.in_ok-push.ensures.ok,
    )

pub returns-clause-same : goal.returns-clause-same
returns-clause-same g c = c.loop-i.invariant.0

pub returns-clause-ops : goal.returns-clause-ops
returns-clause-ops g c = λ ops o l. read_all (c.loop-i.invariant.2 ops o l)
    (let a = c.loop-i-test.false in let b = c.from-i-end.ensures in omega arith)

pub returns-in_err-push-clause-few : goal.returns-in_err-push-clause-few
returns-in_err-push-clause-few g c =
    let one = ap (λ (s : SeatValue _). s.view.loads) c.row.ensures.loaded in
    let all = c.loop-i.invariant.1 in
    let inside = c.loop-i-test.true in
    let end = c.from-i-end.ensures in
    (omega arith, omega arith)

pub returns-clause-few : goal.returns-clause-few
returns-clause-few g c =
    let all = c.loop-i.invariant.1 in
    let end = c.from-i-end.ensures in
    let within = c.loop-i.auto.i-end in
    (omega arith, omega arith)

pub returns-clause-loaded : goal.returns-clause-loaded
returns-clause-loaded g c =
    let all = c.loop-i.invariant.1 in
    let over = c.loop-i-test.false in
    let end = c.from-i-end.ensures in
    let within = c.loop-i.auto.i-end in
    omega arith
