use Rattle.std.proofs.Common.{arith, ap, sym, subst, ◌∙◌, ◌+◌, length, Some}
use Rattle.live_table.specs.Batches.{journal_words, OpsAt, first_batch, first_rows}
use Rattle.live_table.specs.Seats.{SeatValue}
use Rattle.live_table.proofs.AfterSteps.{loaded_own, loaded_more}
use Rattle.live_table.proofs.Cuts.{headed, heads_it, heads_some, cut_end, first_rows_of}
use Rattle.live_table.proofs.table.LiveTable.batch.Goals as goal

pub returns-then-at-rows_seen-clause-batch : goal.returns-then-at-rows_seen-clause-batch
returns-then-at-rows_seen-clause-batch g c = λ front rest d.
    let rows = c.rows_seen.ensures.rows in
    let end = c.if-at-rows_seen.true in
    ap first_batch (sym (cut_end d (omega arith)))

pub unreachable-requires : goal.unreachable-requires
unreachable-requires g c =
    let cut = c.requires.cut in
    let rows = c.rows_seen.ensures.rows in
    let inside = c.if-at-rows_seen.false in
    heads_some (headed _ cut.0 cut.1 c.args.at c.rows_seen.ensures.packed cut.2
    (omega arith)) c.unpack_head.result c.row.ensures.word c.unpack_head.ensures.inverts c.in-None.is

pub ops_at-requires-clause-room : goal.ops_at-requires-clause-room
ops_at-requires-clause-room g c =
    let cut = c.requires.cut in
    let rows = c.rows_seen.ensures.rows in
    let few = c.rows_seen.ensures.few in
    let inside = c.if-at-rows_seen.false in
    let h = headed _ cut.0 cut.1 c.args.at c.rows_seen.ensures.packed cut.2 (omega arith) in
    let len = ap (λ x. x.len)
    (heads_it h c.unpack_head.result c.in-Some.head c.row.ensures.word c.unpack_head.ensures.inverts c.in-Some.is) in
    let fits = h.fits in
    omega arith

pub ops_at-requires-clause-ops : goal.ops_at-requires-clause-ops
ops_at-requires-clause-ops g c =
    let cut = c.requires.cut in
    let rows = c.rows_seen.ensures.rows in
    let inside = c.if-at-rows_seen.false in
    let h = headed _ cut.0 cut.1 c.args.at c.rows_seen.ensures.packed cut.2 (omega arith) in
    let len = ap (λ x. x.len)
    (heads_it h c.unpack_head.result c.in-Some.head c.row.ensures.word c.unpack_head.ensures.inverts c.in-Some.is) in (
      h.batch.ops,
      subst (λ (s : SeatValue _). OpsAt (journal_words s.view.journal) (c.args.at + 1) h.batch.ops)
          (sym c.row.ensures.loaded) h.ops,
      len,
    )

pub returns-clause-batch : goal.returns-clause-batch
returns-clause-batch g c = λ front rest d.
    let rows = c.rows_seen.ensures.rows in
    let inside = c.if-at-rows_seen.false in
    let h = headed _ front rest c.args.at c.rows_seen.ensures.packed d (omega arith) in
    let head = heads_it h c.unpack_head.result c.in-Some.head c.row.ensures.word c.unpack_head.ensures.inverts c.in-Some.is in
    let ops = c.in_ok-ops.ensures.ops h.batch.ops
    (subst (λ (s : SeatValue _). OpsAt (journal_words s.view.journal) (c.args.at + 1) h.batch.ops)
    (sym c.row.ensures.loaded) h.ops) (ap (λ x. x.len) head) in
    (λ i. Some record { task = (head i).task; seq = (head i).seq; ops = ops i }) ∙ ap first_batch (sym h.is)

pub returns-clause-room : goal.returns-clause-room
returns-clause-room g c =
    let cut = c.requires.cut in
    let rows = c.rows_seen.ensures.rows in
    let few = c.rows_seen.ensures.few in
    let inside = c.if-at-rows_seen.false in
    let h = headed _ cut.0 cut.1 c.args.at c.rows_seen.ensures.packed cut.2 (omega arith) in
    let head = heads_it h c.unpack_head.result c.in-Some.head c.row.ensures.word c.unpack_head.ensures.inverts c.in-Some.is in
    let ops = ap length
    (c.in_ok-ops.ensures.ops h.batch.ops
    (subst (λ (s : SeatValue _). OpsAt (journal_words s.view.journal) (c.args.at + 1) h.batch.ops)
    (sym c.row.ensures.loaded) h.ops) (ap (λ x. x.len) head)) in
    let fits = h.fits in
    omega arith

pub returns-in_err-ops-clause-same : goal.returns-in_err-ops-clause-same
returns-in_err-ops-clause-same g c = loaded_more c.args.seat.now (loaded_own c.args.seat.now c.row.ensures.loaded) c.ops_at.ensures.same

pub returns-in_err-ops-clause-few : goal.returns-in_err-ops-clause-few
returns-in_err-ops-clause-few g c = λ front rest d.
    let rows = c.rows_seen.ensures.rows in
    let inside = c.if-at-rows_seen.false in
    let h = headed _ front rest c.args.at c.rows_seen.ensures.packed d (omega arith) in
    let len = ap (λ x. x.len)
    (heads_it h c.unpack_head.result c.in-Some.head c.row.ensures.word c.unpack_head.ensures.inverts c.in-Some.is) in
    let all = first_rows_of h in
    let one = ap (λ (s : SeatValue _). s.view.loads) c.row.ensures.loaded in
    let more = c.ops_at.ensures.few in
    let low = more.0 in
    let high = more.1 in
    (omega arith, omega arith)

pub returns-clause-same : goal.returns-clause-same
returns-clause-same g c = loaded_more c.args.seat.now (loaded_own c.args.seat.now c.row.ensures.loaded) c.ops_at.ensures.same

pub returns-clause-few : goal.returns-clause-few
returns-clause-few g c = λ front rest d.
    let rows = c.rows_seen.ensures.rows in
    let inside = c.if-at-rows_seen.false in
    let h = headed _ front rest c.args.at c.rows_seen.ensures.packed d (omega arith) in
    let len = ap (λ x. x.len)
    (heads_it h c.unpack_head.result c.in-Some.head c.row.ensures.word c.unpack_head.ensures.inverts c.in-Some.is) in
    let all = first_rows_of h in
    let one = ap (λ (s : SeatValue _). s.view.loads) c.row.ensures.loaded in
    let more = c.ops_at.ensures.few in
    let low = more.0 in
    let high = more.1 in
    (omega arith, omega arith)

pub returns-clause-loaded : goal.returns-clause-loaded
returns-clause-loaded g c = λ front rest d.
    let rows = c.rows_seen.ensures.rows in
    let inside = c.if-at-rows_seen.false in
    let h = headed _ front rest c.args.at c.rows_seen.ensures.packed d (omega arith) in
    let len = ap (λ x. x.len)
    (heads_it h c.unpack_head.result c.in-Some.head c.row.ensures.word c.unpack_head.ensures.inverts c.in-Some.is) in
    let all = first_rows_of h in
    let one = ap (λ (s : SeatValue _). s.view.loads) c.row.ensures.loaded in
    let more = c.in_ok-ops.ensures.loaded in
    omega arith

pub returns-then-at-rows_seen-clause-loaded : goal.returns-then-at-rows_seen-clause-loaded
returns-then-at-rows_seen-clause-loaded g c = λ front rest d.
    let rows = c.rows_seen.ensures.rows in
    let end = c.if-at-rows_seen.true in
    let none = ap first_rows (cut_end d (omega arith)) in
    omega arith
