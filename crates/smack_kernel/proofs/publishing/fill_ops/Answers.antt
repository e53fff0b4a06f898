use Rattle.std.proofs.Common.{arith, ap, sym, ◌≡◌, ◌∙◌, ◌++◌, ◌∷◌, [], length, take, append-nil}
use Rattle.std.specs.Prelude.{map}
use Rattle.std.proofs.Math.Seq.{take-length}
use Rattle.rule_word.specs.Layout.{op_word}
use Rattle.live_table.specs.Batches.{rows_of}
use Rattle.live_table.specs.Seats.{SeatValue}
use Rattle.smack_kernel.proofs.Filling.{has_at, filled_more, filled_length, with_filled, fills_one}
use Rattle.smack_kernel.proofs.publishing.fill_ops.Goals as goal

pub loop-op-init : goal.loop-op-init
loop-op-init c = let s = c.args.seat.now in ap (with_filled s) (sym (append-nil s.view.filled))

pub pack-requires : goal.pack-requires
pack-requires c = c.requires.packed _ (has_at c.args.ops.now c.loop-op.op-index _ c.loop-op-test.true)

pub fill-requires-clause-table : goal.fill-requires-clause-table
fill-requires-clause-table c = ap (λ (s : SeatValue _). s.table) c.loop-op.invariant ∙ c.requires.table

pub fill-requires-clause-pen : goal.fill-requires-clause-pen
fill-requires-clause-pen c = ap (λ (s : SeatValue _). s.view.pen) c.loop-op.invariant ∙ c.requires.pen

pub fill-requires-clause-room : goal.fill-requires-clause-room
fill-requires-clause-room c =
    let filled = ap (λ (s : SeatValue _). length s.view.filled) c.loop-op.invariant in
    let so_far = filled_length c.args.seat.now.view.filled c.args.ops.now c.loop-op.op-index c.loop-op.auto.op-index-end in
    let rows = ap (λ (s : SeatValue _). rows_of s.view.journal) c.loop-op.invariant in
    let room = c.requires.room in
    let inside = c.loop-op-test.true in
    omega arith

pub loop-op-preserved : goal.loop-op-preserved
loop-op-preserved c =
    let s = c.args.seat.now in
    let front = s.view.filled ++ map op_word (take c.loop-op.op-index c.args.ops.now) in
    fills_one s c.loop-op.seat c.fill.new.seat front c.pack.result c.loop-op.invariant c.fill.ensures.same c.fill.ensures.filled
    ∙ ap (with_filled s)
    (ap (λ w. front ++ w ∷ []) c.pack.ensures
    ∙ filled_more s.view.filled c.args.ops.now c.loop-op.op-index _ c.loop-op-test.true)

pub returns : goal.returns
returns c =
    let s = c.args.seat.now in
    let ops = c.args.ops.now in
    let end : c.loop-op.op-index ≡ length ops = (let a = c.loop-op-test.false in
    let b = c.loop-op.auto.op-index-end in omega arith) in
    record {
      filled = c.loop-op.invariant
          ∙ ap (λ z. with_filled s (s.view.filled ++ map op_word z)) (ap (λ n. take n ops) end ∙ take-length ops);
    }
