use Rattle.std.proofs.Common.{arith, refl, ap, sym, subst, ◌≡◌, ◌∙◌, ◌++◌, ◌∷◌, [], length, length-append}
use Rattle.std.specs.Prelude.{map}
use Rattle.rule_word.specs.Layout.{op_word}
use Rattle.live_table.specs.Lists.{Has}
use Rattle.live_table.specs.Batches.{IsPacked, rows_of}
use Rattle.live_table.specs.Seats.{SeatValue}
use Rattle.smack_kernel.proofs.Filling.{with_filled, fills_one, publishes_all, batch_filled, all_one}
use Rattle.smack_kernel.proofs.publishing.publish_batch.Goals as goal

pub fill-requires-clause-room : goal.fill-requires-clause-room
fill-requires-clause-room c = let none = ap length c.requires.none in let room = c.requires.room in omega arith

pub fill_ops-requires-clause-pen : goal.fill_ops-requires-clause-pen
fill_ops-requires-clause-pen c =
    let s = c.args.seat.now in
    let mid = fills_one s s c.fill.new.seat s.view.filled c.pack_head.result refl c.fill.ensures.same c.fill.ensures.filled in
    ap (λ (z : SeatValue _). z.view.pen) mid ∙ c.requires.pen

pub fill_ops-requires-clause-room : goal.fill_ops-requires-clause-room
fill_ops-requires-clause-room c =
    let s = c.args.seat.now in
    let mid = fills_one s s c.fill.new.seat s.view.filled c.pack_head.result refl c.fill.ensures.same c.fill.ensures.filled in
    let none = ap length c.requires.none in
    let room = c.requires.room in
    let rows = ap (λ (z : SeatValue _). rows_of z.view.journal) mid in
    let filled = ap (λ (z : SeatValue _). length z.view.filled) mid in
    let one = length-append s.view.filled (c.pack_head.result ∷ []) in
    let ops = ap length c.items-2.ensures in
    omega arith

pub fill_ops-requires-clause-packed : goal.fill_ops-requires-clause-packed
fill_ops-requires-clause-packed c = λ op h. c.requires.packed.ops op (subst (Has op) c.items-2.ensures h)

pub publish-requires-clause-pen : goal.publish-requires-clause-pen
publish-requires-clause-pen c =
    let s = c.args.seat.now in
    let mid = fills_one s s c.fill.new.seat s.view.filled c.pack_head.result refl c.fill.ensures.same c.fill.ensures.filled in
    let all = c.fill_ops.ensures.filled
    ∙ ap (λ (z : SeatValue _). with_filled z (z.view.filled ++ map op_word c.items-2.result.now)) mid in
    ap (λ (z : SeatValue _). z.view.pen) all ∙ c.requires.pen

pub publish-requires-clause-whole : goal.publish-requires-clause-whole
publish-requires-clause-whole c =
    let s = c.args.seat.now in
    let mid = fills_one s s c.fill.new.seat s.view.filled c.pack_head.result refl c.fill.ensures.same c.fill.ensures.filled in
    let all = c.fill_ops.ensures.filled
    ∙ ap (λ (z : SeatValue _). with_filled z (z.view.filled ++ map op_word c.items-2.result.now)) mid in
    let b = c.args.batch.now in
    let words = ap (λ (z : SeatValue _). z.view.filled) all
    ∙ batch_filled s.view.filled c.items-2.result.now b c.pack_head.result
    (length c.items.result.now) c.requires.none c.pack_head.ensures (ap length c.items.ensures) c.items-2.ensures in
    let packed = all_one IsPacked b c.requires.packed in
    record {
      batches = b ∷ [];
      words = words;
      own = all_one (λ x. x.task ≡ c.fill_ops.new.seat.number) b
          (c.requires.own ∙ sym (ap (λ (z : SeatValue _). z.number) all));
      packed = packed;
    }

pub returns : goal.returns
returns c =
    let s = c.args.seat.now in
    let mid = fills_one s s c.fill.new.seat s.view.filled c.pack_head.result refl c.fill.ensures.same c.fill.ensures.filled in
    let all = c.fill_ops.ensures.filled
    ∙ ap (λ (z : SeatValue _). with_filled z (z.view.filled ++ map op_word c.items-2.result.now)) mid in
    let b = c.args.batch.now in
    let words = ap (λ (z : SeatValue _). z.view.filled) all
    ∙ batch_filled s.view.filled c.items-2.result.now b c.pack_head.result
    (length c.items.result.now) c.requires.none c.pack_head.ensures (ap length c.items.ensures) c.items-2.ensures in
    let packed = all_one IsPacked b c.requires.packed in
    record {
      published = publishes_all s c.fill_ops.new.seat c.publish.new.seat _ b all c.publish.ensures.same
          (c.publish.ensures.published (b ∷ []) words packed);
    }
