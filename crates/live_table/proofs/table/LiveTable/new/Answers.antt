use Rattle.std.proofs.Common.{sym, ap, ◌∙◌, ◌++◌, ◌∷◌, [], Some}
use Rattle.live_table.proofs.Opens.{opens, opens_seat}
use Rattle.live_table.proofs.table.LiveTable.new.Goals as goal

pub new-requires : goal.new-requires
new-requires g c = let o = rw (sym c.as_slice.ensures.value) at c.in_ok-words.ensures in
    let e = c.in_ok-push.ensures.items ∙ ap (λ l. l ++ Some c.args.first ∷ []) c.in_ok-slots.ensures.items in
    rw e (opens _ c.as_slice.result.now c.args.first o c.requires.0 c.requires.1)

pub invariant_of-seat : goal.invariant_of-seat
invariant_of-seat g c = opens_seat _ c.in-Ok.ensures.ok.4
