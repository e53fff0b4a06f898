use Rattle.std.proofs.Common.{ap, sym, ◌∙◌, subst}
use Rattle.live_table.specs.declared.view.View.{View}
use Rattle.live_table.specs.Seats.{SeatValue, IsWhole, Closes}
use Rattle.live_table.proofs.AfterSteps.{whole_loaded, closes_loaded}
use Rattle.live_table.proofs.Closes.{closed_value}
use Rattle.live_table.proofs.Cuts.{some_one}
use Rattle.live_table.proofs.table.LiveTable.close.Goals as goal

pub unreachable-requires : goal.unreachable-requires
unreachable-requires g c =
    let same = ap (λ (s : SeatValue _). s.view) (c.seat.view_is ∙ c.read_journal.ensures.same) in
    let whole = subst (IsWhole g.M.Machine.means) (sym same)
    (whole_loaded g.M.Machine.means c.args.seat.view c.read_journal.new.seat.view.loads c.requires.whole) in
    let t = closed_value _ _ _ _ _ _ c.close_with-closed.ensures.values.2 whole c.take-value.ensures.value in
    let e = sym c.in-None.is ∙ t.1 in cc

pub returns-clause-value : goal.returns-clause-value
returns-clause-value g c =
    let same = ap (λ (s : SeatValue _). s.view) (c.seat.view_is ∙ c.read_journal.ensures.same) in
    let whole = subst (IsWhole g.M.Machine.means) (sym same)
    (whole_loaded g.M.Machine.means c.args.seat.view c.read_journal.new.seat.view.loads c.requires.whole) in
    let t = closed_value _ _ _ _ _ _ c.close_with-closed.ensures.values.2 whole c.take-value.ensures.value in
    let value = some_one (sym t.1 ∙ c.in-Some.is) in
    closes_loaded g.M.Machine.means c.args.seat.view c.read_journal.new.seat.view.loads _
    (subst (λ (z : View _ × _). Closes g.M.Machine.means z.0 z.1) (λ i. (same i, value i)) t.2)
