use Rattle.std.proofs.Common.{arith, ap, sym, ◌∙◌, subst, List, ◌∷◌, ◌++◌, [], if◌then◌else◌}
use Rattle.atomic_table.specs.Table.{rest}
use Rattle.live_table.specs.Plays.{MayGive, given}
use Rattle.live_table.specs.Seats.{SeatValue}
use Rattle.live_table.proofs.AfterSteps.{slots_one, gives_after, gave_all, gives_seat}
use Rattle.live_table.proofs.table.LiveTable.give_turn.Goals as goal

pub exchange-requires : goal.exchange-requires
exchange-requires g c =
    let turn = ap (λ (s : SeatValue _). s.view.turn) c.seat.view_is ∙ c.requires.turn in
    let o = slots_one _ (c.seat.invariant.held ∙ ap (λ b. if b then 0 ∷ [] else []) turn) in (
      ap (λ (s : SeatValue _). s.table) c.seat.view_is ∙ (c.requires.table ∙ sym c.self.view_is),
      (o.0, o.1 ∙ ap (λ l. (0, o.0) ∷ rest l) (sym o.1)),
    )

pub store-requires : goal.store-requires
store-requires g c =
    let turn = ap (λ (s : SeatValue _). s.view.turn) c.seat.view_is ∙ c.requires.turn in
    let o = slots_one _ (c.seat.invariant.held ∙ ap (λ b. if b then 0 ∷ [] else []) turn) in
    let may = subst (λ (s : SeatValue _). (es : List _) × MayGive g.M.Machine.means s.view c.args.value es)
    (sym c.seat.view_is) c.requires.may in (
      c.exchange.ensures.0
          ∙ (ap (λ (s : SeatValue _). s.table) c.seat.view_is ∙ (c.requires.table ∙ sym c.self.view_is)),
      (let i = c.self.invariant in omega arith),
      gives_after _ g.M.Machine.lawful.longer _ _ _ _ c.args.value _ may.0 c.exchange.ensures.3
          (ap rest o.1) turn c.seat.invariant.settled may.1,
    )

pub invariant_of-seat : goal.invariant_of-seat
invariant_of-seat g c =
    let turn = ap (λ (s : SeatValue _). s.view.turn) c.seat.view_is ∙ c.requires.turn in
    let o = slots_one _ (c.seat.invariant.held ∙ ap (λ b. if b then 0 ∷ [] else []) turn) in
    let may = subst (λ (s : SeatValue _). (es : List _) × MayGive g.M.Machine.means s.view c.args.value es)
    (sym c.seat.view_is) c.requires.may in
    gives_seat _ _ _ _ _ may.0 c.seat.invariant
    (gave_all g.M.Machine.means 0 _ _ _ c.args.value _ c.exchange.ensures.3
    (ap rest o.1) c.store.ensures.2 may.0 may.1.history)

pub returns-clause-given : goal.returns-clause-given
returns-clause-given g c =
    let turn = ap (λ (s : SeatValue _). s.view.turn) c.seat.view_is ∙ c.requires.turn in
    let o = slots_one _ (c.seat.invariant.held ∙ ap (λ b. if b then 0 ∷ [] else []) turn) in
    λ es h. ap (λ z. z.0)
    (gave_all g.M.Machine.means 0 _ _ _ c.args.value _ c.exchange.ensures.3 (ap rest o.1) c.store.ensures.2 es
    (h ∙ ap (λ (s : SeatValue _). s.view.history ++ es) (sym c.seat.view_is)))
    ∙ ap (λ (s : SeatValue _). given s.view es) c.seat.view_is

pub returns-clause-counted : goal.returns-clause-counted
returns-clause-counted g c =
    let turn = ap (λ (s : SeatValue _). s.view.turn) c.seat.view_is ∙ c.requires.turn in
    let o = slots_one _ (c.seat.invariant.held ∙ ap (λ b. if b then 0 ∷ [] else []) turn) in
    let may = subst (λ (s : SeatValue _). (es : List _) × MayGive g.M.Machine.means s.view c.args.value es)
    (sym c.seat.view_is) c.requires.may in
    let is = gave_all g.M.Machine.means 0 _ _ _ c.args.value _ c.exchange.ensures.3
    (ap rest o.1) c.store.ensures.2 may.0 may.1.history in
    record {
      loads = ap (λ z. z.0.loads) is ∙ ap (λ (s : SeatValue _). s.view.loads) c.seat.view_is;
      looks = ap (λ z. z.0.looks) is ∙ ap (λ (s : SeatValue _). s.view.looks) c.seat.view_is;
      pens = ap (λ z. z.0.pens) is ∙ ap (λ (s : SeatValue _). s.view.pens) c.seat.view_is;
      ended_loads = ap (λ z. z.0.ended_loads) is ∙ ap (λ (s : SeatValue _). s.view.ended_loads) c.seat.view_is;
    }

pub returns-clause-seen : goal.returns-clause-seen
returns-clause-seen g c =
    let turn = ap (λ (s : SeatValue _). s.view.turn) c.seat.view_is ∙ c.requires.turn in
    let o = slots_one _ (c.seat.invariant.held ∙ ap (λ b. if b then 0 ∷ [] else []) turn) in
    let may = subst (λ (s : SeatValue _). (es : List _) × MayGive g.M.Machine.means s.view c.args.value es)
    (sym c.seat.view_is) c.requires.may in
    ap (λ z. z.0.journal)
    (gave_all g.M.Machine.means 0 _ _ _ c.args.value _ c.exchange.ensures.3 (ap rest o.1) c.store.ensures.2 may.0 may.1.history)
    ∙ ap (λ (s : SeatValue _). s.view.journal) c.seat.view_is
