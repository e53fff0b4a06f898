use Rattle.std.proofs.Common.{ap, sym, subst, ◌∙◌, ◌++◌, ◌∷◌, []}
use Rattle.world_spec.specs.declared.Entry.{Entry}
use Rattle.live_table.specs.declared.view.View.{View}
use Rattle.live_table.specs.Lists.{Begins}
use Rattle.smack_kernel.specs.Forks.{Forks}
use Rattle.smack_kernel.proofs.Forking.{drawn_may_give, forks_all}
use Rattle.smack_kernel.proofs.forks.give_with_child.Goals as goal

pub give_turn-requires-clause-may : goal.give_turn-requires-clause-may
give_turn-requires-clause-may c =
    let may = c.requires.may in (
      may.0 ∷ [],
      drawn_may_give c.args.seat.now.view c.draw-child.new.seat.view c.draw-child.result.view c.draw-child.result.number
          c.args.machine may.0 c.draw-child.ensures.drew may.1,
    )

pub returns-clause-forks : goal.returns-clause-forks
returns-clause-forks c = λ e trail.
    let d = c.draw-child.ensures.drew in
    let gave = c.give_turn.ensures.given (e ∷ []) (trail ∙ ap (λ l. l ++ e ∷ []) (sym d.history)) in
    let told = c.notice-told.ensures.told in
    subst (λ n. Forks c.args.seat.now.view c.notice-told.new.seat.view c.hear.new.seat.view n e)
    (sym c.hear.ensures.same.1)
    (forks_all c.args.seat.now.view c.draw-child.new.seat.view c.draw-child.result.view c.give_turn.new.seat.view
    c.notice-told.new.seat.view c.notice-told.result.view c.hear.new.seat.view c.draw-child.result.number told.0 e d gave
    told.3 told.4 c.hear.ensures.heard)

pub returns-clause-seen : goal.returns-clause-seen
returns-clause-seen c =
    subst (λ z. Begins z c.args.seat.now.view.journal)
    (sym (ap (λ (v : View Entry). v.journal) c.notice-told.ensures.told.3 ∙ c.give_turn.ensures.seen))
    c.draw-child.ensures.drew.journal

pub returns-clause-counted : goal.returns-clause-counted
returns-clause-counted c =
    let told = c.notice-told.ensures.told.3 in
    let gave = c.give_turn.ensures.counted in
    let drew = c.draw-child.ensures.drew.counts in
    record {
      loads = ap (λ (v : View Entry). v.loads) told ∙ (gave.loads ∙ drew.loads);
      looks = ap (λ (v : View Entry). v.looks) told ∙ (gave.looks ∙ drew.looks);
      pens = ap (λ (v : View Entry). v.pens) told ∙ (gave.pens ∙ drew.pens);
      ended_loads = ap (λ (v : View Entry). v.ended_loads) told ∙ (gave.ended_loads ∙ drew.ended_loads);
    }
