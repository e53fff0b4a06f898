use Rattle.std.proofs.Common.{arith, ap, sym, subst, ◌∙◌, ◌+◌, ◌<◌}
use Rattle.live_table.specs.Machines.{made}
use Rattle.live_table.specs.Seats.{NoticeValue}
use Rattle.live_table.proofs.TurnSteps.{enrols}
use Rattle.live_table.proofs.table.LiveTable.enrol.Goals as goal

pub fetch_add-number-requires : goal.fetch_add-number-requires
fetch_add-number-requires g c = (
  ap (λ (n : NoticeValue _). n.table) c.note.view_is ∙ (c.requires.table ∙ sym c.self.view_is),
  (let i = c.self.invariant in omega arith),
  enrols _ _ _ _ (ap (λ (n : NoticeValue _). n.view.marked) c.note.view_is ∙ c.requires.turn.1)
      (subst (λ (n : NoticeValue _). made g.M.Machine.means n.view.history + 1 < 4096)
      (sym c.note.view_is) c.requires.few),
)
