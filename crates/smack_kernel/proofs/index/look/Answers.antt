use Rattle.std.proofs.Common.{sym, subst}
use Rattle.live_table.specs.Seats.{SeatValue, Sees}
use Rattle.live_table.proofs.AfterSteps.{sees_loaded}
use Rattle.smack_kernel.proofs.Indexes.{stands_longer}
use Rattle.smack_kernel.proofs.index.look.Goals as goal

pub read_up-requires-clause-stands : goal.read_up-requires-clause-stands
read_up-requires-clause-stands g c = stands_longer c.see.ensures.seen.0.journal c.requires.stands

pub returns-clause-sees : goal.returns-clause-sees
returns-clause-sees g c = subst (λ (s : SeatValue _). Sees c.args.seat.now.view s.view) (sym c.read_up.ensures.same)
    (sees_loaded c.read_up.new.seat.view.loads c.see.ensures.seen.0)
