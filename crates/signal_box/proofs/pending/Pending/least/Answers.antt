use Rattle.std.proofs.Common.{ap, sym}
use Rattle.world_spec.specs.Signals.{least_signal}
use Rattle.signal_box.proofs.Places.{first_signal, no_signal}
use Rattle.signal_box.proofs.pending.Pending.least.Goals as goal

pub returns-in-Some : goal.returns-in-Some
returns-in-Some c = rw (← c.self.view_is) (sym (ap least_signal (first_signal c.in-Some.at c.self.inside.waits c.in-Some.ensures.place)))

pub returns-in-None : goal.returns-in-None
returns-in-None c = rw (← c.self.view_is) (sym (ap least_signal (no_signal c.self.inside.waits c.in-None.ensures.place)))
