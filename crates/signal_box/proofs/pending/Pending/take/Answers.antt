use Rattle.std.proofs.Common.{ap, sym, ◌∙◌}
use Rattle.world_spec.specs.Signals.{least_signal, without_least}
use Rattle.signal_box.proofs.Places.{first_signal, none_below, no_signal}
use Rattle.signal_box.proofs.pending.Pending.take.Goals as goal

pub returns-in-Some-clause-signal : goal.returns-in-Some-clause-signal
returns-in-Some-clause-signal c = rw (← c.self.view_is) (sym (ap least_signal (first_signal c.in-Some.at c.self.inside.waits c.in-Some.ensures.place)))

pub returns-in-Some-clause-left : goal.returns-in-Some-clause-left
returns-in-Some-clause-left c = rw (← c.self.view_is) (sym (ap without_least (first_signal c.in-Some.at c.self.inside.waits c.in-Some.ensures.place)))

pub returns-in-Some-clause-least : goal.returns-in-Some-clause-least
returns-in-Some-clause-least c = rw (← c.self.view_is) (none_below c.in-Some.at c.self.inside.waits c.in-Some.ensures.place)

pub returns-in-None-clause-signal : goal.returns-in-None-clause-signal
returns-in-None-clause-signal c = rw (← c.self.view_is) (sym (ap least_signal (no_signal c.self.inside.waits c.in-None.ensures.place)))

pub returns-in-None-clause-left : goal.returns-in-None-clause-left
returns-in-None-clause-left c =
    let none = no_signal c.self.inside.waits c.in-None.ensures.place in
    rw (← c.self.view_is) (none ∙ sym (ap without_least none))
