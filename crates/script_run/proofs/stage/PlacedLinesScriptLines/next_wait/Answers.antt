use Rattle.std.proofs.Common.{◌∙◌, map, subst}
use Rattle.live_table.specs.Lists.{Has}
use Rattle.script_text.specs.Lines.{call_seen}
use Rattle.script_run.specs.Waits.{AreOutside}
use Rattle.script_run.proofs.WaitPlaces.{none_between, wait_stands}
use Rattle.script_run.proofs.stage.PlacedLinesScriptLines.next_wait.Goals as goal

pub returns-clause-none : goal.returns-clause-none
returns-clause-none c =
    rw (← c.self.view_is)
    (none_between c.args.from c.least_between.result (map call_seen c.self.inside.lines.now)
    (subst (AreOutside c.args.from c.least_between.result) (c.as_slice.ensures.value ∙ c.self.invariant) c.least_between.ensures.none))

pub returns-clause-wait : goal.returns-clause-wait
returns-clause-wait c =
    rw (← c.self.view_is)
    (λ less. wait_stands c.least_between.result (map call_seen c.self.inside.lines.now)
    (subst (Has c.least_between.result) (c.as_slice.ensures.value ∙ c.self.invariant) (c.least_between.ensures.found less)))
