use Rattle.script_run.proofs.WaitPlaces.{one_line}
use Rattle.script_run.proofs.waits.wait_places.Goals as goal

pub loop-at-preserved : goal.loop-at-preserved
loop-at-preserved c = one_line c.args.lines.now c.loop-at.at _ c.loop-at-test.true c.loop-at.places.items c.put_wait.new.places.items _
    c.in_ok-put_wait.ensures c.loop-at.invariant
