use Rattle.std.proofs.Common.{◌-◌, arith}
use Rattle.signal_box.proofs.Places.{one_more_set, range_of}
use Rattle.signal_box.proofs.pending.Pending.put.Goals as goal

pub returns : goal.returns
returns c =
    let range = range_of c.args.sig c.requires in
    rw (← c.self.view_is) (one_more_set 1 c.args.sig (c.args.sig - 1) c.self.inside.waits (omega (arith, range.0)) (omega (arith, range.0, range.1)))
