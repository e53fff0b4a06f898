use Rattle.std.specs.Prelude.{◌≡◌, ◌≢◌, ◌≤◌, ℕ, List, Result, Err, OnOk, OnErr}
use Rattle.outside.specs.Faults.{Rose}
use Rattle.outside.specs.Seen.{Seen}
use Rattle.outside.specs.Sink.{Appends, AppendsFront}
use Rattle.run_report.specs.declared.fault.ReportFault.{ReportFault}

-- A text was put to a sink: all of it was taken, or after a fault a front of it. The count of faults never falls, the sink
-- failed only where it rose, and every other answer leaves it as it was.
pub record IsPut (text : List ℕ) (before after : Seen) (result : Result (Unit {0}) ReportFault) : Type 0 where
  pub ok : OnOk result (Appends before.bytes after.bytes text)
  pub err : OnErr result (AppendsFront before.bytes after.bytes text)
  pub later : before.faults ≤ after.faults
  pub failed : result ≡ Err ReportFault.Failed → Rose before.faults after.faults
  pub told : result ≢ Err ReportFault.Failed → after.faults ≡ before.faults
