use Rattle.smack_program.proofs.Runs.{run_refused, run_unwritten}
use Rattle.smack_program.proofs.top.run_main.Goals as goal

pub returns-in-Err-run_bytes-clause-ends : goal.returns-in-Err-run_bytes-clause-ends
returns-in-Err-run_bytes-clause-ends g c =
    rw (c.requires, c.of_fault.ensures)
    (run_refused _ _ _ c.in-Ok.bytes.items c.in-Err-run_bytes.fault c.in-Ok.ensures.read
    (rw c.as_slice.ensures.value at c.in-Err-run_bytes.ensures))

pub returns-clause-ends : goal.returns-clause-ends
returns-clause-ends g c =
    rw c.requires
    (run_unwritten _ _ _ _ c.in-Ok.bytes.items c.in-Ok-run_bytes.ran.report c.in-Ok-run_bytes.ran.closed c.in-Err-write_record.status
    c.in-Ok.ensures.read (rw c.as_slice.ensures.value at c.in-Ok-run_bytes.ensures) c.in-Err-write_record.ensures.unwritten)
