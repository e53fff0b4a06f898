use Rattle.smack_program.proofs.Replays.{replay_refused, replay_unwritten}
use Rattle.smack_program.proofs.top.replay_main.Goals as goal

pub returns-in-Err-replay_bytes-clause-ends : goal.returns-in-Err-replay_bytes-clause-ends
returns-in-Err-replay_bytes-clause-ends g c =
    rw c.of_fault.ensures
    (replay_refused _ _ _ c.in-Ok.bytes.items c.in-Err-replay_bytes.fault c.in-Ok.ensures.read
    (rw c.as_slice.ensures.value at c.in-Err-replay_bytes.ensures))

pub returns-clause-ends : goal.returns-clause-ends
returns-clause-ends g c =
    replay_unwritten _ _ _ _ c.in-Ok.bytes.items c.in-Ok-replay_bytes.record c.in-Err-write_record.status c.in-Ok.ensures.read
    (rw c.as_slice.ensures.value at c.in-Ok-replay_bytes.ensures) c.in-Err-write_record.ensures.unwritten
