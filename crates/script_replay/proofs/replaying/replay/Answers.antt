use Rattle.script_replay.proofs.PlainRecords.{replayed_are_plain}
use Rattle.script_replay.proofs.replaying.replay.Goals as goal

pub returns-clause-plain : goal.returns-clause-plain
returns-clause-plain c = replayed_are_plain c.record_of_copy.result c.args.script.now c.record_of_copy.ensures.read c.record_of_copy.ensures.replayed
