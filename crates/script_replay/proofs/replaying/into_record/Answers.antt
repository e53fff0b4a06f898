use Rattle.script_replay.proofs.PlainRecords.{replayed_are_plain}
use Rattle.script_replay.proofs.replaying.into_record.Goals as goal

pub returns-clause-plain : goal.returns-clause-plain
returns-clause-plain c = replayed_are_plain c.record_of.result c.args.script c.record_of.ensures.read c.record_of.ensures.replayed
