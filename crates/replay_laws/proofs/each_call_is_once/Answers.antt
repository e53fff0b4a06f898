use Rattle.replay_laws.proofs.EachLine.{each_call_is_once}
use Rattle.replay_laws.proofs.each_call_is_once.Goals as goal

pub returns : goal.returns
returns c = each_call_is_once
