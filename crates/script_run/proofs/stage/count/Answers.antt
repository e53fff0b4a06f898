use Rattle.std.proofs.Common.{ap, sym, ◌∙◌, length}
use Rattle.live_table.proofs.Lists.{long_map}
use Rattle.script_text.specs.Lines.{call_seen}
use Rattle.script_run.proofs.stage.count.Goals as goal

pub returns : goal.returns
returns g c = sym (long_map call_seen c.calls.result.now) ∙ ap length c.calls.ensures
