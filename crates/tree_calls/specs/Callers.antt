use Rattle.std.specs.Prelude.{List}
use Rattle.rule_fold.specs.Index.{ruling_of}
use Rattle.world_spec.specs.declared.Part.{Part}
use Rattle.world_spec.specs.declared.trees.TreeCall.{TreeCall}
use Rattle.world_spec.specs.TreeCalls.{tree_asks}
use Rattle.world_state.specs.Seen.{world_seen}
use Rattle.world_state.specs.declared.caller.Caller.{Caller}

-- what a call of the caller is refused for and what it asks
abbrev pub tree_asks_of : Caller → TreeCall → List Part
tree_asks_of caller call = tree_asks (world_seen caller.state.now) (ruling_of caller.rules.now) caller.task caller.cred.now call
