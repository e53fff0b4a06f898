use Rattle.rules_spec.specs.Versions.{floor}
use Rattle.world_spec.specs.Worlds.{World}
use Rattle.world_state.specs.declared.state.State.{State}

-- the world that some state is
abbrev pub world_seen : State → World
world_seen s = record { tasks = s.tasks; root = floor; files = s.files }
