use Rattle.run_laws.proofs.Room.{runs_have_room}
use Rattle.run_laws.proofs.runs_have_room.Goals as goal

pub returns : goal.returns
returns c = runs_have_room
