use Rattle.std.proofs.Common.{sym, ◌∙◌}
use Rattle.script_text.proofs.TaskLists.{place_found, place_past}
use Rattle.script_text.proofs.tasks.place_of.Goals as goal

pub returns-in-Some : goal.returns-in-Some
returns-in-Some c = place_found c.args.names.now c.args.name.now c.in-Some.at (sym c.in-Some.is ∙ c.first_of.ensures)

pub returns-in-None : goal.returns-in-None
returns-in-None c = place_past c.args.names.now c.args.name.now (sym c.in-None.is ∙ c.first_of.ensures)
