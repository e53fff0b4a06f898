use Rattle.std.proofs.Common.{false}
use Rattle.task_table.proofs.Rows.{set_changed}
use Rattle.task_table.proofs.tasks.Tasks.exit.Goals as goal

pub returns : goal.returns
returns c =
    let within = rw (← c.self.view_is) at c.requires in
    rw (← c.self.view_is, c.exit.ensures)
    (set_changed c.self.inside.rows.items c.args.task (λ r. record r { live = false }) c.index_mut.result.now within c.index_mut.ensures.value)
