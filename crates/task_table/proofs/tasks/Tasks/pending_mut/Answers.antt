use Rattle.std.proofs.Common.{refl, sym, ap, ◌∙◌}
use Rattle.world_spec.specs.Worlds.{pending_or_none}
use Rattle.task_table.proofs.Rows.{set_changed, read_there}
use Rattle.task_table.proofs.tasks.Tasks.pending_mut.Goals as goal

pub returns : goal.returns
returns c =
    let row = c.index_mut.result.now in
    let within = rw (← c.self.view_is) at c.requires in
    rw (← c.self.view_is) (
      (refl, λ w. set_changed c.self.inside.rows.items c.args.task (λ r. record r { pending = w }) row within c.index_mut.ensures.value),
      record {
        writes_back = tt;
        value = c.pending_mut.ensures.value ∙ ap pending_or_none (sym (read_there (λ r. r.pending) c.self.inside.rows.items c.args.task row within c.index_mut.ensures.value));
      },
    )
