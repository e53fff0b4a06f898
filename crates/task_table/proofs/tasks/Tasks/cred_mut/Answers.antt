use Rattle.std.proofs.Common.{refl, sym, ap, ◌∙◌}
use Rattle.world_spec.specs.Worlds.{creds_or_first}
use Rattle.task_table.proofs.Rows.{set_changed, read_there}
use Rattle.task_table.proofs.tasks.Tasks.cred_mut.Goals as goal

pub returns : goal.returns
returns c =
    let row = c.index_mut.result.now in
    let within = rw (← c.self.view_is) at c.requires in
    rw (← c.self.view_is) (
      (refl, λ w. set_changed c.self.inside.rows.items c.args.task (λ r. record r { creds = w }) row within c.index_mut.ensures.value),
      record {
        writes_back = tt;
        value = c.cred_mut.ensures.value ∙ ap creds_or_first (sym (read_there (λ r. r.creds) c.self.inside.rows.items c.args.task row within c.index_mut.ensures.value));
      },
    )
